use Rattle.facts_block.proofs.Calls.{count_fits, count_taken, entry_room, call_shown}
use Rattle.facts_block.proofs.FactsTell.take.Goals as goal

pub slice_bounds-tape-end : goal.slice_bounds-tape-end
slice_bounds-tape-end c = search count_fits

pub slice_bounds-write_entry-end : goal.slice_bounds-write_entry-end
slice_bounds-write_entry-end c = search count_taken

pub write_entry-requires : goal.write_entry-requires
write_entry-requires c = search entry_room

pub returns : goal.returns
returns c = search call_shown
