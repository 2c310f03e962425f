use Rattle.text.proofs.Parts.{front_length}
use Rattle.name_text.proofs.Laying.{own_word, own_room}
use borrow.Author.Rules.{rules}
use Rattle.name_text.proofs.lay_word.Goals as goal

pub slice_bounds-write_bytes-end-2 : goal.slice_bounds-write_bytes-end-2
slice_bounds-write_bytes-end-2 c = search front_length

pub write_bytes-requires : goal.write_bytes-requires
write_bytes-requires c = search own_room

pub returns : goal.returns
returns c = (search own_word, search rules)
