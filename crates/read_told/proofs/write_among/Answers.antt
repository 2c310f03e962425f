use Rattle.text.proofs.Writing.{rooms, then}
use Rattle.read_told.specs.Lines.{among_text}
use Rattle.read_told.proofs.write_among.Goals as goal

pub write_bytes-i-requires : goal.write_bytes-i-requires
unfolding among_text
write_bytes-i-requires c = search rooms depth 24

pub write_side-requires : goal.write_side-requires
unfolding among_text
write_side-requires c = search rooms depth 24

pub write_bytes-requires : goal.write_bytes-requires
unfolding among_text
write_bytes-requires c = search rooms depth 24

pub returns : goal.returns
unfolding among_text
returns c = search then
