use Rattle.text.proofs.Writing.{rooms, then}
use Rattle.read_told.specs.Lines.{name_text}
use Rattle.read_told.proofs.write_name.Goals as goal

pub write_bytes-i-requires : goal.write_bytes-i-requires
unfolding name_text
write_bytes-i-requires c = search rooms depth 24

pub write_bytes-requires : goal.write_bytes-requires
unfolding name_text
write_bytes-requires c = search rooms depth 24

pub write_bytes-requires-2 : goal.write_bytes-requires-2
unfolding name_text
write_bytes-requires-2 c = search rooms depth 24

pub returns : goal.returns
unfolding name_text
returns c = search then
