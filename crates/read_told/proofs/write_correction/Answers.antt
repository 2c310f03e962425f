use Rattle.text.proofs.Writing.{rooms, then}
use Rattle.read_told.specs.Lines.{correction_text}
use Rattle.read_told.proofs.write_correction.Goals as goal

pub write_among-i-requires : goal.write_among-i-requires
unfolding correction_text
write_among-i-requires c = search rooms depth 24

pub write_side-requires : goal.write_side-requires
unfolding correction_text
write_side-requires c = search rooms depth 24

pub write_bytes-requires : goal.write_bytes-requires
unfolding correction_text
write_bytes-requires c = search rooms depth 24

pub returns : goal.returns
unfolding correction_text
returns c = search then
