use Rattle.text.proofs.Writing.{rooms, then}
use Rattle.facts_line.specs.Lines.{correction_text}
use Rattle.facts_line.proofs.write_correction.Goals as goal

pub write_sided-i-requires : goal.write_sided-i-requires
unfolding correction_text
write_sided-i-requires c = search rooms depth 24

pub write_bytes-requires : goal.write_bytes-requires
unfolding correction_text
write_bytes-requires c = search rooms depth 24

pub write_part-requires : goal.write_part-requires
unfolding correction_text
write_part-requires c = search rooms depth 24

pub write_bytes-requires-2 : goal.write_bytes-requires-2
unfolding correction_text
write_bytes-requires-2 c = search rooms depth 24

pub returns : goal.returns
unfolding correction_text
returns c = search then
