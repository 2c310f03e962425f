use Rattle.text.proofs.Writing.{rooms, then}
use Rattle.facts_line.specs.Lines.{sided_text}
use Rattle.facts_line.proofs.write_sided.Goals as goal

pub write_bytes-i-requires : goal.write_bytes-i-requires
unfolding sided_text
write_bytes-i-requires c = search rooms depth 24

pub write_decimal-requires : goal.write_decimal-requires
unfolding sided_text
write_decimal-requires c = search rooms depth 24

pub write_bytes-requires : goal.write_bytes-requires
unfolding sided_text
write_bytes-requires c = search rooms depth 24

pub write_part-requires : goal.write_part-requires
unfolding sided_text
write_part-requires c = search rooms depth 24

pub returns : goal.returns
unfolding sided_text
returns c = search then
