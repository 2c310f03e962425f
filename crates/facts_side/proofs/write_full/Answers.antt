use Rattle.text.proofs.Writing.{rooms, then}
use Rattle.facts_side.specs.Sides.{full_text}
use Rattle.facts_side.proofs.write_full.Goals as goal

pub write_priced-i-requires : goal.write_priced-i-requires
unfolding full_text
write_priced-i-requires c = search rooms depth 24

pub write_bytes-requires : goal.write_bytes-requires
unfolding full_text
write_bytes-requires c = search rooms depth 24

pub write_decimal-requires : goal.write_decimal-requires
unfolding full_text
write_decimal-requires c = search rooms depth 24

pub returns : goal.returns
unfolding full_text
returns c = search then
