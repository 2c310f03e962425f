use Rattle.text.proofs.Writing.{rooms, then}
use Rattle.facts_side.specs.Sides.{priced_text}
use Rattle.facts_side.proofs.write_priced.Goals as goal

pub write_bytes-i-requires : goal.write_bytes-i-requires
unfolding priced_text
write_bytes-i-requires c = search rooms depth 24

pub write_value-requires : goal.write_value-requires
unfolding priced_text
write_value-requires c = search rooms depth 24

pub write_bytes-requires : goal.write_bytes-requires
unfolding priced_text
write_bytes-requires c = search rooms depth 24

pub write_conditions-requires : goal.write_conditions-requires
unfolding priced_text
write_conditions-requires c = search rooms depth 24

pub returns : goal.returns
unfolding priced_text
returns c = search then
