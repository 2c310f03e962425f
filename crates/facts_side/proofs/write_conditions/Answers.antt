use Rattle.text.proofs.Writing.{rooms, then}
use Rattle.facts_side.specs.Sides.{conditions_text}
use Rattle.facts_side.proofs.write_conditions.Goals as goal

pub write_set_and_days-i-requires : goal.write_set_and_days-i-requires
unfolding conditions_text
write_set_and_days-i-requires c = search rooms depth 24

pub write_bytes-requires : goal.write_bytes-requires
unfolding conditions_text
write_bytes-requires c = search rooms depth 24

pub write_value_or_none-requires : goal.write_value_or_none-requires
unfolding conditions_text
write_value_or_none-requires c = search rooms depth 24

pub returns : goal.returns
unfolding conditions_text
returns c = search then
