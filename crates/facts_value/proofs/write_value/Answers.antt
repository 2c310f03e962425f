use Rattle.text.proofs.Writing.{rooms, then}
use Rattle.facts_value.specs.Values.{value_text}
use Rattle.facts_value.proofs.write_value.Goals as goal

pub write_decimal-at-requires : goal.write_decimal-at-requires
unfolding value_text
write_decimal-at-requires c = search rooms depth 24

pub write_point-requires : goal.write_point-requires
unfolding value_text
write_point-requires c = search rooms depth 24

pub returns : goal.returns
unfolding value_text
returns c = search then
