use Rattle.text.proofs.Writing.{rooms, then}
use Rattle.rules.specs.Conditions.{after_name}
use Rattle.print_conditions.proofs.write_after_name.Goals as goal

pub write_next_day-at-requires : goal.write_next_day-at-requires
unfolding after_name
write_next_day-at-requires c = search rooms depth 9

pub write_optional-requires : goal.write_optional-requires
unfolding after_name
write_optional-requires c = search rooms depth 9

pub write_optional-requires-2 : goal.write_optional-requires-2
unfolding after_name
write_optional-requires-2 c = search rooms depth 9

pub write_optional-requires-3 : goal.write_optional-requires-3
unfolding after_name
write_optional-requires-3 c = search rooms depth 9

pub returns : goal.returns
unfolding after_name
returns c = search then
