use Rattle.text.proofs.Writing.{rooms, then}
use Rattle.rules.specs.Conditions.{after_price}
use Rattle.print_conditions.proofs.write_after_price.Goals as goal

pub write_cash-at-requires : goal.write_cash-at-requires
unfolding after_price
write_cash-at-requires c = search rooms depth 9

pub write_optional-requires : goal.write_optional-requires
unfolding after_price
write_optional-requires c = search rooms depth 9

pub write_optional-requires-2 : goal.write_optional-requires-2
unfolding after_price
write_optional-requires-2 c = search rooms depth 9

pub returns : goal.returns
unfolding after_price
returns c = search then
