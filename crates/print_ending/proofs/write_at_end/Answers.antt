use Rattle.text.proofs.Writing.{rooms, then}
use Rattle.rules.specs.Conditions.{at_end}
use borrow.Author.Rules.{rules}
use Rattle.print_ending.proofs.write_at_end.Goals as goal

pub write_seller-at-requires : goal.write_seller-at-requires
unfolding at_end
write_seller-at-requires c = search rooms depth 9

pub write_optional-requires : goal.write_optional-requires
unfolding at_end
write_optional-requires c = search rooms depth 9

pub write_previous-requires : goal.write_previous-requires
unfolding at_end
write_previous-requires c = (search rules, search rooms depth 9)

pub returns : goal.returns
unfolding at_end
returns c = search then
