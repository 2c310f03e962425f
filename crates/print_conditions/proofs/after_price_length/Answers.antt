use Rattle.text.proofs.Writing.{length_joined}
use Rattle.rules.specs.Conditions.{after_price}
use borrow.Author.Rules.{rules}
use Rattle.print_conditions.proofs.after_price_length.Goals as goal

pub returns : goal.returns
unfolding after_price
returns c = (search length_joined, search rules)
