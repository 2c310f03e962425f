use Rattle.text.proofs.Writing.{options, length_joined}
use Rattle.rules.specs.Conditions.{seller_text}
use borrow.Author.Rules.{rules}
use Rattle.print_ending.proofs.seller_length.Goals as goal

pub returns-then-r : goal.returns-then-r
unfolding seller_text
returns-then-r c = (search (options, length_joined), search rules)

pub returns-else-r : goal.returns-else-r
unfolding seller_text
returns-else-r c = (search (options, length_joined), search rules)
