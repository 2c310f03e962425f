use Rattle.text.proofs.Writing.{options, length_joined}
use Rattle.rules.specs.Conditions.{previous_text}
use borrow.Author.Rules.{rules}
use Rattle.print_ending.proofs.previous_length.Goals as goal

pub returns-then-g : goal.returns-then-g
unfolding previous_text
returns-then-g c = (search (options, length_joined), search rules)

pub returns-else-g : goal.returns-else-g
unfolding previous_text
returns-else-g c = (search (options, length_joined), search rules)
