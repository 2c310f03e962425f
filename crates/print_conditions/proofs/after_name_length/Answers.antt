use Rattle.text.proofs.Writing.{length_joined}
use Rattle.rules.specs.Conditions.{after_name}
use borrow.Author.Rules.{rules}
use Rattle.print_conditions.proofs.after_name_length.Goals as goal

pub returns : goal.returns
unfolding after_name
returns c = (search length_joined, search rules)
