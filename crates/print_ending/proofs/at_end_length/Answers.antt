use Rattle.text.proofs.Writing.{length_joined}
use Rattle.rules.specs.Conditions.{at_end}
use borrow.Author.Rules.{rules}
use Rattle.print_ending.proofs.at_end_length.Goals as goal

pub returns : goal.returns
unfolding at_end
returns c = (search length_joined, search rules)
