use Rattle.text.proofs.Writing.{answers}
use borrow.Author.Rules.{rules}
use Rattle.print_conditions.proofs.cash_length.Goals as goal

pub returns : goal.returns
returns c = (search answers, search rules)
