use borrow.Author.Rules.{rules}
use Rattle.text.proofs.Writing.{options}
use Rattle.text.proofs.optional_length.Goals as goal

pub returns-then-test : goal.returns-then-test
returns-then-test c = (search options, search rules)

pub returns-else-test : goal.returns-else-test
returns-else-test c = (search options, search rules)
