use Rattle.text.proofs.Writing.{options}
use borrow.Author.Rules.{rules}
use Rattle.print_ending.proofs.write_previous.Goals as goal

pub write_last-requires : goal.write_last-requires
write_last-requires c = (search rules, search options)

pub returns-then-g : goal.returns-then-g
returns-then-g c = search options

pub returns-else-g : goal.returns-else-g
returns-else-g c = search options
