use borrow.Author.Tests.{not-true, not-false}
use Rattle.text.proofs.Writing.{options}
use borrow.Author.Rules.{rules}
use Rattle.print_amounts.proofs.write_volume.Goals as goal

pub returns-then-not-shows : goal.returns-then-not-shows
returns-then-not-shows c = search (options, not-true)

pub returns-then-rest-ge24 : goal.returns-then-rest-ge24
returns-then-rest-ge24 c = search (options, not-false)

pub write_volume-requires : goal.write_volume-requires
write_volume-requires c = (search rules, search (options, not-false))

pub returns-else-v-lt10000 : goal.returns-else-v-lt10000
returns-else-v-lt10000 c = search (options, not-false)
