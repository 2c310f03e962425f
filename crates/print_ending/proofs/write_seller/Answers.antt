use Rattle.text.proofs.Writing.{options}
use Rattle.print_ending.proofs.write_seller.Goals as goal

pub write_days-requires : goal.write_days-requires
write_days-requires c = search options

pub returns-then-r : goal.returns-then-r
returns-then-r c = search options

pub returns-else-r : goal.returns-else-r
returns-else-r c = search options
