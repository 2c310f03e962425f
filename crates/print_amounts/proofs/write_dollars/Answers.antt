use Rattle.print_amounts.proofs.Prices.{whole_small, price_written}
use borrow.Author.Rules.{rules}
use Rattle.print_amounts.proofs.write_dollars.Goals as goal

pub dollars_size-k-requires : goal.dollars_size-k-requires
dollars_size-k-requires c = (search rules, search whole_small)

pub returns : goal.returns
returns c = search price_written
