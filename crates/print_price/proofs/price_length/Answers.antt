use Rattle.print_price.proofs.Texts.{priced_length}
use borrow.Author.Rules.{rules}
use Rattle.print_price.proofs.price_length.Goals as goal

pub returns : goal.returns
returns c = (search priced_length, search rules)
