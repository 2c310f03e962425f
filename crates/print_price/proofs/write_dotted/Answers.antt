use Rattle.text.proofs.Writing.{then}
use Rattle.print_price.proofs.write_dotted.Goals as goal

pub returns : goal.returns
returns c = search then
