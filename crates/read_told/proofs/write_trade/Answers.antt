use Rattle.text.proofs.Writing.{then}
use Rattle.read_told.proofs.write_trade.Goals as goal

pub returns : goal.returns
returns c = search then
