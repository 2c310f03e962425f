use Rattle.line_trade.proofs.Fields.{values_read}
use Rattle.line_trade.proofs.read_values.Goals as goal

pub returns : goal.returns
returns c = search values_read depth 40 fits 10000
