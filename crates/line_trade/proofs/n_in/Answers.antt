use Rattle.line_trade.proofs.Worth.{n_behind}
use Rattle.line_trade.proofs.n_in.Goals as goal

pub returns-then-line-eq32 : goal.returns-then-line-eq32
returns-then-line-eq32 c = search n_behind
