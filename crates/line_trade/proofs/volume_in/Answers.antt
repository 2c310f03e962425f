use Rattle.line_trade.proofs.Worth.{volume_behind}
use Rattle.line_trade.proofs.volume_in.Goals as goal

pub returns-then-line-eq32 : goal.returns-then-line-eq32
returns-then-line-eq32 c = search volume_behind
