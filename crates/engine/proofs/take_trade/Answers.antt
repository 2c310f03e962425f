use mathlib.Core.Path.{sym, ◌∙◌}
use Rattle.engine.proofs.TradeCalls.{undated, no_good}
use Rattle.engine.proofs.take_trade.Goals as goal

pub returns-then-st-eq0 : goal.returns-then-st-eq0
returns-then-st-eq0 c = search undated

pub returns-in-None : goal.returns-in-None
returns-in-None c = no_good _ _ _ _ _ (sym c.in-None.is ∙ c.read_trade_line.ensures)
