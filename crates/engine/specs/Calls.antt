-- Calls with a T line that refusals 1 to 5 and 11 do not stop. Assumes nothing.
use Rattle.std.specs.Prelude.{ℕ, ◌≡◌, List, Some}
use Rattle.rules.specs.declared.Settings.{Settings}
use Rattle.line_trade.specs.declared.TradeLine.{TradeLine}
use Rattle.line_trade.specs.TradeLine.{trade_line}

-- a good T line after a D, and what it was read as
pub record GoodCall (st : Settings) (line : List ℕ) (t : TradeLine) : Type 0 where
  pub dated : st.date ≡ 0 → ⊥
  pub read : Some t ≡ trade_line line
