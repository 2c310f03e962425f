-- The premise of demand 3: outside normal mode no trade prints with a whole price of 1 to 9 dollars when the last printed price of that security was 10 dollars or more. Assumes nothing.
use Rattle.std.specs.Prelude.{◌≡◌, Bool, false, ◌&&◌, not, List, [], ◌∷◌, leb}
use Rattle.std.proofs.Math.Option.{none, some}
use Rattle.rules.specs.Columns.{between}
use Rattle.rules.specs.Price.{whole_part}
use Rattle.rules.specs.Trade.{prints_trade, is_normal, dollars}
use Rattle.rules.specs.Line.{line_of}
use Rattle.rules.specs.Day.{Day, Call, security_at, refusal_of, after}
use Rattle.rules.specs.declared.Trade.{Trade}
use Rattle.rules.specs.declared.Line.{Line}
use Rattle.rules.specs.declared.Line.TheVariants.{Dated, Listed, Moded, Leveled, Stepped, Traded, Cancelled, Erred, Corrected}

-- an accepted trade that the premise rules out
unfoldable pub trade_falls : Day → Trade → Bool
trade_falls day t =
    let s = security_at day t.security in
    not (is_normal day.settings.mode)
    && (prints_trade day.settings s t.market t.side
    && (between 1 9 (whole_part t.side.price)
    && leb 10 (dollars s.printed.price)))

unfoldable pub falls : Day → Line → Bool
falls day (Dated n) = false
falls day (Listed l) = false
falls day (Moded m) = false
falls day (Leveled n) = false
falls day (Stepped n) = false
falls day (Traded t) = trade_falls day t
falls day (Cancelled t) = false
falls day (Erred t) = false
falls day (Corrected c) = false

unfoldable pub call_falls : Day → Call → Bool
call_falls day c = elim (refusal_of day c.line c.room) [ some r ↦ false | none ↦ falls day (line_of c.line) ]

-- the premise on a list of calls
abbrev pub Premise : Day → List Call → Type 0
Premise day [] = Unit {0}
Premise day (c ∷ l) = (call_falls day c ≡ false) × Premise (after day c) l
