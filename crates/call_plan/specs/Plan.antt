-- What a line asks for, by the state that settings and tables hold: the first refusal of 1 to 12 that stops it, or what it prints and stores. Assumes nothing.
use Rattle.std.specs.Prelude.{ℕ, ◌-◌, Bool, true, false, ◌&&◌, not, List, leb, eqb}
use Rattle.text.specs.Pick.{pick}
use Rattle.rules.specs.Columns.{column}
use Rattle.rules.specs.Conditions.{on_network}
use Rattle.rules.specs.Trade.{prints_trade, trade_form, trade_shows, after_trade}
use Rattle.rules.specs.Correction.{prints_correction, correction_form, correction_shows, cancel_form, cancel_shows, after_correction}
use Rattle.rules.specs.Line.{is_shaped, is_kind, is_formed, is_ranged, line_of, name_columns}
use Rattle.rules.specs.Day.{is_entered, shows_temporary, entered, taken_name}
use Rattle.rules.specs.declared.Listing.{Listing}
use Rattle.rules.specs.declared.Trade.{Trade}
use Rattle.rules.specs.declared.Correction.{Correction}
use Rattle.rules.specs.declared.Line.{Line}
use Rattle.rules.specs.declared.Line.TheVariants.{Dated, Listed, Moded, Leveled, Stepped, Traded, Cancelled, Erred, Corrected}
use Rattle.rules.specs.declared.Refusal.TheVariants.{Shape, Kind, NoDate, Form, Value, NotEntered, InUse, Name, SameName, Conditions, Unmatched, DateOrder}
use Rattle.rules.specs.declared.Settings.{Settings}
use Rattle.rules.specs.declared.Security.{Security}
use Rattle.rules.specs.Sizes.{security_places}
use Rattle.call_table.specs.Rows.{row, rows_from, names_from}
use Rattle.call_plan.specs.declared.TradePlan.{TradePlan}
use Rattle.call_plan.specs.declared.CancelPlan.{CancelPlan}
use Rattle.call_plan.specs.declared.CorrectionPlan.{CorrectionPlan}
use Rattle.call_plan.specs.declared.Plan.{Plan}
use Rattle.call_plan.specs.declared.Plan.TheVariants.{Stop, Open, Enter, Change, Level, Step, Print, Cancel, Correct}

-- D
unfoldable pub date_plan : Settings → ℕ → Plan
date_plan st n = pick (leb n st.date) (Stop DateOrder) (Open n)

-- S
unfoldable pub listing_plan : List ℕ → List ℕ → List ℕ → Listing → Plan
listing_plan table names name l =
    pick (is_entered (row table (l.number - 1))) (Stop InUse)
    (pick (not l.lawful) (Stop Name)
    (pick (taken_name name (rows_from security_places 0 table) (names_from security_places 0 names)) (Stop SameName)
    (Enter (l.number - 1) (entered l))))

-- T: how it prints, and the security after it
unfoldable pub print_plan : Settings → Security → Trade → TradePlan
print_plan st s t = record {
  place = t.security - 1;
  side = t.side;
  network = s.issue.network;
  unit = s.issue.unit;
  temporary = shows_temporary s;
  prints = prints_trade st s t.market t.side;
  form = trade_form st s t.market t.side;
  shows = trade_shows st s t.market t.side;
  after = after_trade st s t.market t.side;
}

-- T, X, E, C: refusals 6, 10 and 11, then the line's own
unfoldable pub unless_stopped : Security → (lawful matched : Bool) → Plan → Plan
unless_stopped s lawful matched p =
    pick (not (is_entered s)) (Stop NotEntered)
    (pick (not lawful) (Stop Conditions)
    (pick (not matched) (Stop Unmatched) p))

-- the letters of T, X, E: lawful by themselves, and on the security's network
abbrev pub is_lawful : Security → Trade → Bool
is_lawful s t = t.lawful && on_network s.issue.network t.side.letters

-- those of both sides of C
abbrev pub are_lawful : Security → Correction → Bool
are_lawful s c = c.lawful && (on_network s.issue.network c.original.letters && on_network s.issue.network c.correcting.letters)

unfoldable pub trade_plan : Settings → Security → Trade → Plan
trade_plan st s t = unless_stopped s (is_lawful s t) t.matched (Print (print_plan st s t))

-- X, E: how it prints; it moves nothing
unfoldable pub cancel_of : Bool → Settings → Security → Trade → CancelPlan
cancel_of error st s t = record {
  error = error;
  place = t.security - 1;
  side = t.side;
  network = s.issue.network;
  unit = s.issue.unit;
  form = cancel_form st s t.side;
  shows = cancel_shows st t.side;
}

unfoldable pub cancel_plan : Bool → Settings → Security → Trade → Plan
cancel_plan error st s t = unless_stopped s (is_lawful s t) t.matched (Cancel (cancel_of error st s t))

-- C: how it prints, and the security after it
unfoldable pub correction_of : Settings → Security → Correction → CorrectionPlan
correction_of st s c = record {
  place = c.security - 1;
  original = c.original;
  correcting = c.correcting;
  network = s.issue.network;
  unit = s.issue.unit;
  prints = prints_correction st s c.original c.correcting;
  form = correction_form st s c.original c.correcting;
  shows = correction_shows st c.original c.correcting;
  after = after_correction s c.correcting;
}

unfoldable pub correction_plan : Settings → Security → Correction → Plan
correction_plan st s c = unless_stopped s (are_lawful s c) c.matched (Correct (correction_of st s c))

-- a line that is in its form and within its values
unfoldable pub line_plan : Settings → List ℕ → List ℕ → List ℕ → Line → Plan
line_plan st table names name (Dated n) = date_plan st n
line_plan st table names name (Listed l) = listing_plan table names name l
line_plan st table names name (Moded m) = Change m
line_plan st table names name (Leveled n) = Level n
line_plan st table names name (Stepped n) = Step n
line_plan st table names name (Traded t) = trade_plan st (row table (t.security - 1)) t
line_plan st table names name (Cancelled t) = cancel_plan false st (row table (t.security - 1)) t
line_plan st table names name (Erred t) = cancel_plan true st (row table (t.security - 1)) t
line_plan st table names name (Corrected c) = correction_plan st (row table (c.security - 1)) c

-- 4 and 5, then the line's own
unfoldable pub read_plan : Settings → List ℕ → List ℕ → List ℕ → Plan
read_plan st table names line =
    pick (not (is_formed line)) (Stop Form)
    (pick (not (is_ranged line)) (Stop Value)
    (line_plan st table names (name_columns line) (line_of line)))

-- by number
unfoldable pub plan_of : Settings → List ℕ → List ℕ → List ℕ → Plan
plan_of st table names line =
    pick (not (is_shaped line)) (Stop Shape)
    (pick (not (is_kind (column 1 line))) (Stop Kind)
    (pick (not (eqb (column 1 line) 68) && eqb st.date 0) (Stop NoDate)
    (read_plan st table names line)))
