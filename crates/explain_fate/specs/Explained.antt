-- What becomes of a line, and why, by the rules: the reasons (crate explain_reasons) of what prints, on the day that a call finds. Assumes nothing.
use Rattle.std.specs.Prelude.{ℕ, ◌≡◌, Bool, true, false, ◌&&◌, List, leb, length}
use Rattle.std.proofs.Math.Option.{none, some}
use Rattle.text.specs.Pick.{pick}
use Rattle.rules.specs.Columns.{column}
use Rattle.rules.specs.Trade.{prints_trade}
use Rattle.rules.specs.Correction.{prints_correction, is_mpv}
use Rattle.rules.specs.Line.{is_shaped, is_kind, is_formed, is_ranged, line_of}
use Rattle.rules.specs.Refusal.{number_of, refusal_number}
use Rattle.rules.specs.Day.{Day, Call, security_at, refusal_of, tape_of}
use Rattle.rules.specs.declared.Mode.{Mode}
use Rattle.rules.specs.declared.Trade.{Trade}
use Rattle.rules.specs.declared.Correction.{Correction}
use Rattle.rules.specs.declared.Line.{Line}
use Rattle.rules.specs.declared.Line.TheVariants.{Dated, Listed, Moded, Leveled, Stepped, Traded, Cancelled, Erred, Corrected}
use Rattle.rules.specs.declared.Settings.{Settings}
use Rattle.rules.specs.declared.Security.{Security}
use Rattle.explain_reasons.specs.Reasons.{always, trade_prints, correction_prints, trade_full_by, correction_full_by, cancel_full_by, trade_shows_by, correction_shows_by, cancel_shows_by, some_print}
use Rattle.explain_fate.specs.declared.Fate.{Fate}
use Rattle.explain_fate.specs.declared.Fate.TheVariants.{Refused, Accepted, Announced, LeftOff, Printed}
use Rattle.explain_fate.specs.declared.Explanation.{Explanation}

-- ---- what a line says by itself

-- the security that a line names, 0 for none
unfoldable pub security_of : Line → ℕ
security_of (Dated n) = 0
security_of (Listed l) = l.number
security_of (Moded m) = 0
security_of (Leveled n) = 0
security_of (Stepped n) = 0
security_of (Traded t) = t.security
security_of (Cancelled t) = t.security
security_of (Erred t) = t.security
security_of (Corrected c) = c.security

-- its security, where it is in its form and within its values
unfoldable pub security_in : List ℕ → ℕ
security_in line = pick (is_shaped line && (is_kind (column 1 line) && (is_formed line && is_ranged line))) (security_of (line_of line)) 0

-- its kind, or `-`
unfoldable pub kind_in : List ℕ → ℕ
kind_in line = pick (is_shaped line && is_kind (column 1 line)) (column 1 line) 45

-- ---- what becomes of an accepted line, by the settings and its security

unfoldable pub trade_fate : Settings → Security → Trade → Fate
trade_fate st s t =
    let x = t.side in
    pick (prints_trade st s t.market x)
    (Printed (record { prints = trade_prints st s t.market x; full = trade_full_by st s t.market x; shows = trade_shows_by st s t.market x }))
    LeftOff

-- cancels and errors always print
unfoldable pub cancel_fate : Settings → Security → Trade → Fate
cancel_fate st s t = Printed (record { prints = always; full = cancel_full_by st s t.side; shows = cancel_shows_by st t.side })

unfoldable pub correction_fate : Settings → Security → Correction → Fate
correction_fate st s c =
    let x = c.original in
    let y = c.correcting in
    pick (prints_correction st s x y)
    (Printed (record { prints = correction_prints st s x y; full = correction_full_by st s x y; shows = correction_shows_by st x y }))
    LeftOff

-- P prints while in MPV, otherwise nothing
unfoldable pub step_fate : Mode → Fate
step_fate m = pick (is_mpv m) Announced Accepted

-- D and S lines print nothing; M and V announce
unfoldable pub fate_at : Settings → Security → Line → Fate
fate_at st s (Dated n) = Accepted
fate_at st s (Listed l) = Accepted
fate_at st s (Moded m) = Announced
fate_at st s (Leveled n) = Announced
fate_at st s (Stepped n) = step_fate st.mode
fate_at st s (Traded t) = trade_fate st s t
fate_at st s (Cancelled t) = cancel_fate st s t
fate_at st s (Erred t) = cancel_fate st s t
fate_at st s (Corrected c) = correction_fate st s c

-- ---- one call

unfoldable pub fate_of : Day → Line → Fate
fate_of day l = fate_at day.settings (security_at day (security_of l)) l

unfoldable pub fate_by : Day → Call → Fate
fate_by day c = elim (refusal_of day c.line c.room) [ some r ↦ Refused r | none ↦ fate_of day (line_of c.line) ]

unfoldable pub explained_by : Day → Call → Explanation
explained_by day c = record { kind = kind_in c.line; security = security_in c.line; fate = fate_by day c }

-- ---- what a fate says

-- document 01's number: 0 where the line is accepted, else that of its refusal
unfoldable pub fate_number : Fate → ℕ
fate_number (Refused r) = number_of r
fate_number Accepted = 0
fate_number Announced = 0
fate_number LeftOff = 0
fate_number (Printed r) = 0

-- something is on the tape
unfoldable pub is_on_tape : Fate → Bool
is_on_tape (Refused r) = false
is_on_tape Accepted = false
is_on_tape Announced = true
is_on_tape LeftOff = false
is_on_tape (Printed r) = true

-- a print has a reason
unfoldable pub is_reasoned : Fate → Bool
is_reasoned (Refused r) = true
is_reasoned Accepted = true
is_reasoned Announced = true
is_reasoned LeftOff = true
is_reasoned (Printed r) = some_print r.prints

-- ---- the promise of `explain_line`: the explanation of a call, and what it says: document 01's number by the rules' refusal, the line's kind and security, on the tape exactly if the call prints, and a reason for every print
pub record Explained (day : Day) (c : Call) (r : Explanation) : Type 0 where
  pub answer_is : r ≡ explained_by day c
  pub number_is : fate_number r.fate ≡ refusal_number (refusal_of day c.line c.room)
  pub kind_is : r.kind ≡ kind_in c.line
  pub security_is : r.security ≡ security_in c.line
  pub on_tape_is : is_on_tape r.fate ≡ leb 1 (length (tape_of day c))
  pub reasoned_is : is_reasoned r.fate ≡ true
