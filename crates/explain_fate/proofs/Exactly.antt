-- What is explained as printed has a reason; what is explained as refused, accepted or left off puts nothing on the tape. Assumes nothing.
use Prim.Native.Nat.{ℕ}
use mathlib.Core.Path.{◌≡◌, refl, sym}
use mathlib.Core.Bool.{Bool, true, false, false≢true}
use mathlib.Core.List.{List, []}
use mathlib.Core.Option.{Option, none, some}
use Rattle.text.specs.Pick.{pick, opt}
use Rattle.rules.specs.Trade.{prints_trade}
use Rattle.rules.specs.Correction.{prints_correction, is_mpv}
use Rattle.rules.specs.Announcement.{step_text}
use Rattle.rules.specs.Line.{line_of}
use Rattle.rules.specs.Day.{Day, Call, security_at, trade_print, correction_print, print_of, refusal_of, tape_of}
use Rattle.rules.specs.declared.Mode.{Mode}
use Rattle.rules.specs.declared.Mode.TheVariants.{Normal, Dvd, Rpo, Mpv}
use Rattle.rules.specs.declared.Line.{Line}
use Rattle.rules.specs.declared.Line.TheVariants.{Dated, Listed, Moded, Leveled, Stepped, Traded, Cancelled, Erred, Corrected}
use Rattle.rules.specs.declared.Refusal.{Refusal}
use Rattle.rules.specs.declared.Security.{Security}
use Rattle.rules.specs.declared.Settings.{Settings}
use Rattle.explain_reasons.specs.Reasons.{always, some_print}
use Rattle.explain_reasons.proofs.Exactly as reasons
use Rattle.explain_fate.specs.Explained.{security_of, trade_fate, cancel_fate, correction_fate, step_fate, fate_at, fate_of, fate_by, is_on_tape, is_reasoned}
use Rattle.explain_fate.specs.declared.Reasons.{Reasons}
use Rattle.explain_fate.specs.declared.Fate.TheVariants.{Refused, LeftOff, Printed}

-- ---- a print has a reason

if_printed : (b : Bool) (r : Reasons) → some_print r.prints ≡ b → is_reasoned (pick b (Printed r) LeftOff) ≡ true
unfolding pick is_reasoned
if_printed true r e = e
if_printed false r e = refl

step_reasoned : (m : Mode) → is_reasoned (step_fate m) ≡ true
unfolding step_fate is_mpv pick is_reasoned
step_reasoned Normal = refl
step_reasoned Dvd = refl
step_reasoned Rpo = refl
step_reasoned Mpv = refl

line_reasoned : (st : Settings) (s : Security) (l : Line) → is_reasoned (fate_at st s l) ≡ true
unfolding fate_at is_reasoned trade_fate cancel_fate correction_fate always some_print
line_reasoned st s (Dated n) = refl
line_reasoned st s (Listed l) = refl
line_reasoned st s (Moded m) = refl
line_reasoned st s (Leveled n) = refl
line_reasoned st s (Stepped n) = step_reasoned st.mode
line_reasoned st s (Traded t) = if_printed (prints_trade st s t.market t.side) _ (reasons.trade_printed st s t.market t.side)
line_reasoned st s (Cancelled t) = refl
line_reasoned st s (Erred t) = refl
line_reasoned st s (Corrected c) = if_printed (prints_correction st s c.original c.correcting) _ (reasons.correction_printed st s c.original c.correcting)

pub reasoned : (day : Day) (c : Call) → is_reasoned (fate_by day c) ≡ true
unfolding fate_by fate_of is_reasoned
reasoned day c = go (refusal_of day c.line c.room)
  where
    go : (o : Option Refusal) → is_reasoned (elim o [ some r ↦ Refused r | none ↦ fate_of day (line_of c.line) ]) ≡ true
    go (some r) = refl
    go none = line_reasoned day.settings (security_at day (security_of (line_of c.line))) (line_of c.line)

-- ---- nothing else is on the tape

if_left : (b : Bool) (r : Reasons) (text : List ℕ) → is_on_tape (pick b (Printed r) LeftOff) ≡ false → opt b text ≡ []
unfolding pick is_on_tape opt
if_left true r text h = absurd (false≢true (sym h))
if_left false r text h = refl

step_silent : (m : Mode) (n : ℕ) → is_on_tape (step_fate m) ≡ false → step_text m n ≡ []
unfolding step_fate is_mpv pick is_on_tape step_text
step_silent Normal n h = refl
step_silent Dvd n h = refl
step_silent Rpo n h = refl
step_silent Mpv n h = absurd (false≢true (sym h))

line_silent : (day : Day) (l : Line) → is_on_tape (fate_of day l) ≡ false → print_of day l ≡ []
unfolding fate_of fate_at is_on_tape print_of security_of trade_fate cancel_fate correction_fate trade_print correction_print
line_silent day (Dated n) h = refl
line_silent day (Listed l) h = refl
line_silent day (Moded m) h = absurd (false≢true (sym h))
line_silent day (Leveled n) h = absurd (false≢true (sym h))
line_silent day (Stepped n) h = step_silent day.settings.mode n h
line_silent day (Traded t) h = if_left (prints_trade day.settings (security_at day t.security) t.market t.side) _ _ h
line_silent day (Cancelled t) h = absurd (false≢true (sym h))
line_silent day (Erred t) h = absurd (false≢true (sym h))
line_silent day (Corrected c) h = if_left (prints_correction day.settings (security_at day c.security) c.original c.correcting) _ _ h

pub silent : (day : Day) (c : Call) → is_on_tape (fate_by day c) ≡ false → tape_of day c ≡ []
unfolding fate_by tape_of
silent day c h = go (refusal_of day c.line c.room) h
  where
    go : (o : Option Refusal) → is_on_tape (elim o [ some r ↦ Refused r | none ↦ fate_of day (line_of c.line) ]) ≡ false → ◌≡◌ {A = List ℕ} (elim o [ some r ↦ [] | none ↦ print_of day (line_of c.line) ]) []
    go (some r) k = refl
    go none k = line_silent day (line_of c.line) k
