-- One line: an entry of the shown facts exactly where it is explained as announced or printed, and so exactly where it prints. Assumes nothing.
use Prim.Native.Nat.{ℕ, ◌≤◌}
use native.Mathlib.Omega.{arith}
use mathlib.Core.Path.{◌≡◌, refl, ◌∙◌}
use mathlib.Core.Bool.{Bool, true, false}
use mathlib.Core.List.{List, [], ◌∷◌}
use mathlib.Core.Option.{Option, none, some}
use lib.ListN.{length}
use Rattle.text.specs.Pick.{pick}
use Rattle.rules.specs.Sizes.{longest_print}
use Rattle.rules.specs.Trade.{prints_trade}
use Rattle.rules.specs.Correction.{prints_correction, is_mpv}
use Rattle.rules.specs.Announcement.{minimum_text, step_text}
use Rattle.rules.specs.Line.{line_of}
use Rattle.rules.specs.Day.{Day, Call, fresh, security_at, print_of, refusal_of, after, ample}
use Rattle.rules.specs.Shown.{Fact, announced_if, fact_of, shown_by}
use Rattle.rules.specs.declared.Mode.{Mode}
use Rattle.rules.specs.declared.Mode.TheVariants.{Normal, Dvd, Rpo, Mpv}
use Rattle.rules.specs.declared.Line.{Line}
use Rattle.rules.specs.declared.Line.TheVariants.{Dated, Listed, Moded, Leveled, Stepped, Traded, Cancelled, Erred, Corrected}
use Rattle.rules.specs.declared.Refusal.{Refusal}
use Rattle.rules.proofs.Some.{some_minimum, some_mode, some_level}
use Rattle.line_owed.specs.Reached.{Reached}
use Rattle.line_owed.proofs.Reached.{kept_fresh, kept_call}
use Rattle.claim_daytape.specs.Claim.{day_of_lines}
use Rattle.claim_programs.proofs.Room.{never_short}
use Rattle.explain_fate.specs.Explained.{security_of, trade_fate, cancel_fate, correction_fate, step_fate, fate_at, fate_of, fate_by, is_on_tape}
use Rattle.explain_fate.specs.declared.Reasons.{Reasons}
use Rattle.explain_fate.specs.declared.Fate.TheVariants.{Refused, LeftOff, Printed}
use Rattle.explain_fate.proofs.Prints.{on_tape_exactly}
use Rattle.explain_fate.proofs.Numbers.{number_by}
use Rattle.claim_oneday.specs.Claim.{DayLine, day_found, call_made, is_shown, OneLine}

-- ---- shown exactly where it is on the tape by its explanation

announced_shown : (s : List ℕ) → 1 ≤ length s → is_shown (announced_if s) ≡ true
unfolding announced_if
announced_shown [] h = absurd (omega arith)
announced_shown (c ∷ s) h = refl

step_shown : (m : Mode) (n : ℕ) → is_shown (announced_if (step_text m n)) ≡ is_on_tape (step_fate m)
unfolding step_text announced_if step_fate is_mpv pick is_on_tape
step_shown Normal n = refl
step_shown Dvd n = refl
step_shown Rpo n = refl
step_shown Mpv n = announced_shown (minimum_text n) (some_minimum n)

if_shown : (b : Bool) (f : Fact) (r : Reasons) → is_shown (pick b (some f) none) ≡ is_on_tape (pick b (Printed r) LeftOff)
unfolding pick is_on_tape
if_shown true f r = refl
if_shown false f r = refl

line_shown : (day : Day) (l : Line) → is_shown (fact_of day l) ≡ is_on_tape (fate_of day l)
unfolding fact_of fate_of fate_at is_on_tape print_of security_of trade_fate cancel_fate correction_fate
line_shown day (Dated n) = refl
line_shown day (Listed l) = refl
line_shown day (Moded m) = announced_shown _ (some_mode m day.settings.minimum)
line_shown day (Leveled n) = announced_shown _ (some_level n)
line_shown day (Stepped n) = step_shown day.settings.mode n
line_shown day (Traded t) = if_shown (prints_trade day.settings (security_at day t.security) t.market t.side) _ _
line_shown day (Cancelled t) = refl
line_shown day (Erred t) = refl
line_shown day (Corrected c) = if_shown (prints_correction day.settings (security_at day c.security) c.original c.correcting) _ _

call_shown : (day : Day) (c : Call) → is_shown (shown_by day c) ≡ is_on_tape (fate_by day c)
unfolding shown_by fate_by is_on_tape
call_shown day c = go (refusal_of day c.line c.room)
  where
    go : (o : Option Refusal) → is_shown (elim o [ some r ↦ none | none ↦ fact_of day (line_of c.line) ]) ≡ is_on_tape (elim o [ some r ↦ Refused r | none ↦ fate_of day (line_of c.line) ])
    go (some r) = refl
    go none = line_shown day (line_of c.line)

-- ---- a day that lines lead to

reached_from : (day : Day) (ls : List (List ℕ)) → Reached day → Reached (day_of_lines day ls)
unfolding day_of_lines
reached_from day [] h = h
reached_from day (l ∷ ls) h = reached_from (after day (ample l)) ls (kept_call day (ample l) h)

pub one_line : (l : DayLine) → OneLine l
one_line l =
    let day = day_found l in
    let c = call_made l in
    record {
      room_enough = never_short day l.line (reached_from fresh l.before kept_fresh) longest_print (omega arith);
      number_is = number_by day c;
      shown_is = call_shown day c ∙ on_tape_exactly day c;
      on_tape_is = on_tape_exactly day c;
    }
