-- An explanation says what the rules say of its call: number, kind, security, on the tape or not, and a reason. Assumes nothing.
use mathlib.Core.Path.{◌≡◌, refl, ap, ◌∙◌}
use mathlib.Core.Bool.{Bool}
use mathlib.Core.Option.{Option, none, some}
use Rattle.text.specs.Pick.{pick}
use Rattle.text.proofs.Booleans.{pick_cases}
use Rattle.rules.specs.Refusal.{refusal_number}
use Rattle.rules.specs.Correction.{is_mpv}
use Rattle.rules.specs.Line.{line_of}
use Rattle.rules.specs.Day.{Day, Call, security_at, refusal_of}
use Rattle.rules.specs.declared.Refusal.{Refusal}
use Rattle.rules.specs.declared.Settings.{Settings}
use Rattle.rules.specs.declared.Security.{Security}
use Rattle.rules.specs.declared.Line.{Line}
use Rattle.rules.specs.declared.Line.TheVariants.{Dated, Listed, Moded, Leveled, Stepped, Traded, Cancelled, Erred, Corrected}
use Rattle.explain_fate.specs.Explained.{security_of, trade_fate, cancel_fate, correction_fate, step_fate, fate_at, fate_of, fate_by, explained_by, fate_number, is_on_tape, is_reasoned, Explained}
use Rattle.explain_fate.specs.declared.Explanation.{Explanation}
use Rattle.explain_fate.specs.declared.Fate.{Fate}
use Rattle.explain_fate.specs.declared.Fate.TheVariants.{Refused, Accepted, Announced, LeftOff, Printed}
use Rattle.explain_fate.proofs.Exactly.{reasoned}
use Rattle.explain_fate.proofs.Prints.{on_tape_exactly}

-- ---- an accepted line has number 0

if_accepted : (b : Bool) (f g : Fate) → fate_number f ≡ 0 → fate_number g ≡ 0 → fate_number (pick b f g) ≡ 0
if_accepted b f g h k = pick_cases (λ (x : Fate). fate_number x ≡ 0) b f g (λ e. h) (λ e. k)

line_number : (st : Settings) (s : Security) (l : Line) → fate_number (fate_at st s l) ≡ 0
unfolding fate_at fate_number trade_fate cancel_fate correction_fate step_fate
line_number st s (Dated n) = refl
line_number st s (Listed l) = refl
line_number st s (Moded m) = refl
line_number st s (Leveled n) = refl
line_number st s (Stepped n) = if_accepted (is_mpv st.mode) Announced Accepted refl refl
line_number st s (Traded t) = if_accepted _ (Printed _) LeftOff refl refl
line_number st s (Cancelled t) = refl
line_number st s (Erred t) = refl
line_number st s (Corrected c) = if_accepted _ (Printed _) LeftOff refl refl

-- ---- a call

module _ (day : Day) (c : Call) where
  pub number_by : fate_number (fate_by day c) ≡ refusal_number (refusal_of day c.line c.room)
  unfolding fate_by fate_of fate_number refusal_number
  number_by = go (refusal_of day c.line c.room)
    where
      go : (o : Option Refusal) → fate_number (elim o [ some r ↦ Refused r | none ↦ fate_of day (line_of c.line) ]) ≡ refusal_number o
      go (some r) = refl
      go none = line_number day.settings (security_at day (security_of (line_of c.line))) (line_of c.line)

  pub explained_as : (r : Explanation) → r ≡ explained_by day c → Explained day c r
  unfolding explained_by
  explained_as r e = record {
    answer_is = e;
    number_is = ap (λ (x : Explanation). fate_number x.fate) e ∙ number_by;
    kind_is = ap (λ (x : Explanation). x.kind) e;
    security_is = ap (λ (x : Explanation). x.security) e;
    on_tape_is = ap (λ (x : Explanation). is_on_tape x.fate) e ∙ on_tape_exactly day c;
    reasoned_is = ap (λ (x : Explanation). is_reasoned x.fate) e ∙ reasoned day c;
  }
