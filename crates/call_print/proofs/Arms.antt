-- What an S line's plan owes, and a name as it prints, in the form of the code's needs. Assumes nothing.
use Prim.Native.Nat.{ℕ, ◌≤◌, ◌<◌}
use native.Mathlib.Omega.{arith}
use mathlib.Core.Path.{◌≡◌}
use mathlib.Core.Bool.{false}
use mathlib.Core.List.{List}
use lib.ListN.{length}
use Rattle.rules.specs.declared.Security.{Security}
use Rattle.rules.specs.Sizes.{width}
use Rattle.call_table.specs.Rows.{name_of}
use Rattle.name_text.proofs.Text.{name_most}
use Rattle.call_plan.specs.declared.Plan.{Plan}
use Rattle.call_plan.specs.declared.Plan.TheVariants.{Stop, Open, Enter, Change, Level, Step, Print, Cancel, Correct}
use Rattle.call_print.specs.Print.{printed_name, SoundPlan}

-- ---- what a plan owes

module _ (line : List ℕ) (p : Plan) (sound : SoundPlan line p) where
  pub place_enter : (i : ℕ) (s : Security) → p ≡ Enter i s → i < 512
  unfolding SoundPlan
  place_enter i s e = (rw e at sound).0

  pub line_enter : (i : ℕ) (s : Security) → p ≡ Enter i s → length line ≡ width
  unfolding SoundPlan
  line_enter i s e = (rw e at sound).1

  pub line_room : (i : ℕ) (s : Security) → p ≡ Enter i s → 24 ≤ length line
  line_room i s e = omega (arith, line_enter i s e)

-- ---- the name as it prints

pub printed_short : (names : List ℕ) (p : Plan) → length (printed_name names p) ≤ 22
unfolding printed_name
printed_short names (Stop r) = omega arith
printed_short names (Open n) = omega arith
printed_short names (Enter i s) = omega arith
printed_short names (Change m) = omega arith
printed_short names (Level n) = omega arith
printed_short names (Step n) = omega arith
printed_short names (Print t) = name_most t.temporary (name_of names t.place)
printed_short names (Cancel t) = name_most false (name_of names t.place)
printed_short names (Correct c) = name_most false (name_of names c.place)
