-- Room for a print. Assumes nothing.
use Prim.Native.Nat.{ℕ, ◌≤◌, ◌<◌}
use native.Mathlib.Omega.{arith}
use mathlib.Core.Path.{◌≡◌, refl}
use mathlib.Core.Bool.{Bool, true, false}
use mathlib.Core.List.{List, []}
use lib.Dec.{ltb}
use lib.ListN.{length}
use borrow.Author.Tests.{lt-ltb, le-ltb, ltb-false}
use Rattle.text.proofs.Tests.{pick_yes, pick_no}
use Rattle.text.specs.Pick.{pick}
use Rattle.rules.specs.declared.Settings.{Settings}
use Rattle.rules.specs.declared.Refusal.TheVariants.{Room}
use Rattle.call_plan.specs.declared.Plan.{Plan}
use Rattle.call_plan.specs.declared.Plan.TheVariants.{Stop}
use Rattle.call_print.specs.Print.{printed_name, text_of, fitted_of, print_of, SoundPlan}

-- ---- room for it

module _ (st : Settings) (name : List ℕ) (p : Plan) (room k : ℕ) (known : k ≡ length (text_of st name p)) where
  pub told_short : room < k → Stop Room ≡ fitted_of st name p room
  unfolding fitted_of
  told_short h = pick_yes _ _ _ _ (rw (← known) (lt-ltb room k h)) refl

  pub told_fits : k ≤ room → p ≡ fitted_of st name p room
  unfolding fitted_of
  told_fits h = pick_no _ _ _ _ (rw (← known) (le-ltb room k h)) refl

-- a call that stops prints nothing and owes nothing
stop_sound : (line : List ℕ) → SoundPlan line (Stop Room)
unfolding SoundPlan
stop_sound line = tt

stop_room : (st : Settings) (name : List ℕ) (room : ℕ) → length (text_of st name (Stop Room)) ≤ room
unfolding text_of
stop_room st name room = omega arith

stop_print : (st : Settings) (names name : List ℕ) → text_of st name (Stop Room) ≡ print_of st names (Stop Room)
unfolding text_of print_of
stop_print st names name = refl

some_plan : (st : Settings) (names : List ℕ) (p : Plan) → text_of st (printed_name names p) p ≡ print_of st names p
unfolding print_of
some_plan st names p = refl

-- either it fits, or the call stops
fitted_by : (A : Plan → Type 0) (st : Settings) (name : List ℕ) (p : Plan) (room : ℕ) → (ltb room (length (text_of st name p)) ≡ true → A (Stop Room)) → (ltb room (length (text_of st name p)) ≡ false → A p) → A (fitted_of st name p room)
unfolding fitted_of pick
fitted_by A st name p room f g = go (ltb room (length (text_of st name p))) f g
  where
    go : (b : Bool) → (b ≡ true → A (Stop Room)) → (b ≡ false → A p) → A (pick b (Stop Room) p)
    go true f g = f refl
    go false f g = g refl

module _ (st : Settings) (name line : List ℕ) (p q : Plan) (room : ℕ) (fitted : q ≡ fitted_of st name p room) where
  pub fitted_sound : SoundPlan line p → SoundPlan line q
  fitted_sound h = rw fitted (fitted_by (λ x. SoundPlan line x) st name p room (λ e. stop_sound line) (λ e. h))

  pub fitted_room : length (text_of st name q) ≤ room
  fitted_room = rw fitted (fitted_by (λ x. length (text_of st name x) ≤ room) st name p room (λ e. stop_room st name room) (λ e. ltb-false room (length (text_of st name p)) e))

-- the name that was written for the line's plan serves for what is left of it
fitted_print : (st : Settings) (names : List ℕ) (p : Plan) (room : ℕ) → text_of st (printed_name names p) (fitted_of st (printed_name names p) p room) ≡ print_of st names (fitted_of st (printed_name names p) p room)
fitted_print st names p room = fitted_by (λ x. text_of st (printed_name names p) x ≡ print_of st names x) st (printed_name names p) p room (λ e. stop_print st names (printed_name names p)) (λ e. some_plan st names p)

pub plan_print : (st : Settings) (names : List ℕ) (p q : Plan) (room : ℕ) → q ≡ fitted_of st (printed_name names p) p room → text_of st (printed_name names p) q ≡ print_of st names q
plan_print st names p q room e = rw e (fitted_print st names p room)

pub print_fits : (st : Settings) (names : List ℕ) (p q : Plan) (room : ℕ) → q ≡ fitted_of st (printed_name names p) p room → length (print_of st names q) ≤ room
print_fits st names p q room e = rw (← plan_print st names p q room e) (fitted_room st (printed_name names p) [] p q room e)
