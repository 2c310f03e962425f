-- One call, put together. Assumes nothing.
use Prim.Native.Nat.{ℕ}
use mathlib.Core.Path.{◌≡◌, ap, ◌∙◌}
use mathlib.Core.List.{List}
use lib.ListN.{length}
use Rattle.text.specs.Put.{put, Written}
use Rattle.rules.specs.declared.Settings.{Settings}
use Rattle.engine.proofs.Numbers.{taken_as}
use Rattle.call_plan.specs.declared.Plan.{Plan}
use Rattle.call_plan.specs.Plan.{plan_of}
use Rattle.rules.specs.declared.Refusal.{Refusal}
use Rattle.std.specs.Prelude.{Result}
use Rattle.call_print.specs.Print.{printed_name, fitted_of, print_of}
use Rattle.call_state.specs.After.{settings_after, table_after, names_after}
use Rattle.engine.specs.Taken.{asked, outcome_of, Taken}

-- the plan that was fitted
module _ (st : Settings) (table names line : List ℕ) (p q : Plan) (room : ℕ) where
  pub asked_for : p ≡ plan_of st table names line → q ≡ fitted_of st (printed_name names p) p room → q ≡ asked st table names line room
  unfolding asked
  asked_for e f = rw (← e) f

-- ---- the whole call

module _ (st : Settings) (table names line tape table' names' tape' : List ℕ) (p q : Plan) (k : ℕ) (o : Result ℕ Refusal) (s : Settings) where
  pub taken : p ≡ plan_of st table names line → q ≡ fitted_of st (printed_name names p) p (length tape) → Written (print_of st names q) tape tape' k
      → table' ≡ table_after table q → names' ≡ names_after names line q → o ≡ outcome_of q k → s ≡ settings_after st q
      → Taken st table names line tape table' names' tape' (record { outcome = o; settings = s })
  taken e f v t m x y =
      let is : q ≡ asked st table names line (length tape) = asked_for st table names line p q (length tape) e f in
      taken_as st table names line tape table' names' tape' (record { outcome = o; settings = s })
      (x ∙ (ap (outcome_of q) v.count_is ∙ ap (λ (z : Plan). outcome_of z (length (print_of st names z))) is))
      (y ∙ ap (settings_after st) is)
      (t ∙ ap (table_after table) is)
      (m ∙ ap (names_after names line) is)
      (v.tape ∙ ap (λ (z : Plan). put (print_of st names z) tape) is)
