-- Plans and outcomes in document 01's numbers, what a call asks for, and a call by its outcome. Assumes nothing.
use Prim.Native.Nat.{ℕ}
use mathlib.Core.Path.{◌≡◌, refl, ap, ◌∙◌}
use mathlib.Core.Bool.{Bool, true, false}
use mathlib.Core.List.{List}
use lib.Dec.{ltb}
use lib.ListN.{length}
use Rattle.text.specs.Pick.{pick}
use Rattle.text.specs.Put.{put}
use Rattle.rules.specs.Refusal.{number_of}
use Rattle.rules.specs.declared.Refusal.TheVariants.{Room}
use Rattle.rules.specs.declared.Settings.{Settings}
use Rattle.call_plan.specs.declared.Plan.{Plan}
use Rattle.call_plan.specs.declared.Plan.TheVariants.{Stop, Open, Enter, Change, Level, Step, Print, Cancel, Correct}
use Rattle.call_plan.specs.Plan.{plan_of}
use Rattle.call_print.specs.Print.{printed_name, text_of, fitted_of, print_of}
use Rattle.call_state.specs.After.{settings_after, table_after, names_after}
use Rattle.engine.specs.declared.Answer.{Answer}
use Rattle.engine.specs.Taken.{asked, outcome_of, answer_of, count_of, stop_number, Asked, Taken}

-- ---- by a plan

answer_by : (p : Plan) (n : ℕ) → answer_of (outcome_of p n) ≡ stop_number p
unfolding answer_of outcome_of stop_number
answer_by (Stop r) k = refl
answer_by (Open n) k = refl
answer_by (Enter i s) k = refl
answer_by (Change m) k = refl
answer_by (Level n) k = refl
answer_by (Step n) k = refl
answer_by (Print t) k = refl
answer_by (Cancel t) k = refl
answer_by (Correct c) k = refl

-- the answer's count is the print's length
pub count_by : (st : Settings) (names : List ℕ) (p : Plan) → count_of (outcome_of p (length (print_of st names p))) ≡ length (print_of st names p)
unfolding count_of outcome_of print_of text_of printed_name
count_by st names (Stop r) = refl
count_by st names (Open n) = refl
count_by st names (Enter i s) = refl
count_by st names (Change m) = refl
count_by st names (Level n) = refl
count_by st names (Step n) = refl
count_by st names (Print t) = refl
count_by st names (Cancel t) = refl
count_by st names (Correct c) = refl

-- ---- what a call asks for

-- a plan that does not fit is stopped by 13
fitted_number : (b : Bool) (p : Plan) → stop_number (pick b (Stop Room) p) ≡ pick b 13 (stop_number p)
unfolding pick stop_number number_of
fitted_number true p = refl
fitted_number false p = refl

module _ (st : Settings) (table names line : List ℕ) (room : ℕ) where
  asked_number : stop_number (asked st table names line room) ≡ pick (ltb room (length (print_of st names (plan_of st table names line)))) 13 (stop_number (plan_of st table names line))
  unfolding asked fitted_of print_of
  asked_number = fitted_number _ (plan_of st table names line)

  pub asked_as : (p : Plan) → p ≡ asked st table names line room → Asked st table names line room p
  asked_as p e = record {
    plan_is = e;
    number_is = ap stop_number e ∙ asked_number;
    print_is = ap (print_of st names) e;
    settings_are = ap (settings_after st) e;
    table_is = ap (table_after table) e;
    names_is = ap (names_after names line) e;
  }

-- ---- a call, whose numbers are those of its outcome
module _ (st : Settings) (table names line tape table' names' tape' : List ℕ) (r : Answer) where
  abbrev plan : Plan
  plan = asked st table names line (length tape)

  pub taken_as : r.outcome ≡ outcome_of plan (length (print_of st names plan)) → r.settings ≡ settings_after st plan
      → table' ≡ table_after table plan → names' ≡ names_after names line plan → tape' ≡ put (print_of st names plan) tape
      → Taken st table names line tape table' names' tape' r
  taken_as o s t n w = record {
    answer_is = ap answer_of o ∙ answer_by plan _;
    count_is = ap count_of o ∙ count_by st names plan;
    outcome = o;
    settings = s;
    table_is = t;
    names_is = n;
    tape_is = w;
  }
