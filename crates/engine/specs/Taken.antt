-- One call of the engine (document 01, "Tape characters", "Day lines", "Lines not taken"): what it prints, stores and answers, by the plan that the line asks for. Assumes nothing.
use Rattle.std.specs.Prelude.{ℕ, ◌≡◌, Bool, true, false, List, Option, is_some, IfSome, Result, Ok, Err, ltb, length}
use Rattle.text.specs.Pick.{pick}
use Rattle.text.specs.Put.{put}
use Rattle.rules.specs.Line.{is_shaped}
use Rattle.rules.specs.declared.Settings.{Settings}
use Rattle.rules.specs.Refusal.{number_of}
use Rattle.rules.specs.declared.Refusal.{Refusal}
use Rattle.call_plan.specs.declared.Plan.{Plan}
use Rattle.call_plan.specs.declared.Plan.TheVariants.{Stop, Open, Enter, Change, Level, Step, Print, Cancel, Correct}
use Rattle.call_plan.specs.Plan.{plan_of}
use Rattle.engine.specs.declared.Answer.{Answer}
use Rattle.call_print.specs.Print.{printed_name, fitted_of, print_of}
use Rattle.call_state.specs.After.{settings_after, table_after, names_after}

-- what a call asks for that is lent a tape of `room` bytes
unfoldable pub asked : Settings → List ℕ → List ℕ → List ℕ → ℕ → Plan
asked st table names line room =
    let p = plan_of st table names line in
    fitted_of st (printed_name names p) p room

-- a refusal gives its number (rules, `number_of`) and length 0; what is accepted, the length of its print
unfoldable pub outcome_of : Plan → ℕ → Result ℕ Refusal
outcome_of (Stop r) n = Err r
outcome_of (Open d) n = Ok n
outcome_of (Enter i s) n = Ok n
outcome_of (Change m) n = Ok n
outcome_of (Level l) n = Ok n
outcome_of (Step l) n = Ok n
outcome_of (Print t) n = Ok n
outcome_of (Cancel t) n = Ok n
outcome_of (Correct c) n = Ok n

-- ---- an outcome in document 01's numbers

-- 0 where the line is accepted, else the number of its refusal
unfoldable pub answer_of : Result ℕ Refusal → ℕ
answer_of (Ok n) = 0
answer_of (Err r) = number_of r

-- the length of its print, 0 where nothing prints
unfoldable pub count_of : Result ℕ Refusal → ℕ
count_of (Ok n) = n
count_of (Err r) = 0

-- the number of the refusal that stops a plan, 0 where none does
unfoldable pub stop_number : Plan → ℕ
stop_number (Stop r) = number_of r
stop_number (Open d) = 0
stop_number (Enter i s) = 0
stop_number (Change m) = 0
stop_number (Level l) = 0
stop_number (Step l) = 0
stop_number (Print t) = 0
stop_number (Cancel t) = 0
stop_number (Correct c) = 0

-- ---- a call: settings, tables, line and tape at entry, tables and tape at exit, and the answer
pub record Taken (st : Settings) (table names line tape table' names' tape' : List ℕ) (r : Answer) : Type 0 where
  pub answer_is : answer_of r.outcome ≡ stop_number (asked st table names line (length tape))
  pub count_is : count_of r.outcome ≡ length (print_of st names (asked st table names line (length tape)))
  pub outcome : r.outcome ≡ outcome_of (asked st table names line (length tape)) (length (print_of st names (asked st table names line (length tape))))
  pub settings : r.settings ≡ settings_after st (asked st table names line (length tape))
  pub table_is : table' ≡ table_after table (asked st table names line (length tape))
  pub names_is : names' ≡ names_after names line (asked st table names line (length tape))
  pub tape_is : tape' ≡ put (print_of st names (asked st table names line (length tape))) tape

-- ---- what a call asks for that is lent a tape of `room` bytes: the plan, document 01's number of what stops it, 13 exactly where its print does not fit, and what it prints and leaves
pub record Asked (st : Settings) (table names line : List ℕ) (room : ℕ) (p : Plan) : Type 0 where
  pub plan_is : p ≡ asked st table names line room
  pub number_is : stop_number p ≡ pick (ltb room (length (print_of st names (plan_of st table names line)))) 13 (stop_number (plan_of st table names line))
  pub print_is : print_of st names p ≡ print_of st names (asked st table names line room)
  pub settings_are : settings_after st p ≡ settings_after st (asked st table names line room)
  pub table_is : table_after table p ≡ table_after table (asked st table names line room)
  pub names_is : names_after names line p ≡ names_after names line (asked st table names line room)

-- ---- a call for a trade alone: taken, as any call takes it, exactly if the call accepts a T line; or nothing is done

unfoldable pub is_trade : Plan → Bool
is_trade (Stop r) = false
is_trade (Open d) = false
is_trade (Enter i s) = false
is_trade (Change m) = false
is_trade (Level l) = false
is_trade (Step l) = false
is_trade (Print t) = true
is_trade (Cancel t) = false
is_trade (Correct c) = false

pub record TradeTaken (st : Settings) (table names line tape table' tape' : List ℕ) (r : Option ℕ) : Type 0 where
  pub accepts : is_some r ≡ is_trade (asked st table names line (length tape))
  pub shaped : is_some r ≡ true → is_shaped line ≡ true
  pub taken_is : IfSome r (λ n. Taken st table names line tape table' names tape' (record { outcome = Ok n; settings = st }))
  pub table_same : is_some r ≡ false → table' ≡ table
  pub tape_same : is_some r ≡ false → tape' ≡ tape
