-- One call by the rules: what a plan stops, and the day that the tables hold after it. Assumes nothing.
use Rattle.std.specs.Prelude.{ℕ, ◌≡◌, List, Result, Ok, Err, length}
use Rattle.std.proofs.Math.Option.{Option, none, some}
use Rattle.rules.specs.Refusal.{refusal_number}
use Rattle.rules.specs.Day.{Day, refusal_of, tape_of, after}
use Rattle.rules.specs.declared.Refusal.{Refusal}
use Rattle.rules.specs.declared.Settings.{Settings}
use Rattle.call_table.specs.Rows.{day_of}
use Rattle.call_plan.specs.declared.Plan.{Plan}
use Rattle.call_plan.specs.declared.Plan.TheVariants.{Stop, Open, Enter, Change, Level, Step, Print, Cancel, Correct}
use Rattle.engine.specs.Taken.{asked, outcome_of, stop_number}
use Rattle.call_print.specs.Print.{print_of}
use Rattle.call_state.specs.After.{settings_after, table_after, names_after}

unfoldable pub stop_of : Plan → Option Refusal
stop_of (Stop r) = some r
stop_of (Open n) = none
stop_of (Enter i s) = none
stop_of (Change m) = none
stop_of (Level n) = none
stop_of (Step n) = none
stop_of (Print t) = none
stop_of (Cancel t) = none
stop_of (Correct c) = none

-- the day that settings and tables hold after a plan
unfoldable pub day_after : Settings → List ℕ → List ℕ → List ℕ → Plan → Day
day_after st table names line p = day_of (settings_after st p) (table_after table p) (names_after names line p)

-- the outcome by the rules: the refusal, or the length of the print
unfoldable pub outcome_by : Option Refusal → ℕ → Result ℕ Refusal
outcome_by (some r) n = Err r
outcome_by none n = Ok n

-- the engine's call is the rules': outcome, refusal with its number, print and state
pub record ByRules (st : Settings) (table names line : List ℕ) (room : ℕ) : Type 0 where
  pub outcome_is : outcome_of (asked st table names line room) (length (print_of st names (asked st table names line room))) ≡ outcome_by (refusal_of (day_of st table names) line room) (length (tape_of (day_of st table names) (record { line = line; room = room })))
  pub refusal_is : refusal_of (day_of st table names) line room ≡ stop_of (asked st table names line room)
  pub number_is : stop_number (asked st table names line room) ≡ refusal_number (refusal_of (day_of st table names) line room)
  pub print_is : tape_of (day_of st table names) (record { line = line; room = room }) ≡ print_of st names (asked st table names line room)
  pub day_is : after (day_of st table names) (record { line = line; room = room }) ≡ day_after st table names line (asked st table names line room)
