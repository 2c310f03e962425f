-- A call through the numbers is a call of the engine, and a refused one leaves everything as it was. Assumes nothing.
use Prim.Native.Nat.{ℕ, ◌≤◌}
use native.Mathlib.Omega.{arith}
use mathlib.Core.Path.{◌≡◌, refl, ap, ◌∙◌}
use mathlib.Core.List.{List}
use lib.ListN.{length}
use Rattle.text.specs.Pick.{pick}
use Rattle.text.specs.Put.{put}
use Rattle.rules.specs.Line.{mode_of}
use Rattle.rules.specs.declared.Mode.{Mode}
use Rattle.rules.specs.declared.Mode.TheVariants.{Normal, Dvd, Rpo, Mpv}
use Rattle.rules.specs.declared.Settings.{Settings}
use Rattle.engine.proofs.Numbers.{taken_as}
use Rattle.call_plan.specs.declared.Plan.{Plan}
use Rattle.call_plan.specs.declared.Plan.TheVariants.{Stop, Open, Enter, Change, Level, Step, Print, Cancel, Correct}
use Rattle.call_print.specs.Print.{text_of, print_of}
use Rattle.call_state.specs.After.{settings_after, table_after, names_after}
use Rattle.engine.specs.Taken.{asked, outcome_of, Taken, answer_of, count_of}
use Rattle.exports.specs.Numbers.{letter_of, numbers_of, settings_of, left_by, outcome_at, TakenNumbers, Kept}

-- ---- settings come back from their numbers

mode_back : (m : Mode) → mode_of (letter_of m) ≡ m
unfolding mode_of pick
mode_back Normal = refl
mode_back Dvd = refl
mode_back Rpo = refl
mode_back Mpv = refl

pub settings_back : (st : Settings) → settings_of (numbers_of st) ≡ st
settings_back st = rw (mode_back st.mode)

-- ---- what a plan leaves

settings_left : (p : Plan) (n : ℕ) (numbers : List ℕ) → settings_of (left_by (outcome_of p n) numbers (settings_after (settings_of numbers) p)) ≡ settings_after (settings_of numbers) p
unfolding outcome_of settings_after
settings_left (Stop r) n numbers = refl
settings_left (Open d) n numbers = settings_back (settings_after (settings_of numbers) (Open d))
settings_left (Enter i s) n numbers = settings_back (settings_after (settings_of numbers) (Enter i s))
settings_left (Change m) n numbers = settings_back (settings_after (settings_of numbers) (Change m))
settings_left (Level l) n numbers = settings_back (settings_after (settings_of numbers) (Level l))
settings_left (Step l) n numbers = settings_back (settings_after (settings_of numbers) (Step l))
settings_left (Print t) n numbers = settings_back (settings_after (settings_of numbers) (Print t))
settings_left (Cancel t) n numbers = settings_back (settings_after (settings_of numbers) (Cancel t))
settings_left (Correct c) n numbers = settings_back (settings_after (settings_of numbers) (Correct c))

module _ (numbers table names line tape : List ℕ) (st : Settings) (n : ℕ) where
  kept_by : (p : Plan) → 1 ≤ answer_of (outcome_of p n) → Kept numbers table names tape (left_by (outcome_of p n) numbers (settings_after st p)) (table_after table p) (names_after names line p) (put (print_of st names p) tape) (count_of (outcome_of p n))
  unfolding outcome_of table_after names_after put print_of text_of count_of answer_of
  kept_by (Stop r) h = record { numbers_kept = refl; table_kept = refl; names_kept = refl; tape_kept = refl; count_none = refl }
  kept_by (Open d) h = absurd (omega arith)
  kept_by (Enter i s) h = absurd (omega arith)
  kept_by (Change m) h = absurd (omega arith)
  kept_by (Level l) h = absurd (omega arith)
  kept_by (Step l) h = absurd (omega arith)
  kept_by (Print t) h = absurd (omega arith)
  kept_by (Cancel t) h = absurd (omega arith)
  kept_by (Correct c) h = absurd (omega arith)

-- ---- a call

module _ (numbers table names line tape numbers' table' names' tape' : List ℕ) (count answer : ℕ) (t : TakenNumbers numbers table names line tape numbers' table' names' tape' count answer) where
  -- it is a call of the engine, on the settings that the numbers are and to the settings that they then are
  pub as_call : Taken (settings_of numbers) table names line tape table' names' tape' (record { outcome = outcome_at numbers table names line tape; settings = settings_of numbers' })
  as_call =
      taken_as (settings_of numbers) table names line tape table' names' tape' _ refl
      (ap settings_of t.numbers_are ∙ settings_left (asked (settings_of numbers) table names line (length tape)) _ numbers)
      t.table_is
      t.names_is
      t.tape_is

  -- a refused line leaves every number and byte as it was
  pub refused_keeps : 1 ≤ answer → Kept numbers table names tape numbers' table' names' tape' count
  refused_keeps h = rw (t.numbers_are, t.table_is, t.names_is, t.tape_is, t.count_is)
      (kept_by numbers table names line tape (settings_of numbers) _ (asked (settings_of numbers) table names line (length tape)) (rw t.answer_is at h))
