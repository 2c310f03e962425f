-- A DAY'S TAPE: what lines print and what is told of them, by the rules alone. Assumes nothing.
use Rattle.std.specs.Prelude.{ℕ, ◌+◌, ◌≡◌, List, [], ◌∷◌, ◌++◌}
use Rattle.std.proofs.Math.Option.{Option, none, some}
use Rattle.rules.specs.Sizes.{longest_print}
use Rattle.rules.specs.Refusal.{number_of}
use Rattle.rules.specs.Day.{Day, fresh, refusal_of, tape_of, after, ample}
use Rattle.rules.specs.declared.Refusal.{Refusal}
use Rattle.feed_lines.specs.Refusals.{refusal_line}

-- ---- by the rules

-- the prints of lines, joined in order: document 01's standard output
unfoldable pub tape_of_lines : Day → List (List ℕ) → List ℕ
tape_of_lines day [] = []
tape_of_lines day (l ∷ ls) = tape_of day (ample l) ++ tape_of_lines (after day (ample l)) ls

-- a refused line: its number and the refusal's
unfoldable pub told_by : ℕ → Option Refusal → List ℕ
told_by number none = []
told_by number (some r) = refusal_line number (number_of r)

-- what is told of lines, the first of them numbered `number`: document 01's standard error
unfoldable pub refusals_of_lines : Day → ℕ → List (List ℕ) → List ℕ
refusals_of_lines day number [] = []
refusals_of_lines day number (l ∷ ls) = told_by number (refusal_of day l longest_print) ++ refusals_of_lines (after day (ample l)) (number + 1) ls

unfoldable pub day_of_lines : Day → List (List ℕ) → Day
day_of_lines day [] = day
day_of_lines day (l ∷ ls) = day_of_lines (after day (ample l)) ls

-- ---- THE CLAIM, of lines from a fresh state: what was written is their tape and their refusals
pub record DayTape (ls : List (List ℕ)) (out err : List ℕ) : Type 0 where
  pub tape_is : out ≡ tape_of_lines fresh ls
  pub refusals_are : err ≡ refusals_of_lines fresh 1 ls
