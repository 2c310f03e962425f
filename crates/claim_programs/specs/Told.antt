-- WHAT A PROGRAM THAT TAKES A DAY FILE OWES, by the rules alone: of each line, on the day that the lines before it left, its text, up to line 9,999,999,999. Assumes nothing.
use Rattle.std.specs.Prelude.{ℕ, ◌+◌, ◌≤◌, ◌≡◌, true, false, List, [], ◌∷◌, ◌++◌, leb, length}
use Rattle.rules.specs.Day.{Day, Call, after, ample}
use Rattle.rules.specs.Sizes.{width, longest_print}
use Rattle.rules.specs.declared.Settings.{Settings}
use Rattle.call_table.specs.Sizes.{table_size, names_size}
use Rattle.call_table.specs.Rows.{day_of}
use Rattle.line_owed.specs.Reached.{Reached}
use Rattle.feed_gather.specs.Gather.{last_line, Program}

-- the text of a line, by its day, its number and its bytes
abbrev pub Text : Type 0
Text = Day → ℕ → List ℕ → List ℕ

-- of lines, the first of them numbered `number`, each lent room for any print
unfoldable pub told_of_lines : Text → Day → ℕ → List (List ℕ) → List ℕ
told_of_lines text day number [] = []
told_of_lines text day number (l ∷ ls) = elim (leb number last_line) [ true ↦ text day number l ++ told_of_lines text (after day (ample l)) (number + 1) ls | false ↦ [] ]

-- a program tells a text: on standard output `out`, on standard error `err`, on every day that can be reached, whatever room a call is lent beyond that for any print
pub record Tells (g : Program) (out err : Text) : Type 0 where
  pub ample_lent : (n : ℕ) → g.out_most ≤ n → longest_print ≤ g.lent n
  pub out_is : (st : Settings) (table names : List ℕ) (number : ℕ) (c : Call) → length table ≡ table_size → length names ≡ names_size → Reached (day_of st table names) → longest_print ≤ c.room → g.out st table names number c ≡ out (day_of st table names) number c.line
  pub err_is : (st : Settings) (table names : List ℕ) (number : ℕ) (c : Call) → length table ≡ table_size → length names ≡ names_size → Reached (day_of st table names) → longest_print ≤ c.room → g.err st table names number c ≡ err (day_of st table names) number c.line
  -- of lines that are not as long as a line should be, nothing else counts
  pub out_long : (day : Day) (number : ℕ) (a b : List ℕ) → (length a ≡ width → ⊥) → (length b ≡ width → ⊥) → out day number a ≡ out day number b
  pub err_long : (day : Day) (number : ℕ) (a b : List ℕ) → (length a ≡ width → ⊥) → (length b ≡ width → ⊥) → err day number a ≡ err day number b
