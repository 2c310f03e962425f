-- The shown facts of lines, as text. Assumes nothing.
use Rattle.std.specs.Prelude.{ℕ, List, [], ◌∷◌, ◌++◌}
use Rattle.rules.specs.Day.{Day, Call, ample}
use Rattle.rules.specs.Shown.{Fact, shown}
use Rattle.facts_line.specs.Lines.{fact_line}

-- one line for each fact
unfoldable pub facts_text : List Fact → List ℕ
facts_text [] = []
facts_text (f ∷ l) = fact_line f ++ facts_text l

unfoldable pub calls_of : List (List ℕ) → List Call
calls_of [] = []
calls_of (l ∷ ls) = ample l ∷ calls_of ls

-- what lines show from a day on, each call lent a tape of `longest_print` bytes
unfoldable pub shown_text : Day → List (List ℕ) → List ℕ
shown_text day ls = facts_text (shown day (calls_of ls))
