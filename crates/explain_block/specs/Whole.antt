-- The explanations of lines, as text. Assumes nothing.
use Rattle.std.specs.Prelude.{ℕ, ◌+◌, List, [], ◌∷◌, ◌++◌}
use Rattle.rules.specs.Day.{Day, after, ample}
use Rattle.explain_fate.specs.Explained.{explained_by}
use Rattle.explain_text.specs.Lines.{line_of}

-- one line for each, numbered from `number` on, each call lent a tape of `longest_print` bytes
unfoldable pub explained_text : Day → ℕ → List (List ℕ) → List ℕ
explained_text day number [] = []
explained_text day number (l ∷ ls) = line_of number (explained_by day (ample l)) ++ explained_text (after day (ample l)) (number + 1) ls
