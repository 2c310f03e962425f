-- A line by its kind. Assumes nothing.
use Prim.Native.Nat.{ℕ}
use mathlib.Core.Path.{◌≡◌, ap}
use mathlib.Core.List.{List}
use Rattle.rules.specs.Columns.{column}
use Rattle.rules.specs.Line.{of_kind, is_formed, is_ranged, line_of}

module _ (kind : ℕ) (line : List ℕ) (e : column 1 line ≡ kind) where
  pub line_by : line_of line ≡ (of_kind kind line).line
  unfolding line_of
  line_by = ap (λ c. (of_kind c line).line) e

  pub formed_by : is_formed line ≡ (of_kind kind line).formed
  unfolding is_formed
  formed_by = ap (λ c. (of_kind c line).formed) e

  pub ranged_by : is_ranged line ≡ (of_kind kind line).ranged
  unfolding is_ranged
  ranged_by = ap (λ c. (of_kind c line).ranged) e
