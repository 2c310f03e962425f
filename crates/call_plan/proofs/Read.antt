-- A line as it is read: what stops it, and what it owes where 4 and 5 do not. Assumes nothing.
use Prim.Native.Nat.{ℕ, ◌<◌}
use native.Mathlib.Omega.{arith}
use mathlib.Core.Path.{◌≡◌, sym, ap, ◌∙◌}
use mathlib.Core.Bool.{Bool, false, not}
use mathlib.Core.List.{List}
use lib.ListN.{length}
use borrow.Author.Tests.{not-false}
use Rattle.rules.specs.Sizes.{width}
use Rattle.rules.specs.Columns.{column}
use Rattle.rules.specs.Line.{is_shaped, is_formed, is_ranged, line_of, of_kind}
use Rattle.rules.specs.declared.Parsed.{Parsed}
use Rattle.line_owed.specs.Owed.{OwedLine}
use Rattle.line_owed.proofs.Owed.{long, owed_line}

module _ (line : List ℕ) (p : Parsed) (read : p ≡ of_kind (column 1 line) line) where
  formed_is : is_formed line ≡ p.formed
  unfolding is_formed
  formed_is = ap (λ (q : Parsed). q.formed) (sym read)

  ranged_is : is_ranged line ≡ p.ranged
  unfolding is_ranged
  ranged_is = ap (λ (q : Parsed). q.ranged) (sym read)

  line_is : line_of line ≡ p.line
  unfolding line_of
  line_is = ap (λ (q : Parsed). q.line) (sym read)

  pub owed_read : not p.ranged ≡ false → OwedLine p.line
  owed_read r = rw (← line_is) (owed_line line (ranged_is ∙ not-false p.ranged r))

pub shaped : (line : List ℕ) (r : Bool) → r ≡ is_shaped line → not r ≡ false → length line ≡ width
shaped line r e h = long line (sym e ∙ not-false r h)

pub shaped_some : (line : List ℕ) (r : Bool) → r ≡ is_shaped line → not r ≡ false → 0 < length line
shaped_some line r e h = omega (arith, shaped line r e h)
