-- The loop's invariant: k digits are counted, and those of m are left, one of them counted already. Assumes nothing.
use Prim.Native.Nat.{◌+◌, ◌≤◌}
use mathlib.Core.Path.{◌≡◌}
use lib.ListN.{length}
use Rattle.text.specs.Decimal.{decimal}
use Rattle.text.proofs.decimal_length.Given as goal

abbrev pub invariant-loop-m : goal.invariant-loop-m
invariant-loop-m l = (l.k + length (decimal l.m) ≡ 1 + length (decimal l.n)) × (length (decimal l.n) ≤ 20)

abbrev pub decreases-loop-m : goal.decreases-loop-m
decreases-loop-m l = l.m
