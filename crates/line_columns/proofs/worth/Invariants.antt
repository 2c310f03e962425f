-- The loop's invariant: acc is worth the columns before c. Assumes nothing.
use Prim.Native.Nat.{◌+◌, ◌*◌, ◌^◌, ◌≤◌}
use mathlib.Core.Path.{◌≡◌}
use lib.ListN.{drop}
use Rattle.line_columns.specs.Columns.{worth_of}
use Rattle.line_columns.proofs.worth.Given as goal

abbrev pub invariant-loop-c : goal.invariant-loop-c
invariant-loop-c l = (worth_of l.acc (drop l.c-index l.field) ≡ worth_of 0 l.field) × (l.acc + 2 ≤ 2 * 10 ^ l.c-index)
