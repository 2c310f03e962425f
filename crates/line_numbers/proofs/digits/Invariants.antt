-- The loop's invariant: acc is worth the digits before c. Assumes nothing.
use Prim.Native.Nat.{◌^◌, ◌<◌}
use mathlib.Core.Path.{◌≡◌}
use lib.ListN.{drop}
use Rattle.rules.specs.Columns.{digits_from}
use Rattle.line_numbers.proofs.digits.Given as goal

abbrev pub invariant-loop-c : goal.invariant-loop-c
invariant-loop-c l = (digits_from l.acc (drop l.c-index l.field) ≡ digits_from 0 l.field) × (l.acc < 10 ^ l.c-index)
