use Prim.Native.Nat.{◌-◌, ◌^◌, ◌<◌}
use mathlib.Core.Path.{◌≡◌}
use lib.ListN.{drop}
use Rattle.read_price.specs.Digits.{digits_onto}
use Rattle.read_price.proofs.digits_at.Given as goal

abbrev pub invariant-loop-i : goal.invariant-loop-i
invariant-loop-i l = (digits_onto (l.most - l.i) l.value l.i (drop l.i l.s) ≡ digits_onto l.most 0 0 l.s) × (l.value < 10 ^ l.i)
