use Prim.Native.Nat.{ℕ, ◌+◌, ◌-◌, ◌≤◌}
use mathlib.Core.Path.{◌≡◌}
use mathlib.Core.Bool.{Bool}
use lib.ListN.{length, drop}
use Rattle.read_name.specs.Name.{count_of}
use Rattle.read_name.proofs.count_of.Given as goal

-- i bytes pass
abbrev pub invariant-loop-i : goal.invariant-loop-i
invariant-loop-i g l = (l.i ≤ length l.s) × ((p : ℕ → Bool) → ((c : ℕ) (r : Bool) → goal.F-post g l.passes c r → r ≡ p c) → count_of p (l.most - l.i) (drop l.i l.s) + l.i ≡ count_of p l.most l.s)
