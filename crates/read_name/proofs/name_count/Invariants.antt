use Prim.Native.Nat.{◌+◌, ◌≤◌}
use mathlib.Core.Path.{◌≡◌}
use lib.ListN.{length, drop}
use Rattle.read_name.specs.Head.{name_count}
use Rattle.read_name.proofs.name_count.Given as goal

abbrev pub invariant-loop-i : goal.invariant-loop-i
invariant-loop-i l = (l.i ≤ length l.run) × (name_count (drop l.i l.run) + l.i ≡ name_count l.run)
