-- The loop's invariant: the digits that are left, and then the tape from i on, are what is wanted. Assumes nothing.
use Prim.Native.Nat.{◌≤◌}
use mathlib.Core.Path.{◌≡◌}
use mathlib.Core.List.{◌++◌}
use lib.ListN.{length, drop}
use Rattle.text.specs.Put.{put}
use Rattle.text.specs.Decimal.{places}
use Rattle.text.proofs.write_places.Given as goal

abbrev pub invariant-loop-i : goal.invariant-loop-i
invariant-loop-i l = (l.i ≤ l.k) × (places l.i l.m ++ drop l.i l.rest ≡ put (places l.k l.n) l.initial.rest) × (length l.rest ≡ length l.initial.rest)
