use Prim.Native.Nat.{◌≤◌, ◌<◌, ◌^◌}
use mathlib.Core.Path.{◌≡◌}
use lib.ListN.{length, drop}
use Rattle.read_announcement.specs.Announced.{digits_in}
use Rattle.read_announcement.proofs.digits_in.Given as goal

abbrev pub invariant-loop-c : goal.invariant-loop-c
invariant-loop-c l = (l.c-index ≤ length l.s) × (digits_in l.n (drop l.c-index l.s) ≡ digits_in 0 l.s) × (l.n < 10 ^ l.c-index)
