use Prim.Native.Nat.{◌-◌, ◌^◌, ◌≤◌, ◌<◌}
use mathlib.Core.Path.{◌≡◌}
use lib.ListN.{length, drop}
use Rattle.read_volume.specs.Volume.{figures_onto}
use Rattle.read_volume.proofs.figures_at.Given as goal

abbrev pub invariant-loop-i : goal.invariant-loop-i
invariant-loop-i l = (l.i ≤ length l.s) × (figures_onto (12 - l.i) l.value l.i (drop l.i l.s) ≡ figures_onto 12 0 0 l.s) × (l.value < 10 ^ l.i)
