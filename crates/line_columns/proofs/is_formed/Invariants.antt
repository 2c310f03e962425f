-- The loop's invariant: no bad column so far, and right ones from i on, is that all are right. Assumes nothing.
use Prim.Native.Nat.{◌+◌, ◌≤◌}
use mathlib.Core.Path.{◌≡◌}
use mathlib.Core.Bool.{◌&&◌}
use lib.Dec.{eqb}
use lib.ListN.{get_or, drop}
use Rattle.line_columns.specs.Columns.{formed}
use Rattle.line_columns.proofs.is_formed.Given as goal

abbrev pub invariant-loop-i : goal.invariant-loop-i
invariant-loop-i l = (l.bad ≤ l.i) × ((eqb l.bad 0 && formed (drop l.i l.front) (drop l.i l.most) (get_or l.columns l.i 0) (drop (l.i + 1) l.columns)) ≡ formed l.front l.most (get_or l.columns 0 0) (drop 1 l.columns))
