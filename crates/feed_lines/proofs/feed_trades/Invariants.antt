use Prim.Native.Nat.{◌-◌}
use lib.ListN.{length}
use Rattle.feed_lines.proofs.Runs.{Run}
use Rattle.feed_lines.proofs.feed_trades.Given as goal

abbrev pub invariant-loop-st : goal.invariant-loop-st
invariant-loop-st l = Run l.last l.block l.names l.refusals l.initial.table l.initial.tape l.st l.initial.r l.table l.tape l.r

abbrev pub decreases-loop-st : goal.decreases-loop-st
decreases-loop-st l = length l.block - l.r.at
