-- The loop's invariant: going on from here leads where the whole block leads. Assumes nothing.
use Prim.Native.Nat.{◌-◌}
use lib.ListN.{length}
use Rattle.feed_gather.specs.Gather.{started, block_taken}
use Rattle.feed_gather.proofs.Blocks.{Turn}
use Rattle.feed_lines.specs.Feed.{day_program}
use Rattle.feed_lines.proofs.feed.Given as goal

abbrev pub invariant-loop-f : goal.invariant-loop-f
invariant-loop-f l = Turn day_program l.block l.initial.tape l.initial.refusals (block_taken day_program (length l.initial.tape) (length l.initial.refusals) l.block (started l.initial.f.settings l.initial.table l.initial.names l.number)) l.table l.names l.tape l.refusals l.f

abbrev pub decreases-loop-f : goal.decreases-loop-f
decreases-loop-f l = length l.block - l.f.at
