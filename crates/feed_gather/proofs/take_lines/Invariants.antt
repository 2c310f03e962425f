-- The loop's invariant: going on from here leads where the whole block leads. Assumes nothing.
use Rattle.std.specs.Prelude.{◌-◌, length}
use Rattle.feed_gather.specs.Gather.{started, block_taken, telling}
use Rattle.feed_gather.proofs.Blocks.{Turn}
use Rattle.feed_gather.proofs.take_lines.Given as goal

abbrev pub invariant-loop-f : goal.invariant-loop-f
invariant-loop-f g l = let p = telling g.T.Tell.ROOM g.T.Tell.text in Turn p l.block l.initial.out l.err (block_taken p (length l.initial.out) (length l.err) l.block (started l.fn.settings l.initial.table l.initial.names l.number)) l.table l.names l.out l.err l.f

abbrev pub decreases-loop-f : goal.decreases-loop-f
decreases-loop-f g l = length l.block - l.f.at
