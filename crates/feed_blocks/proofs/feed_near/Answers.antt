use Rattle.feed_blocks.proofs.Scan.{near_seen, near_on}
use Rattle.feed_blocks.proofs.feed_near.Goals as goal
use Rattle.feed_blocks.proofs.feed_near.Goals.{else-block-i-eq10, then-block-i-eq10}

pub loop-i-preserved : goal.loop-i-preserved
loop-i-preserved c = elim c.if-block-i-eq10.branch [ then-block-i-eq10 w ↦ search near_seen | else-block-i-eq10 w ↦ search near_on ]
