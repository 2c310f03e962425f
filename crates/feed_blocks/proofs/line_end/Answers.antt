use Rattle.feed_blocks.proofs.Scan.{end_here, end_on, end_past}
use Rattle.feed_blocks.proofs.line_end.Goals as goal

pub loop-i-preserved : goal.loop-i-preserved
loop-i-preserved c = search end_on

pub returns-else-block-i-ne10 : goal.returns-else-block-i-ne10
returns-else-block-i-ne10 c = search end_here

pub returns-after-loop-i : goal.returns-after-loop-i
returns-after-loop-i c = search end_past
