use Rattle.feed_blocks.proofs.Scan.{moved}
use Rattle.feed_blocks.proofs.move_front.Goals as goal

pub returns : goal.returns
returns c = moved c.args.block.now c.copy_within.new.self c.args.from c.min-start.result c.min-start.ensures c.copy_within.ensures.after c.copy_within.ensures.len
