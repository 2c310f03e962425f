use Rattle.feed_step.proofs.Ways.{settled}
use Rattle.feed_step.proofs.settle.Goals as goal

pub returns : goal.returns
returns c = search settled
