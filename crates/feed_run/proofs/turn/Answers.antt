use Rattle.feed_run.proofs.Laws.{takes}
use Rattle.feed_run.proofs.turn.Goals as goal

pub returns : goal.returns
returns g c = search takes
