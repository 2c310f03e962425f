use Rattle.read_run.proofs.Laws.{takes}
use Rattle.read_run.proofs.turn.Goals as goal

pub returns : goal.returns
returns g c = search takes
