use Rattle.call_plan.proofs.Read.{shaped_some}
use Rattle.explain_fate.proofs.kind_of.Goals as goal

pub bounds-line-0 : goal.bounds-line-0
bounds-line-0 c = search shaped_some
