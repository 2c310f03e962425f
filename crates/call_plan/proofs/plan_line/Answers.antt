use Rattle.call_plan.proofs.Read.{shaped, shaped_some}
use Rattle.call_plan.proofs.plan_line.Goals as goal

pub bounds-line-0 : goal.bounds-line-0
bounds-line-0 c = search shaped_some

pub read_plan-requires : goal.read_plan-requires
read_plan-requires c = search shaped
