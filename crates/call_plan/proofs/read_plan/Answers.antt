use Rattle.call_plan.proofs.Read.{owed_read}
use Rattle.rules.proofs.Fields.{name_length}
use Rattle.call_plan.proofs.read_plan.Goals as goal

pub line_plan-requires : goal.line_plan-requires
line_plan-requires c = (search owed_read, search name_length)
