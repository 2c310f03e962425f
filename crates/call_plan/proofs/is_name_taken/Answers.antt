use mathlib.Core.Path.{refl}
use Rattle.call_plan.proofs.Plans.{name_hit, name_miss, name_none}
use Rattle.call_plan.proofs.is_name_taken.Goals as goal

pub loop-i-init : goal.loop-i-init
loop-i-init c = refl

pub returns-then-is_taken_at : goal.returns-then-is_taken_at
returns-then-is_taken_at c = search name_hit

pub loop-i-preserved : goal.loop-i-preserved
loop-i-preserved c = search name_miss

pub returns : goal.returns
returns c = search name_none
