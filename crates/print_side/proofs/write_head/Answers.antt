use Rattle.text.proofs.Writing.{then}
use Rattle.rules.specs.Side.{head_text}
use Rattle.print_side.proofs.write_head.Goals as goal

pub returns-then-marked : goal.returns-then-marked
unfolding head_text
returns-then-marked c = search then
