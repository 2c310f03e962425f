use Rattle.text.proofs.Writing.{then}
use Rattle.rules.specs.Side.{tail_text}
use Rattle.print_side.proofs.write_tail.Goals as goal

pub returns-then-marked : goal.returns-then-marked
unfolding tail_text
returns-then-marked c = search then
