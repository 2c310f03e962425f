use Rattle.text.proofs.Writing.{then}
use Rattle.explain_text.specs.Lines.{head_text}
use Rattle.explain_text.proofs.write_head.Goals as goal

pub returns : goal.returns
unfolding head_text
returns c = search then
