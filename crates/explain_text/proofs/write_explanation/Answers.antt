use Rattle.text.proofs.Writing.{then}
use Rattle.explain_text.specs.Lines.{line_of}
use Rattle.explain_text.proofs.write_explanation.Goals as goal

pub returns : goal.returns
unfolding line_of
returns c = search then
