use Rattle.text.proofs.Writing.{then}
use Rattle.explain_text.specs.Lines.{refused_text}
use Rattle.explain_text.proofs.write_refused.Goals as goal

pub returns : goal.returns
unfolding refused_text
returns c = search then
