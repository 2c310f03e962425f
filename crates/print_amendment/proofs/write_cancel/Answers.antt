use Rattle.text.proofs.Writing.{then}
use Rattle.rules.specs.Correction.{cancel_text}
use Rattle.print_amendment.proofs.write_cancel.Goals as goal

pub returns : goal.returns
unfolding cancel_text
returns c = search then
