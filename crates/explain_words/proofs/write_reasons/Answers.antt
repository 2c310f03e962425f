use Rattle.text.proofs.Writing.{then}
use Rattle.explain_words.specs.Text.{reasons_text}
use Rattle.explain_words.proofs.write_reasons.Goals as goal

pub returns : goal.returns
unfolding reasons_text
returns c = search then
