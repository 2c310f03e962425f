use Rattle.text.proofs.Writing.{then}
use Rattle.explain_words.specs.Text.{price_text}
use Rattle.explain_words.proofs.write_price.Goals as goal

pub returns : goal.returns
unfolding price_text
returns c = search then
