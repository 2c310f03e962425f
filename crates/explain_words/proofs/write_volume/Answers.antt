use Rattle.text.proofs.Writing.{then}
use Rattle.explain_words.specs.Text.{volume_text}
use Rattle.explain_words.proofs.write_volume.Goals as goal

pub returns : goal.returns
unfolding volume_text
returns c = search then
