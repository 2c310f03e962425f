use mathlib.Core.List.{append_assoc, append-nil}
use Rattle.text.proofs.Writing.{fits, named}
use Rattle.explain_words.specs.Text.{three, volume_reasons}
use Rattle.explain_words.proofs.write_volume_reasons.Goals as goal

pub write_given-requires : goal.write_given-requires
unfolding volume_reasons three
write_given-requires c = fits (volume_reasons c.args.r) _ _ c.requires (simp (append_assoc, append-nil))

pub returns : goal.returns
unfolding volume_reasons three
returns c = named (simp (append_assoc, append-nil)) c.write_given.ensures
