use mathlib.Core.List.{append_assoc, append-nil}
use Rattle.text.proofs.Writing.{fits, named}
use Rattle.explain_words.specs.Text.{three, full_reasons}
use Rattle.explain_words.proofs.write_full_reasons.Goals as goal

pub write_given-requires : goal.write_given-requires
unfolding full_reasons three
write_given-requires c = fits (full_reasons c.args.r) _ _ c.requires (simp (append_assoc, append-nil))

pub returns : goal.returns
unfolding full_reasons three
returns c = named (simp (append_assoc, append-nil)) c.write_given.ensures
