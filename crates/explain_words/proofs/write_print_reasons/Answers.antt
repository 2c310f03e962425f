use mathlib.Core.List.{append_assoc, append-nil}
use Rattle.text.proofs.Writing.{fits, named}
use Rattle.explain_words.specs.Text.{three, print_reasons}
use Rattle.explain_words.proofs.write_print_reasons.Goals as goal

pub write_given-requires : goal.write_given-requires
unfolding print_reasons three
write_given-requires c = fits (print_reasons c.args.r) _ _ c.requires (simp (append_assoc, append-nil))

pub returns : goal.returns
unfolding print_reasons three
returns c = named (simp (append_assoc, append-nil)) c.write_given.ensures
