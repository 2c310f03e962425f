use Rattle.text.proofs.Writing.{then}
use Rattle.print_amendment.specs.Original.{original_text}
use Rattle.print_amendment.proofs.write_original.Goals as goal

pub returns : goal.returns
unfolding original_text
returns c = search then
