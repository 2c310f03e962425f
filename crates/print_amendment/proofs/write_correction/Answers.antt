use Rattle.text.proofs.Writing.{then}
use Rattle.rules.specs.Correction.{correction_text}
use Rattle.print_amendment.proofs.Amended.{written_again}
use Rattle.print_amendment.specs.Original.{original_text}
use Rattle.print_amendment.proofs.write_correction.Goals as goal

pub returns : goal.returns
unfolding correction_text original_text
returns c = search (then, written_again)
