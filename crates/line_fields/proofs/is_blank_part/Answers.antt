use native.Mathlib.Omega.{arith}
use Rattle.line_fields.proofs.Texts.{mark_found, no_mark, blank_passed}
use Rattle.line_fields.proofs.is_blank_part.Goals as goal

pub loop-c-preserved : goal.loop-c-preserved
loop-c-preserved c = grind (arith, mark_found, no_mark)

pub returns : goal.returns
returns c = search blank_passed
