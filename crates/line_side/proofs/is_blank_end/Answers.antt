use native.Mathlib.Omega.{arith}
use Rattle.line_side.proofs.Amounts.{end_parts}
use Rattle.line_side.proofs.is_blank_end.Goals as goal

pub returns-then-is_blank_part : goal.returns-then-is_blank_part
returns-then-is_blank_part c = rw (end_parts c.args.part.now) (grind arith)

pub returns-else-is_blank_part : goal.returns-else-is_blank_part
returns-else-is_blank_part c = rw (end_parts c.args.part.now) (grind arith)
