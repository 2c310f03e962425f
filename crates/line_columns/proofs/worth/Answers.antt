use native.Mathlib.Omega.{arith}
use Rattle.line_columns.proofs.Numbers.{worth_small, worth_next, worth_grows}
use Rattle.line_columns.proofs.worth.Goals as goal

pub overflow_mul-acc : goal.overflow_mul-acc
overflow_mul-acc c = let l = c.loop-c in omega (arith, worth_small l.acc l.c-index l.invariant.1 (omega arith))

pub overflow_add-acc : goal.overflow_add-acc
overflow_add-acc c = let l = c.loop-c in omega (arith, worth_small l.acc l.c-index l.invariant.1 (omega arith))

pub loop-c-preserved : goal.loop-c-preserved
loop-c-preserved c = let l = c.loop-c in (grind (arith, worth_next), worth_grows l.acc c.from.result l.c-index l.invariant.1 (omega arith))
