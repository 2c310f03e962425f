use native.Mathlib.Omega.{arith}
use Rattle.line_numbers.proofs.Numbers.{small}
use Rattle.line_numbers.proofs.digits.Goals as goal

pub overflow_mul-acc : goal.overflow_mul-acc
overflow_mul-acc c = let l = c.loop-c in omega (arith, small l.acc l.c-index l.invariant.1 (omega arith))

pub overflow_add-acc : goal.overflow_add-acc
overflow_add-acc c = let l = c.loop-c in omega (arith, small l.acc l.c-index l.invariant.1 (omega arith))
