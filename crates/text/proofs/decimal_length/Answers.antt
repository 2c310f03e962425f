use borrow.Author.Rules.{rules}
use native.Mathlib.Omega.{arith}
use Rattle.text.proofs.Decimal.{length_decimal, some_digits, one_more, counted_all}
use Rattle.text.proofs.decimal_length.Goals as goal

pub loop-m-init : goal.loop-m-init
loop-m-init c = (search rules, length_decimal 19 c.args.n (omega arith))

pub overflow_add-k : goal.overflow_add-k
overflow_add-k c = omega (arith, some_digits c.loop-m.m)

pub loop-m-preserved : goal.loop-m-preserved
loop-m-preserved c = let l = c.loop-m in (one_more l.k l.m _ (search rules) l.invariant.0, l.invariant.1)

pub returns : goal.returns
returns c = let l = c.loop-m in let e = counted_all l.k l.m _ (search rules) l.invariant.0 in (e, omega arith)
