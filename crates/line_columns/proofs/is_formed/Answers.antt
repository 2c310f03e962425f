use borrow.Author.Rules.{rules}
use native.Mathlib.Omega.{arith}
use mathlib.Core.Path.{refl}
use Rattle.line_columns.proofs.Numbers.{one_more, at_most_one_lem, all_formed}
use Rattle.line_columns.proofs.is_formed.Goals as goal

pub loop-i-init : goal.loop-i-init
loop-i-init c = (search rules, refl)

pub overflow_add-bad : goal.overflow_add-bad
overflow_add-bad c = omega (arith, at_most_one_lem _ _ c.unfit-bad.ensures)

pub loop-i-preserved : goal.loop-i-preserved
loop-i-preserved c = (omega (arith, at_most_one_lem _ _ c.unfit-bad.ensures), search one_more)

pub returns : goal.returns
returns c = search all_formed
