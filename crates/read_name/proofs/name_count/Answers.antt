use native.Mathlib.Omega.{arith}
use Rattle.read_name.proofs.Count.{cut_end, cut_here, cut_later}
use borrow.Author.Rules.{rules}
use Rattle.read_name.proofs.name_count.Goals as goal

pub loop-i-init : goal.loop-i-init
loop-i-init c = (search rules, omega arith)

pub returns-then-is_after : goal.returns-then-is_after
returns-then-is_after c = (search cut_here, search rules)

pub loop-i-preserved : goal.loop-i-preserved
loop-i-preserved c = (search rules, search cut_later)

pub returns : goal.returns
returns c = (cut_end _ _ _ c.loop-i.invariant.1 c.loop-i.invariant.0 c.loop-i-test.false, search rules)
