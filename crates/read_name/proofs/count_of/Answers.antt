use Rattle.read_name.proofs.Count.{count_short, count_full, count_stop, count_more}
use borrow.Author.Rules.{rules}
use Rattle.read_name.proofs.count_of.Goals.{then-s-i-via-then-s-i, then-s-i-via-else-s-i+then-not-passes}
use Rattle.read_name.proofs.count_of.Goals as goal

pub returns-then-s-i-clause-counted : goal.returns-then-s-i-clause-counted
returns-then-s-i-clause-counted g c = λ p h. let e = c.loop-i.invariant.1 p h in elim c.then-s-i.branch [
  | then-s-i-via-then-s-i w ↦ count_short p _ _ _ _ e w.if-s-i.true
  | then-s-i-via-else-s-i+then-not-passes w ↦ count_stop p _ _ _ _ e c.loop-i-test.true w.if-s-i.false _ (h _ _ w.passes.ensures) w.if-not-passes.true
]

pub loop-i-preserved : goal.loop-i-preserved
loop-i-preserved g c = (search rules, λ p h. count_more p _ _ _ _ (c.loop-i.invariant.1 p h) c.loop-i-test.true c.if-s-i.false _ (h _ _ c.passes.ensures) c.if-not-passes.false)

pub returns-clause-counted : goal.returns-clause-counted
returns-clause-counted g c = λ p h. count_full p _ _ _ _ (c.loop-i.invariant.1 p h) c.loop-i.auto.i-end c.loop-i-test.false
