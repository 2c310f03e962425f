use Rattle.std.proofs.Common.{rules, arith, refl}
use Rattle.feed_step.proofs.Steps.{opens_within}
use Rattle.feed_run.proofs.Laws.{begins, goes_on, ends}
use Rattle.feed_run.proofs.run.Goals as goal

pub loop-init : goal.loop-init
loop-init g c = record { within = search (rules, opens_within); goes = λ a b. begins _ _ }

pub loop-preserved : goal.loop-preserved
loop-preserved g c = record {
  within = c.turn-r.ensures.turned.within;
  goes = λ a b.
      goes_on c.turn-r.ensures (omega (arith, a, c.turn-r.auto.out)) (omega (arith, b, c.turn-r.auto.err)) (c.loop.invariant.goes (omega (arith, a, c.turn-r.auto.out)) (omega (arith, b, c.turn-r.auto.err))) (c.write_out.ensures c.if-not-write_out.false) c.if-r.false;
}

pub returns-then-s : goal.returns-then-s
returns-then-s g c = λ w a b.
    ends c.turn-r.ensures (omega (arith, a, c.loop.auto.out)) (omega (arith, b, c.loop.auto.err)) (c.loop.invariant.goes (omega (arith, a, c.loop.auto.out)) (omega (arith, b, c.loop.auto.err))) (c.write_out.ensures c.if-not-write_out.false) c.started-s.ensures refl refl c.if-r.true

pub returns-else-s : goal.returns-else-s
returns-else-s g c = λ w a b.
    ends c.turn-r.ensures (omega (arith, a, c.loop.auto.out)) (omega (arith, b, c.loop.auto.err)) (c.loop.invariant.goes (omega (arith, a, c.loop.auto.out)) (omega (arith, b, c.loop.auto.err))) (c.write_out.ensures c.if-not-write_out.false) c.started-s.ensures refl refl c.if-r.true
