use Rattle.std.proofs.Common.{rules, arith}
use Rattle.read_step.proofs.Programs.{opened_within}
use Rattle.read_run.proofs.Laws.{begins, goes_on, ends}
use Rattle.read_run.proofs.run.Goals as goal

pub loop-init : goal.loop-init
loop-init g c = record { within = search (rules, opened_within); goes = λ a. begins _ _ }

pub loop-preserved : goal.loop-preserved
loop-preserved g c = record {
  within = c.turn-r.ensures.turn.within;
  goes = λ a. goes_on c.turn-r.ensures (omega (arith, a, c.turn-r.auto.lines)) (c.loop.invariant.goes (omega (arith, a, c.turn-r.auto.lines))) (c.write_lines.ensures c.if-not-write_lines.false) c.if-r.false;
}

pub returns-then-s : goal.returns-then-s
returns-then-s g c = λ w a. ends c.turn-r.ensures (omega (arith, a, c.loop.auto.lines)) (c.loop.invariant.goes (omega (arith, a, c.loop.auto.lines))) (c.write_lines.ensures c.if-not-write_lines.false) c.started-s.ensures c.if-r.true

pub returns-else-s : goal.returns-else-s
returns-else-s g c = λ w a. ends c.turn-r.ensures (omega (arith, a, c.loop.auto.lines)) (c.loop.invariant.goes (omega (arith, a, c.loop.auto.lines))) (c.write_lines.ensures c.if-not-write_lines.false) c.started-s.ensures c.if-r.true
