use Rattle.feed_refill.proofs.Laws.{no_read, read_so}
use Rattle.feed_refill.proofs.read_input.Goals as goal

pub returns-then-not-p-clause-reading : goal.returns-then-not-p-clause-reading
returns-then-not-p-clause-reading g c = no_read _ _ _ c.if-not-p.true

pub returns-clause-reading : goal.returns-clause-reading
returns-clause-reading g c = read_so _ _ _ c.requires c.if-not-p.false c.read.auto.buf _ c.read.result _ c.map_err.ensures.variant c.map_err.ensures.cases c.read.ensures.bound
