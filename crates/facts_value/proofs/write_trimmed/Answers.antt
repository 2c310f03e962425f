use native.Mathlib.Omega.{arith}
use lib.ListN.{length}
use Rattle.facts_value.specs.Values.{trimmed}
use Rattle.facts_value.proofs.Trims.{trim_again, trim_stopped, trim_ended, trimmed_room, trimmed_written, nothing_placed}
use Rattle.facts_value.proofs.write_trimmed.Goals as goal

pub write_places-requires : goal.write_places-requires
write_places-requires c = let l = c.loop-k in
    let told = trim_stopped l.k l.m (trimmed 8 c.args.f) l.invariant.0 (omega arith) c.if-m-ne0.true in
    trimmed_room l.k l.m (length l.rest) (trimmed 8 c.args.f) told (rw l.invariant.1 c.requires)

pub returns-then-m-ne0 : goal.returns-then-m-ne0
returns-then-m-ne0 c = let l = c.loop-k in
    let told = trim_stopped l.k l.m (trimmed 8 c.args.f) l.invariant.0 (omega arith) c.if-m-ne0.true in
    trimmed_written l.k l.m 0 (trimmed 8 c.args.f) told _ _ _ (rw l.invariant.1 at c.write_places.ensures)

pub loop-k-preserved : goal.loop-k-preserved
loop-k-preserved c = let l = c.loop-k in (trim_again l.k l.m _ l.invariant.0 (omega arith) c.if-m-ne0.false, l.invariant.1)

pub returns : goal.returns
returns c = let l = c.loop-k in
    trimmed_written 0 l.m 0 (trimmed 8 c.args.f) (trim_ended l.k l.m _ l.invariant.0 (omega arith)) _ _ _ (rw l.invariant.1 (nothing_placed l.m c.args.rest.now))
