use Rattle.text.proofs.Writing.{written_nothing, room, joined}
use Rattle.explain_words.proofs.Table.{one_more, one_fits}
use Rattle.explain_words.proofs.write_given.Goals as goal

pub loop-given-init : goal.loop-given-init
loop-given-init c = written_nothing c.args.rest.now

pub write_optional-count-requires : goal.write_optional-count-requires
write_optional-count-requires c = let l = c.loop-given in
    room _ l.invariant (one_fits _ c.args.reasons.now l.given-index _ c.loop-given-test.true _ c.requires)

pub loop-given-preserved : goal.loop-given-preserved
loop-given-preserved c = let l = c.loop-given in
    joined l.invariant c.write_optional-count.ensures (one_more _ c.args.reasons.now l.given-index _ c.loop-given-test.true)
