use Rattle.explain_fate.proofs.Fates.{places}
use Rattle.explain_fate.proofs.line_fate.Goals as goal

pub place_of-place-requires : goal.place_of-place-requires
place_of-place-requires c = search places

pub load-s-requires : goal.load-s-requires
load-s-requires c = search places

pub returns : goal.returns
returns c = search places
