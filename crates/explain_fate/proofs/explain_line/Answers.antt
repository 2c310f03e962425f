use Rattle.explain_fate.proofs.Agree.{sound_reading, told}
use Rattle.explain_fate.proofs.Numbers.{explained_as}
use Rattle.explain_fate.proofs.explain_line.Goals as goal

pub read_fate-requires : goal.read_fate-requires
read_fate-requires c = search sound_reading

pub returns : goal.returns
returns c = search (explained_as, told) depth 40 fits 10000
