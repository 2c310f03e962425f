use Rattle.reader.proofs.Rooms.{agains_within}
use Rattle.reader.proofs.again_from.Goals as goal

pub returns-clause-within : goal.returns-clause-within
returns-clause-within c = agains_within c.args.s.now c.args.n c.requires.0 _ _ c.again_at.ensures
