use Rattle.reader.proofs.Rooms.{sides_within}
use Rattle.reader.proofs.side_from.Goals as goal

pub returns-clause-within : goal.returns-clause-within
returns-clause-within c = sides_within c.args.s.now c.args.n c.requires _ _ _ _ _ c.side_at.ensures.is
