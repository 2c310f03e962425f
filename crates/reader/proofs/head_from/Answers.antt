use Rattle.reader.proofs.Rooms.{heads_within}
use Rattle.reader.proofs.head_from.Goals as goal

pub returns-clause-within : goal.returns-clause-within
returns-clause-within c = heads_within c.args.s.now c.args.n c.requires c.args.temporary _ c.head_at.ensures
