use Rattle.std.proofs.Common.{refl}
use Rattle.feed_gather.specs.Gather.{telling}
use Rattle.feed_gather.proofs.Lines.{line_told}
use Rattle.feed_gather.proofs.take_line.Goals as goal

pub returns : goal.returns
returns g c = let q = c.requires in (line_told (telling g.T.Tell.ROOM g.T.Tell.text) (λ st table names number c. refl) _ _ _ _ _ _ _ _ _ _ _ c.take-t.ensures q.0 q.1, refl)
