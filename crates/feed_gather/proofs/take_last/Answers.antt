use Rattle.std.proofs.Common.{ap, not}
use Rattle.feed_gather.specs.Gather.{telling}
use Rattle.feed_gather.proofs.Blocks.{alone_stop, alone_on}
use Rattle.feed_gather.proofs.take_last.Goals as goal

pub returns-then-not-room_left : goal.returns-then-not-room_left
returns-then-not-room_left g c = alone_stop (telling g.T.Tell.ROOM g.T.Tell.text) _ _ _ _ _ _ _ _ c.nothing_read-f.ensures _ (rw c.ROOM.ensures at c.room_left.ensures) (ap not c.if-not-room_left.true)

pub returns : goal.returns
returns g c = alone_on (telling g.T.Tell.ROOM g.T.Tell.text) _ _ _ _ _ _ _ _ c.nothing_read-f.ensures _ (rw c.ROOM.ensures at c.room_left.ensures) (ap not c.if-not-room_left.false) _ _ _ _ _ c.take_line.ensures.0 c.take_line.ensures.1
