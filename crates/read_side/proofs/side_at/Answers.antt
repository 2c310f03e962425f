use Rattle.read_side.proofs.Sides.{said_room}
use Rattle.read_side.proofs.side_at.Goals as goal

pub side_with-requires : goal.side_with-requires
side_with-requires c = search said_room
