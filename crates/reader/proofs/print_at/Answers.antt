use Rattle.reader.proofs.Rooms.{correction_room, cancel_room, error_room}
use Rattle.reader.proofs.print_at.Goals as goal

pub correction_at-requires : goal.correction_at-requires
correction_at-requires c = search correction_room

pub cancel_at-requires : goal.cancel_at-requires
cancel_at-requires c = search cancel_room

pub cancel_at-requires-then-begins-4 : goal.cancel_at-requires-then-begins-4
cancel_at-requires-then-begins-4 c = search error_room
