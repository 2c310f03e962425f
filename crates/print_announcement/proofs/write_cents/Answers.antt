use Rattle.text.proofs.Writing.{rooms, then}
use Rattle.print_announcement.proofs.Modes.{places_room}
use Rattle.print_announcement.proofs.write_cents.Goals as goal

pub write_whole-at-requires : goal.write_whole-at-requires
write_whole-at-requires c = search rooms depth 9

pub write_bytes-requires : goal.write_bytes-requires
write_bytes-requires c = search rooms depth 9

pub write_places-requires : goal.write_places-requires
write_places-requires c = search (places_room, then)

pub returns : goal.returns
returns c = search then
