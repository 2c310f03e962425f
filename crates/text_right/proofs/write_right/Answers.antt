use Rattle.text.proofs.Writing.{joined}
use Rattle.text_right.proofs.Writes.{right_parts, blanks_room, digits_room}
use Rattle.text_right.proofs.write_right.Goals as goal

pub write_blanks-at-requires : goal.write_blanks-at-requires
write_blanks-at-requires c = search blanks_room

pub write_places-requires : goal.write_places-requires
write_places-requires c = search digits_room

pub returns : goal.returns
returns c = search (joined, right_parts)
