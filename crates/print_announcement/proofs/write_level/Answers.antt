use Rattle.text.proofs.Writing.{rooms, then}
use Rattle.rules.specs.Announcement.{level_text}
use Rattle.print_announcement.proofs.write_level.Goals as goal

pub write_bytes-at-requires : goal.write_bytes-at-requires
unfolding level_text
write_bytes-at-requires c = search rooms depth 9

pub write_full_volume-requires : goal.write_full_volume-requires
unfolding level_text
write_full_volume-requires c = search rooms depth 9

pub write_bytes-requires : goal.write_bytes-requires
unfolding level_text
write_bytes-requires c = search rooms depth 9

pub returns : goal.returns
unfolding level_text
returns c = search then
