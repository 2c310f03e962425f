use Rattle.text.proofs.Writing.{rooms, then}
use Rattle.rules.specs.Announcement.{minimum_text}
use Rattle.print_announcement.proofs.write_minimum.Goals as goal

pub write_bytes-at-requires : goal.write_bytes-at-requires
unfolding minimum_text
write_bytes-at-requires c = search rooms depth 9

pub write_minimum_dollars-requires : goal.write_minimum_dollars-requires
unfolding minimum_text
write_minimum_dollars-requires c = search rooms depth 9

pub write_bytes-requires : goal.write_bytes-requires
unfolding minimum_text
write_bytes-requires c = search rooms depth 9

pub returns : goal.returns
unfolding minimum_text
returns c = search then
