use Rattle.text.proofs.Writing.{rooms, then}
use Rattle.feed_trouble.specs.Trouble.{trouble_text}
use Rattle.feed_trouble.proofs.write_trouble.Goals as goal

pub write_bytes-i-requires : goal.write_bytes-i-requires
unfolding trouble_text
write_bytes-i-requires c = search rooms depth 24

pub write_what-requires : goal.write_what-requires
unfolding trouble_text
write_what-requires c = search rooms depth 24

pub write_bytes-requires : goal.write_bytes-requires
unfolding trouble_text
write_bytes-requires c = search rooms depth 24

pub write_decimal-requires : goal.write_decimal-requires
unfolding trouble_text
write_decimal-requires c = search rooms depth 24

pub write_bytes-requires-2 : goal.write_bytes-requires-2
unfolding trouble_text
write_bytes-requires-2 c = search rooms depth 24

pub returns : goal.returns
unfolding trouble_text
returns c = search then
