use Rattle.text.proofs.Writing.{then, rooms}
use Rattle.feed_lines.specs.Refusals.{refusal_line}
use Rattle.feed_lines.proofs.write_refusal.Goals as goal

pub write_right-a-requires : goal.write_right-a-requires
unfolding refusal_line
write_right-a-requires c = search rooms depth 9

pub write_right-requires : goal.write_right-requires
unfolding refusal_line
write_right-requires c = search rooms depth 9

pub write_bytes-requires : goal.write_bytes-requires
unfolding refusal_line
write_bytes-requires c = search rooms depth 9

pub returns : goal.returns
unfolding refusal_line
returns c = search then
