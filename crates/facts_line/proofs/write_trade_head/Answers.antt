use Rattle.text.proofs.Writing.{rooms, then}
use Rattle.facts_line.specs.Lines.{trade_head}
use Rattle.facts_line.proofs.write_trade_head.Goals as goal

pub write_bytes-i-requires : goal.write_bytes-i-requires
unfolding trade_head
write_bytes-i-requires c = search rooms depth 24

pub write_decimal-requires : goal.write_decimal-requires
unfolding trade_head
write_decimal-requires c = search rooms depth 24

pub write_bytes-requires : goal.write_bytes-requires
unfolding trade_head
write_bytes-requires c = search rooms depth 24

pub write_flag-requires : goal.write_flag-requires
unfolding trade_head
write_flag-requires c = search rooms depth 24

pub returns : goal.returns
unfolding trade_head
returns c = search then
