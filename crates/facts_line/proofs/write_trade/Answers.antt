use Rattle.text.proofs.Writing.{rooms, then}
use Rattle.facts_line.specs.Lines.{trade_text}
use Rattle.facts_line.proofs.write_trade.Goals as goal

pub write_trade_head-i-requires : goal.write_trade_head-i-requires
unfolding trade_text
write_trade_head-i-requires c = search rooms depth 24

pub write_trade_tail-requires : goal.write_trade_tail-requires
unfolding trade_text
write_trade_tail-requires c = search rooms depth 24

pub write_bytes-requires : goal.write_bytes-requires
unfolding trade_text
write_bytes-requires c = search rooms depth 24

pub returns : goal.returns
unfolding trade_text
returns c = search then
