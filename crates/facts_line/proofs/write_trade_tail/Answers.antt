use Rattle.text.proofs.Writing.{rooms, then}
use Rattle.facts_entry.specs.Entry.{conditions_in}
use Rattle.facts_line.specs.Lines.{trade_tail}
use Rattle.facts_line.proofs.write_trade_tail.Goals as goal

pub write_bytes-i-requires : goal.write_bytes-i-requires
unfolding trade_tail conditions_in
write_bytes-i-requires c = search rooms depth 24

pub write_priced-requires : goal.write_priced-requires
unfolding trade_tail conditions_in
write_priced-requires c = search rooms depth 24

pub write_bytes-requires : goal.write_bytes-requires
unfolding trade_tail conditions_in
write_bytes-requires c = search rooms depth 24

pub write_volume-requires : goal.write_volume-requires
unfolding trade_tail conditions_in
write_volume-requires c = search rooms depth 24

pub returns : goal.returns
unfolding trade_tail conditions_in
returns c = search then
