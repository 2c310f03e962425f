use Rattle.text.proofs.Writing.{rooms, then}
use Rattle.rules.specs.Conditions.{seller_text}
use Rattle.print_ending.proofs.write_days.Goals as goal

pub write_bytes-at-requires : goal.write_bytes-at-requires
unfolding seller_text
write_bytes-at-requires c = search rooms depth 9

pub write_decimal-requires : goal.write_decimal-requires
unfolding seller_text
write_decimal-requires c = search rooms depth 9

pub returns : goal.returns
unfolding seller_text
returns c = search then
