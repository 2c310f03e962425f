use Rattle.text.proofs.Writing.{rooms, then}
use Rattle.rules.specs.Conditions.{previous_text}
use borrow.Author.Rules.{rules}
use Rattle.print_ending.proofs.write_last.Goals as goal

pub write_bytes-at-requires : goal.write_bytes-at-requires
unfolding previous_text
write_bytes-at-requires c = search rooms depth 9

pub write_price-requires : goal.write_price-requires
unfolding previous_text
write_price-requires c = (search rules, search rooms depth 9)

pub write_bytes-requires : goal.write_bytes-requires
unfolding previous_text
write_bytes-requires c = search rooms depth 9

pub returns : goal.returns
unfolding previous_text
returns c = search then
