use Rattle.text.proofs.Writing.{rooms, then}
use Rattle.rules.specs.Side.{side_text}
use Rattle.print_side.proofs.Columns.{volume_columns, price_columns, no_head, no_tail}
use borrow.Author.Rules.{rules}
use Rattle.print_side.proofs.write_side.Goals as goal

pub write_head-at-requires : goal.write_head-at-requires
unfolding side_text
write_head-at-requires c = (search rules, search no_head, search rooms depth 9)

pub write_volume-requires : goal.write_volume-requires
unfolding side_text
write_volume-requires c = (search rules, search volume_columns, search rooms depth 9)

pub write_price-requires : goal.write_price-requires
unfolding side_text
write_price-requires c = (search price_columns, search rooms depth 9)

pub write_tail-requires : goal.write_tail-requires
unfolding side_text
write_tail-requires c = (search rules, search no_tail, search rooms depth 9)

pub returns : goal.returns
unfolding side_text
returns c = search then
