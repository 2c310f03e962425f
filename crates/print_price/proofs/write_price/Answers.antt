use Rattle.print_price.proofs.Texts.{priced_first, priced_then, written_price}
use Rattle.print_price.proofs.write_price.Goals as goal

pub write_dollars-at-requires : goal.write_dollars-at-requires
write_dollars-at-requires c = search priced_first

pub write_fraction-requires : goal.write_fraction-requires
write_fraction-requires c = search priced_then

pub returns : goal.returns
returns c = search written_price
