use Rattle.text.proofs.Writing.{rooms, then}
use Rattle.print_volume.proofs.write_thousands.Goals as goal

pub write_decimal-at-requires : goal.write_decimal-at-requires
write_decimal-at-requires c = search rooms depth 9

pub write_group-requires : goal.write_group-requires
write_group-requires c = search rooms depth 9

pub returns : goal.returns
returns c = search then
