use Rattle.text.proofs.Writing.{joined}
use Rattle.print_volume.proofs.Lengths.{group_length}
use Rattle.rules.specs.Volume.{group}
use native.Mathlib.Omega.{arith}
use Rattle.print_volume.proofs.write_group.Goals as goal

pub write_bytes-at-requires : goal.write_bytes-at-requires
write_bytes-at-requires c = omega (arith, group_length c.args.n)

pub write_places-requires : goal.write_places-requires
write_places-requires c = omega (arith, group_length c.args.n)

pub returns : goal.returns
unfolding group
returns c = search joined
