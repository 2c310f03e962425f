use Rattle.text.proofs.Writing.{rooms, then}
use Rattle.facts_side.specs.Sides.{set_and_days}
use Rattle.facts_side.proofs.write_set_and_days.Goals as goal

pub write_bytes-i-requires : goal.write_bytes-i-requires
unfolding set_and_days
write_bytes-i-requires c = search rooms depth 24

pub write_set-requires : goal.write_set-requires
unfolding set_and_days
write_set-requires c = search rooms depth 24

pub write_bytes-requires : goal.write_bytes-requires
unfolding set_and_days
write_bytes-requires c = search rooms depth 24

pub write_number-requires : goal.write_number-requires
unfolding set_and_days
write_number-requires c = search rooms depth 24

pub returns : goal.returns
unfolding set_and_days
returns c = search then
