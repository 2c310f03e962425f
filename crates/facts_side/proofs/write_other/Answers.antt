use Rattle.text.proofs.Writing.{rooms, then}
use Rattle.facts_side.specs.Sides.{other_letters}
use Rattle.facts_side.proofs.write_other.Goals as goal

pub write_optional-a-requires : goal.write_optional-a-requires
unfolding other_letters
write_optional-a-requires c = search rooms depth 24

pub write_optional-requires : goal.write_optional-requires
unfolding other_letters
write_optional-requires c = search rooms depth 24

pub write_optional-requires-2 : goal.write_optional-requires-2
unfolding other_letters
write_optional-requires-2 c = search rooms depth 24

pub write_optional-requires-3 : goal.write_optional-requires-3
unfolding other_letters
write_optional-requires-3 c = search rooms depth 24

pub returns : goal.returns
unfolding other_letters
returns c = search then
