use Rattle.text.proofs.Writing.{rooms, then}
use Rattle.facts_side.specs.Sides.{sequence_letters}
use Rattle.facts_side.proofs.write_sequence.Goals as goal

pub write_optional-a-requires : goal.write_optional-a-requires
unfolding sequence_letters
write_optional-a-requires c = search rooms depth 24

pub write_optional-requires : goal.write_optional-requires
unfolding sequence_letters
write_optional-requires c = search rooms depth 24

pub write_optional-requires-2 : goal.write_optional-requires-2
unfolding sequence_letters
write_optional-requires-2 c = search rooms depth 24

pub returns : goal.returns
unfolding sequence_letters
returns c = search then
