use Rattle.text.proofs.Writing.{rooms, then}
use Rattle.facts_side.specs.Sides.{letters_text}
use Rattle.facts_side.proofs.write_letters.Goals as goal

pub write_sequence-a-requires : goal.write_sequence-a-requires
unfolding letters_text
write_sequence-a-requires c = search rooms depth 24

pub write_settlement-requires : goal.write_settlement-requires
unfolding letters_text
write_settlement-requires c = search rooms depth 24

pub write_other-requires : goal.write_other-requires
unfolding letters_text
write_other-requires c = search rooms depth 24

pub returns : goal.returns
unfolding letters_text
returns c = search then
