use Rattle.text.proofs.Writing.{rooms, then}
use Rattle.read_told.specs.Lines.{place_text}
use Rattle.read_told.proofs.write_places.Goals as goal

pub write_right-at-requires : goal.write_right-at-requires
unfolding place_text
write_right-at-requires c = search rooms depth 24

pub write_right-requires : goal.write_right-requires
unfolding place_text
write_right-requires c = search rooms depth 24

pub returns : goal.returns
unfolding place_text
returns c = search then
