use Rattle.text.proofs.Writing.{rooms, then}
use Rattle.read_told.specs.Lines.{line_text}
use Rattle.read_told.proofs.write_line.Goals as goal

pub write_places-i-requires : goal.write_places-i-requires
unfolding line_text
write_places-i-requires c = search rooms depth 24

pub write_name-requires : goal.write_name-requires
unfolding line_text
write_name-requires c = search rooms depth 24

pub write_facts-requires : goal.write_facts-requires
unfolding line_text
write_facts-requires c = search rooms depth 24

pub write_bytes-requires : goal.write_bytes-requires
unfolding line_text
write_bytes-requires c = search rooms depth 24

pub returns : goal.returns
unfolding line_text
returns c = search then
