use Rattle.text.proofs.Writing.{rooms, then}
use Rattle.facts_line.specs.Lines.{amended_text}
use Rattle.facts_line.proofs.write_amended.Goals as goal

pub write_sided-i-requires : goal.write_sided-i-requires
unfolding amended_text
write_sided-i-requires c = search rooms depth 24

pub write_bytes-requires : goal.write_bytes-requires
unfolding amended_text
write_bytes-requires c = search rooms depth 24

pub returns : goal.returns
unfolding amended_text
returns c = search then
