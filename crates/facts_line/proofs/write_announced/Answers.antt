use Rattle.text.proofs.Writing.{rooms, then}
use Rattle.facts_line.specs.Lines.{announced_text}
use Rattle.facts_line.proofs.write_announced.Goals as goal

pub write_bytes-i-requires : goal.write_bytes-i-requires
unfolding announced_text
write_bytes-i-requires c = search rooms depth 24

pub write_bytes-requires : goal.write_bytes-requires
unfolding announced_text
write_bytes-requires c = search rooms depth 24

pub write_bytes-requires-2 : goal.write_bytes-requires-2
unfolding announced_text
write_bytes-requires-2 c = search rooms depth 24

pub returns : goal.returns
unfolding announced_text
returns c = search then
