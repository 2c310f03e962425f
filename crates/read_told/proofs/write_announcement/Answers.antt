use Rattle.text.proofs.Writing.{rooms, then}
use Rattle.read_told.specs.Lines.{announcement_text}
use Rattle.read_told.proofs.write_announcement.Goals as goal

pub write_bytes-at-requires : goal.write_bytes-at-requires
unfolding announcement_text
write_bytes-at-requires c = search rooms depth 24

pub write_bytes-requires : goal.write_bytes-requires
unfolding announcement_text
write_bytes-requires c = search rooms depth 24

pub returns : goal.returns
unfolding announcement_text
returns c = search then
