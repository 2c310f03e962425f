use Rattle.text.proofs.Writing.{named, fits}
use Rattle.read_told.proofs.Lines.{side_is}
use Rattle.read_told.proofs.write_side.Goals as goal

pub write_full-requires : goal.write_full-requires
write_full-requires c = search (fits, side_is)

pub returns : goal.returns
returns c = search (named, side_is)
