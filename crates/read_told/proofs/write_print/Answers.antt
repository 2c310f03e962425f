use Rattle.text.proofs.Writing.{named, fits}
use Rattle.read_told.proofs.Lines.{told_is}
use Rattle.read_told.proofs.write_print.Goals as goal

pub write_line-requires : goal.write_line-requires
write_line-requires c = search (fits, told_is)

pub returns : goal.returns
returns c = search (named, told_is)
