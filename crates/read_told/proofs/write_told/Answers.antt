use Rattle.text.proofs.Writing.{named, fits}
use Rattle.read_told.proofs.Lines.{tape_told}
use borrow.Author.Rules.{rules}
use Rattle.read_told.proofs.write_told.Goals as goal

pub write_print-requires : goal.write_print-requires
write_print-requires c = search (rules, fits, tape_told)

pub returns : goal.returns
returns c = search (named, tape_told)
