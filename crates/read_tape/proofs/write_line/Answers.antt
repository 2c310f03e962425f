use Rattle.text.proofs.Writing.{then}
use Rattle.read_tape.specs.Tape.{line_of}
use Rattle.read_tape.proofs.write_line.Goals as goal

pub returns : goal.returns
unfolding line_of
returns c = search then
