use Rattle.read_tape.proofs.One.{print_told}
use Rattle.read_tape.proofs.tell_print.Goals as goal

pub returns : goal.returns
returns g c = search print_told
