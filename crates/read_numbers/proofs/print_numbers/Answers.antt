use Rattle.read_numbers.proofs.Arms.{gathered_is}
use Rattle.read_numbers.proofs.print_numbers.Goals as goal

pub returns : goal.returns
returns c = search gathered_is
