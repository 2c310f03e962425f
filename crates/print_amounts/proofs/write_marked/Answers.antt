use Rattle.print_amounts.proofs.Volumes.{marked_written}
use Rattle.print_amounts.proofs.write_marked.Goals as goal

pub returns : goal.returns
returns c = search marked_written
