use Rattle.read_numbers.proofs.Arms.{unnamed_is}
use Rattle.read_numbers.proofs.plain_numbers.Goals as goal

pub returns : goal.returns
returns c = search unnamed_is
