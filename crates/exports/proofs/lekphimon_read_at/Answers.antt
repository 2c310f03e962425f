use Rattle.exports.proofs.Laws.{read_numbers}
use Rattle.exports.proofs.lekphimon_read_at.Goals as goal

pub returns : goal.returns
returns c = search read_numbers
