use Rattle.exports.proofs.Laws.{taken_numbers}
use Rattle.exports.proofs.lekphimon_take_line.Goals as goal

pub returns : goal.returns
returns c = search taken_numbers
