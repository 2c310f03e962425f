use Rattle.exports.proofs.Laws.{shown_numbers}
use Rattle.exports.proofs.lekphimon_shown.Goals as goal

pub returns : goal.returns
returns c = search shown_numbers
