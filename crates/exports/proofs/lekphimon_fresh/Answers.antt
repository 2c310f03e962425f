use Rattle.exports.proofs.Laws.{numbers_are}
use Rattle.exports.proofs.lekphimon_fresh.Goals as goal

pub returns : goal.returns
returns c = search numbers_are
