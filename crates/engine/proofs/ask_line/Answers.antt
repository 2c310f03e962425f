use Rattle.call_print.proofs.Sound.{sound_asked}
use Rattle.engine.proofs.Numbers.{asked_as}
use Rattle.engine.proofs.Steps.{asked_for}
use Rattle.engine.proofs.ask_line.Goals as goal

pub fitted-requires : goal.fitted-requires
fitted-requires c = search sound_asked

pub returns : goal.returns
returns c = search (asked_as, asked_for)
