use Rattle.text.proofs.Writing.{named, fits}
use Rattle.print_announcement.proofs.Modes.{dollars_is}
use Rattle.print_announcement.proofs.write_minimum_dollars.Goals as goal

pub write_cents-requires : goal.write_cents-requires
write_cents-requires c = search (fits, dollars_is)

pub returns : goal.returns
returns c = search (named, dollars_is)
