use Rattle.text.proofs.Writing.{named, fits}
use Rattle.facts_line.proofs.Lines.{parts}
use Rattle.facts_line.proofs.write_part.Goals as goal

pub write_full-requires : goal.write_full-requires
write_full-requires c = search (fits, parts)

pub write_conditions-requires : goal.write_conditions-requires
write_conditions-requires c = search (fits, parts)

pub returns-in-Full : goal.returns-in-Full
returns-in-Full c = search (named, parts)

pub returns-in-Bare : goal.returns-in-Bare
returns-in-Bare c = search (named, parts)
