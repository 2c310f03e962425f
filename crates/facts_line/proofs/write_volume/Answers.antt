use Rattle.text.proofs.Writing.{named, fits}
use Rattle.facts_line.proofs.Lines.{parts}
use Rattle.facts_line.proofs.write_volume.Goals as goal

pub write_decimal-requires : goal.write_decimal-requires
write_decimal-requires c = search (fits, parts)

pub write_bytes-requires : goal.write_bytes-requires
write_bytes-requires c = search (fits, parts)

pub returns-in-Some : goal.returns-in-Some
returns-in-Some c = search (named, parts)

pub returns-in-None : goal.returns-in-None
returns-in-None c = search (named, parts)
