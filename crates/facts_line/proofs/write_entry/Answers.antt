use Rattle.text.proofs.Writing.{named, fits, written_nothing}
use Rattle.facts_line.proofs.Lines.{lines}
use Rattle.facts_line.proofs.write_entry.Goals as goal

pub write_announced-requires : goal.write_announced-requires
write_announced-requires c = search (fits, lines)

pub write_trade-requires : goal.write_trade-requires
write_trade-requires c = search (fits, lines)

pub write_amended-requires : goal.write_amended-requires
write_amended-requires c = search (fits, lines)

pub write_amended-requires-in-Erred : goal.write_amended-requires-in-Erred
write_amended-requires-in-Erred c = search (fits, lines)

pub write_correction-requires : goal.write_correction-requires
write_correction-requires c = search (fits, lines)

pub returns-in-Silent : goal.returns-in-Silent
returns-in-Silent c = search (named, lines, written_nothing)

pub returns-in-Announced : goal.returns-in-Announced
returns-in-Announced c = search (named, lines, written_nothing)

pub returns-in-Traded : goal.returns-in-Traded
returns-in-Traded c = search (named, lines, written_nothing)

pub returns-in-Cancelled : goal.returns-in-Cancelled
returns-in-Cancelled c = search (named, lines, written_nothing)

pub returns-in-Erred : goal.returns-in-Erred
returns-in-Erred c = search (named, lines, written_nothing)

pub returns-in-Corrected : goal.returns-in-Corrected
returns-in-Corrected c = search (named, lines, written_nothing)
