use Rattle.feed_lines.proofs.Told.{told_none, told_line, told_room}
use Rattle.feed_lines.proofs.write_told.Goals as goal

pub write_refusal-requires : goal.write_refusal-requires
write_refusal-requires c = search told_room

pub returns-in-Ok : goal.returns-in-Ok
returns-in-Ok c = search (told_none, told_line)

pub returns-in-Err : goal.returns-in-Err
returns-in-Err c = search (told_none, told_line)
