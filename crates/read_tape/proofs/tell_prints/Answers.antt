use Rattle.read_tape.proofs.Blocks.{here_start, here_end, here_stop, here_placed, here_lines, here_room, here_less, here_on}
use borrow.Author.Rules.{rules}
use Rattle.read_tape.proofs.tell_prints.Goals as goal

pub loop-r-init : goal.loop-r-init
loop-r-init g c = search here_start

pub tell_print-r-requires : goal.tell_print-r-requires
tell_print-r-requires g c = (search rules, search here_placed, search here_lines, search here_room)

pub loop-r-smaller : goal.loop-r-smaller
loop-r-smaller g c = search here_less

pub loop-r-preserved : goal.loop-r-preserved
loop-r-preserved g c = search here_on

pub returns-else-may_read : goal.returns-else-may_read
returns-else-may_read g c = search here_stop

pub returns-after-loop-r : goal.returns-after-loop-r
returns-after-loop-r g c = search here_end
