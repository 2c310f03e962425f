use Rattle.feed_lines.proofs.Told.{told_fits}
use Rattle.feed_lines.proofs.Steps.{tape_adds, told_adds, line_gone}
use Rattle.feed_lines.proofs.feed_line.Goals as goal

pub overflow_add-on_tape : goal.overflow_add-on_tape
overflow_add-on_tape c = search tape_adds

pub write_told-requires : goal.write_told-requires
write_told-requires c = search told_fits

pub overflow_add-in_refusals : goal.overflow_add-in_refusals
overflow_add-in_refusals c = let g = c.well_formed.1.1.1.1.1.1 in search (told_adds, g)

-- the call by its plan, the length that it answered and the refusal line written behind are one line taken
pub returns : goal.returns
returns c = let q = c.requires in line_gone _ _ _ _ _ _ _ _ _ _ _ _ _ _ c.take_by_plan-a.ensures c.count_of.ensures c.write_told.ensures q.0 q.1 q.2 q.3
