use Rattle.std.proofs.Common.{rules}
use Rattle.feed_step.proofs.Steps.{by_lines, by_line, by_none, line_in}
use Rattle.feed_step.proofs.carry_out.Goals as goal

pub slice_bounds-last-count : goal.slice_bounds-last-count
slice_bounds-last-count g c = line_in _ _ _ _ c.in-Line.is c.requires

pub slice_bounds-last-start : goal.slice_bounds-last-start
slice_bounds-last-start g c = let l = line_in _ _ _ _ c.in-Line.is c.requires in search (rules, l)

pub returns-in-Lines : goal.returns-in-Lines
returns-in-Lines g c = by_lines g.G.Gather.program _ _ _ _ _ _ _ _ c.in-Lines.is _ _ _ _ _ c.lines.ensures

pub returns-in-Line : goal.returns-in-Line
returns-in-Line g c = by_line g.G.Gather.program _ _ _ _ _ _ _ _ _ _ c.in-Line.is _ _ _ _ _ c.last.ensures

pub returns-in-Pass : goal.returns-in-Pass
returns-in-Pass g c = by_none g.G.Gather.program _ _ _ _ _ _ _ _ c.in-Pass.is _ c.nothing_read.ensures
