use Rattle.feed_lines.proofs.Runs.{run_start, line_in, next_adds, print_adds, number_adds, run_less, run_on}
use Rattle.feed_lines.proofs.feed_trades.Goals as goal

pub loop-st-init : goal.loop-st-init
loop-st-init c = search run_start

pub slice_bounds-take_trade-end : goal.slice_bounds-take_trade-end
slice_bounds-take_trade-end c = search line_in

pub overflow_add-r : goal.overflow_add-r
overflow_add-r c = search number_adds

pub overflow_add-r-in-loop-st : goal.overflow_add-r-in-loop-st
overflow_add-r-in-loop-st c = let g = c.well_formed.1.1.1.0 in search (next_adds, g)

pub overflow_add-r-in-loop-st-2 : goal.overflow_add-r-in-loop-st-2
overflow_add-r-in-loop-st-2 c = let g = c.well_formed.1.1.1.1.1.0 in search (print_adds, g)

pub loop-st-smaller : goal.loop-st-smaller
loop-st-smaller c = search run_less

pub loop-st-preserved : goal.loop-st-preserved
loop-st-preserved c = search run_on
