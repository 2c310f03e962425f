use Rattle.feed_step.proofs.Steps.{held_from, held_to, line_from, used_fits, stepped}
use Rattle.feed_step.proofs.step.Goals as goal

pub slice_bounds-held-count : goal.slice_bounds-held-count
slice_bounds-held-count g c = search held_from

pub slice_bounds-held-start : goal.slice_bounds-held-start
slice_bounds-held-start g c = search held_from

pub slice_bounds-held-end : goal.slice_bounds-held-end
slice_bounds-held-end g c = search held_to

pub carry_out-f-requires : goal.carry_out-f-requires
carry_out-f-requires g c = line_from c.args.s _ _ _ c.take_in-p.ensures _ c.way_of-way.ensures

pub settle-requires : goal.settle-requires
settle-requires g c = used_fits c.args.s _ _ _ c.take_in-p.ensures _ c.way_of-way.ensures g.G.Gather.program _ _ _ _ _ _ _ _ _ c.carry_out-f.ensures

pub returns : goal.returns
returns g c = stepped c.args.s _ _ _ c.take_in-p.ensures _ c.way_of-way.ensures g.G.Gather.program _ _ _ _ _ _ _ _ _ c.carry_out-f.ensures _ _ c.settle.ensures
