use Rattle.engine.proofs.TradeCalls.{some_place, place_in, line_room, side_stands, not_entered, some_unit, carried}
use Rattle.engine.proofs.take_good.Goals as goal

pub overflow_sub-place : goal.overflow_sub-place
overflow_sub-place c = search some_place

pub load-s-requires : goal.load-s-requires
load-s-requires c = search place_in

pub returns-then-not-is_entered : goal.returns-then-not-is_entered
returns-then-not-is_entered c = search not_entered

pub slice_bounds-carry_out-end : goal.slice_bounds-carry_out-end
slice_bounds-carry_out-end c = search line_room

pub carry_out-requires : goal.carry_out-requires
carry_out-requires c = (search place_in, search some_unit, search side_stands)

pub returns : goal.returns
returns c = search carried
