use Rattle.read_name.proofs.Heads.{next_room}
use Rattle.read_name.proofs.after_in.Goals as goal

pub slice_bounds-sold_in-count : goal.slice_bounds-sold_in-count
slice_bounds-sold_in-count c = search next_room

pub slice_bounds-sold_in-start : goal.slice_bounds-sold_in-start
slice_bounds-sold_in-start c = search next_room
