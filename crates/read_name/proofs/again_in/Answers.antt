use Rattle.read_name.proofs.Heads.{again_room}
use Rattle.read_name.proofs.again_in.Goals as goal

pub slice_bounds-after_in-count : goal.slice_bounds-after_in-count
slice_bounds-after_in-count c = search again_room

pub slice_bounds-after_in-start : goal.slice_bounds-after_in-start
slice_bounds-after_in-start c = search again_room
