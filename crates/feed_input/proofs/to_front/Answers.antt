use Rattle.text.proofs.Parts.{counted}
use Rattle.feed_input.proofs.Places.{front_place, front_block}
use Rattle.feed_input.proofs.to_front.Goals as goal

pub slice_bounds-move_front-end-2 : goal.slice_bounds-move_front-end-2
slice_bounds-move_front-end-2 c = search counted

pub returns : goal.returns
returns c = (search front_place, search front_block)
