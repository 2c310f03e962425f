use Rattle.name_text.proofs.Layers.{cut_length}
use Rattle.name_text.proofs.Text.{same_cut}
use Rattle.name_text.proofs.same_shown.Goals as goal

pub slice_bounds-same_text-end : goal.slice_bounds-same_text-end
slice_bounds-same_text-end c = search cut_length

pub slice_bounds-same_text-end-2 : goal.slice_bounds-same_text-end-2
slice_bounds-same_text-end-2 c = search cut_length

pub returns : goal.returns
returns c = search same_cut
