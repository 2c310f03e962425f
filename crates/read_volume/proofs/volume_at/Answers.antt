use native.Mathlib.Omega.{arith}
use Rattle.read_volume.proofs.Volumes.{figures_count, figures_within, volume_hundreds, volume_tens, volume_shares, volume_none}
use Rattle.read_volume.proofs.volume_at.Goals as goal

pub slice_bounds-rest-count : goal.slice_bounds-rest-count
slice_bounds-rest-count c = search figures_within

pub slice_bounds-rest-start : goal.slice_bounds-rest-start
slice_bounds-rest-start c = search figures_within

pub said-requires : goal.said-requires
said-requires c = (search figures_within, omega arith, search figures_count)

pub said-requires-then-begins-2 : goal.said-requires-then-begins-2
said-requires-then-begins-2 c = (search figures_within, omega arith, search figures_count)

pub said-requires-then-begins-3 : goal.said-requires-then-begins-3
said-requires-then-begins-3 c = (search figures_within, omega arith, search figures_count)

pub returns-then-begins : goal.returns-then-begins
returns-then-begins c = search volume_hundreds

pub returns-then-begins-2 : goal.returns-then-begins-2
returns-then-begins-2 c = search volume_tens

pub returns-then-begins-3 : goal.returns-then-begins-3
returns-then-begins-3 c = search volume_shares

pub returns-else-begins-3 : goal.returns-else-begins-3
returns-else-begins-3 c = search volume_none
