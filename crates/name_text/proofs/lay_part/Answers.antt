use native.Mathlib.Omega.{arith}
use lib.ListN.{length-take, length-drop, length-set}
use Rattle.name_text.proofs.Layers.{set_size}
use Rattle.name_text.proofs.Laying.{laid_dotted}
use Rattle.name_text.proofs.lay_part.Goals as goal

pub slice_bounds-lay_word-count : goal.slice_bounds-lay_word-count
slice_bounds-lay_word-count c = simp length-set (omega arith)

pub slice_bounds-lay_word-start : goal.slice_bounds-lay_word-start
slice_bounds-lay_word-start c = simp length-set (omega arith)

pub lay_word-requires : goal.lay_word-requires
lay_word-requires c = simp (length-take, length-drop, length-set) (omega arith)

pub shape_of-rest : goal.shape_of-rest
shape_of-rest c = search set_size

pub returns : goal.returns
returns c = (search laid_dotted, omega arith)
