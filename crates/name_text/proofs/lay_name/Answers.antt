use native.Mathlib.Omega.{arith}
use Rattle.name_text.proofs.Layers.{laid_then, laid_room}
use Rattle.name_text.proofs.Laying.{parts}
use Rattle.rules.specs.Names.{name_text}
use Rattle.text.specs.Pick.{opt}
use Rattle.name_text.proofs.lay_name.Goals as goal

pub slice_bounds-lay_word-end : goal.slice_bounds-lay_word-end
slice_bounds-lay_word-end c = let p = parts c.args.name.now (omega arith) in omega arith

pub lay_word-a-requires : goal.lay_word-a-requires
lay_word-a-requires c = let p = parts c.args.name.now (omega arith) in (omega arith, omega arith)

-- the root leaves room for the suffix: of the 19 columns each part has its own, and the bytes laid so far are no more than theirs
pub lay_part-requires : goal.lay_part-requires
lay_part-requires c = let p = parts c.args.name.now (omega arith) in (omega arith, omega arith, laid_room _ c.lay_word-a.ensures.0 (omega arith))

-- root and suffix joined are one laid text, which leaves room for the temporary suffix
pub lay_shown-requires : goal.lay_shown-requires
lay_shown-requires c = let p = parts c.args.name.now (omega arith) in (omega arith, omega arith, laid_room _ (laid_then c.lay_word-a.ensures.0 c.lay_part.ensures.0) (omega arith))

-- root, suffix and temporary suffix joined are one laid text, which leaves room for the appendage
pub lay_shown-requires-2 : goal.lay_shown-requires-2
lay_shown-requires-2 c = let p = parts c.args.name.now (omega arith) in (omega arith, omega arith, laid_room _ (laid_then (laid_then c.lay_word-a.ensures.0 c.lay_part.ensures.0) c.lay_shown.ensures.0) (omega arith))

pub returns : goal.returns
unfolding name_text opt
returns c = (search laid_then, let p = parts c.args.name.now (omega arith) in omega arith)
