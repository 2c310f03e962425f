use native.Mathlib.Omega.{arith}
use mathlib.Core.Path.{sym}
use lib.Seq.{length-take-le}
use lib.ListN.{length-take, drop}
use Rattle.name_text.proofs.Text.{counted, counted_short}
use borrow.Author.Rules.{rules}
use Rattle.name_text.proofs.name_length.Goals as goal

pub slice_bounds-word_length-end : goal.slice_bounds-word_length-end
slice_bounds-word_length-end c = sym (length-take-le 6 c.args.name.now (omega arith))

pub overflow_add-result : goal.overflow_add-result
overflow_add-result c = let s = c.args.name.now in omega (arith, length-take 6 s, length-take 7 (drop 6 s), length-take 4 (drop 13 s), length-take 2 (drop 17 s))

pub overflow_add-result-2 : goal.overflow_add-result-2
overflow_add-result-2 c = let s = c.args.name.now in omega (arith, length-take 6 s, length-take 7 (drop 6 s), length-take 4 (drop 13 s), length-take 2 (drop 17 s))

pub overflow_add-result-3 : goal.overflow_add-result-3
overflow_add-result-3 c = let s = c.args.name.now in omega (arith, length-take 6 s, length-take 7 (drop 6 s), length-take 4 (drop 13 s), length-take 2 (drop 17 s))

pub returns : goal.returns
returns c = counted_short _ _ _ (search rules) (search counted)
