use borrow.Author.Rules.{rules}
use mathlib.Core.Path.{refl}
use Rattle.text.specs.Put.{put}
use Rattle.text.proofs.write_bytes.Goals as goal

pub returns : goal.returns
unfolding put
returns c = record { tape = rw c.copy_from_slice.ensures.after; count_is = refl; within = c.requires }
