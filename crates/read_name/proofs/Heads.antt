-- Laws of the conditions after a name and of a side's head, in the form that the code's needs have. Assumes nothing.
use Prim.Native.Nat.{ℕ, ◌≤◌}
use mathlib.Core.Path.{◌≡◌, sym, ◌∙◌}
use mathlib.Core.Bool.{Bool, true, false, not}
use mathlib.Core.List.{List}
use lib.ListN.{length}
use borrow.Author.Tests.{not-false}
use Rattle.text.specs.Bytes.{bytes}
use Rattle.text.specs.Reading.{starts}
use Rattle.text.proofs.Parts.{starts_within}

-- ---- the conditions after a name

module _ (s : List ℕ) (q : Bool) (e : q ≡ starts (bytes ".ND") s) where
  pub next_room : q ≡ true → 3 ≤ length s
  next_room y = starts_within (bytes ".ND") s (sym e ∙ y)

-- ---- the head of a correcting trade

module _ (name run : List ℕ) (q : Bool) (e : q ≡ starts name run) where
  pub again_room : not q ≡ false → length name ≤ length run
  again_room y = starts_within name run (sym e ∙ not-false q y)
