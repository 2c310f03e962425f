-- Laws of volume texts, in the form of the code's needs. Assumes nothing.
use Prim.Native.Nat.{ℕ, suc, ◌+◌}
use native.Mathlib.Omega.{arith}
use mathlib.Core.Path.{◌≡◌, sym, ap}
use mathlib.Core.List.{List, ◌++◌}
use lib.ListN.{length, length-append}
use Rattle.text.proofs.Decimal.{length_places}
use Rattle.rules.specs.Volume.{group}

pub group_length : (n : ℕ) → 4 ≡ length (group n)
unfolding group
group_length n = ap suc (sym (length_places 3 n))

pub groups_length : (r m n : ℕ) (t : List ℕ) → r ≡ length t → r + 8 ≡ length (t ++ group m ++ group n)
groups_length r m n t e = simp (length-append, ← group_length) (omega arith)
