-- The text of a refusal: its length, and what is told of an outcome. Assumes nothing.
use Prim.Native.Nat.{ℕ, ◌-◌, ◌≤◌}
use native.Mathlib.Omega.{arith}
use mathlib.Core.Path.{◌≡◌}
use mathlib.Core.List.{List}
use lib.ListN.{length, take, drop, length-append, length-take, length-drop}
use Rattle.text.specs.Put.{Written}
use Rattle.text.proofs.Writing.{written_nothing}
use Rattle.rules.specs.Refusal.{number_of}
use Rattle.rules.specs.declared.Refusal.{Refusal}
use Rattle.rules.proofs.Refusals.{number_most}
use Rattle.std.specs.Prelude.{Result, Ok, Err}
use Rattle.text_right.proofs.Writes.{length_right}
use Rattle.feed_lines.specs.Refusals.{refusal_line}
use Rattle.feed_lines.specs.Feed.{told}

-- ---- the whole line

-- 14 bytes
pub length_refusal : (number : ℕ) (r : Refusal) → number ≤ 9999999999 → length (refusal_line number (number_of r)) ≡ 14
unfolding refusal_line
length_refusal number r h = simp length-append (omega (arith, length_right 9 number (omega arith), length_right 2 (number_of r) (omega (arith, number_most r))))

-- ---- what is told of an outcome

module _ (o : Result ℕ Refusal) where
  pub told_none : (number n : ℕ) (b : List ℕ) → o ≡ Ok n → Written (told number o) b b 0
  unfolding told
  told_none number n b e = rw e (written_nothing b)

module _ (o : Result ℕ Refusal) (r : Refusal) (k number : ℕ) (refused : o ≡ Err r) (is : k ≡ number_of r) where
  told_is : told number o ≡ refusal_line number k
  unfolding told
  told_is = rw (refused, is)

  pub told_line : (b a : List ℕ) (n : ℕ) → Written (refusal_line number k) b a n → Written (told number o) b a n
  told_line b a n w = rw told_is w

  pub told_room : (m : ℕ) → length (told number o) ≤ m → length (refusal_line number k) ≤ m
  told_room m h = rw told_is at h

told_short : (number : ℕ) (o : Result ℕ Refusal) → number ≤ 9999999999 → length (told number o) ≤ 14
unfolding told
told_short number (Ok n) h = omega arith
told_short number (Err r) h = omega (arith, length_refusal number r h)

-- there is room for it
pub told_fits : (number k : ℕ) (o : Result ℕ Refusal) (xs : List ℕ) → 14 ≤ length xs - k → number ≤ 9999999999 → length (told number o) ≤ length (take (length xs - k) (drop k xs))
told_fits number k o xs h l = simp (length-take, length-drop) (omega (arith, told_short number o l))
