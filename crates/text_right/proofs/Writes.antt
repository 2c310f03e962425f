-- A number in its width: its writers' steps, and its length. Assumes nothing.
use Prim.Native.Nat.{ℕ, suc, ◌-◌, ◌^◌, ◌≤◌, ◌<◌}
use native.Mathlib.Omega.{arith}
use mathlib.Core.Path.{◌≡◌}
use mathlib.Core.List.{List, ◌++◌}
use lib.ListN.{length, take, drop, replicate, length-append, length-replicate}
use Rattle.text.specs.Decimal.{decimal, places}
use Rattle.text.specs.Put.{Written}
use Rattle.text.proofs.Decimal.{length_decimal, decimal_places}
use Rattle.text.proofs.Writing.{room}
use Rattle.text_right.specs.Justified.{right}

-- ---- a number in its width, by the digits and blanks that were counted

module _ (width n k b : ℕ) (digits : k ≡ length (decimal n)) (filled : b ≡ width - k) where
  in_parts : right width n ≡ replicate b 32 ++ decimal n
  unfolding right
  in_parts = rw (filled, digits)

  pub right_parts : right width n ≡ replicate b 32 ++ places k n
  right_parts = rw (in_parts, digits, decimal_places n)

  pub blanks_room : (m : ℕ) → length (right width n) ≤ m → b ≤ m
  blanks_room m h = omega (arith, simp (in_parts, length-append, length-replicate) at h)

  pub digits_room : {t xs : List ℕ} {at : ℕ} → Written (replicate b 32) t xs at → length (right width n) ≤ length t → k ≤ length (take (length xs - at) (drop at xs))
  digits_room v h = rw digits (room (decimal n) v (rw (← in_parts) h))

-- a number that its width holds fills it
pub length_right : (w n : ℕ) → n < 10 ^ suc w → length (right (suc w) n) ≡ suc w
unfolding right
length_right w n h = let l = length_decimal w n h in simp (length-append, length-replicate) (omega arith)
