-- Laws of the number that is read, and of a text compared, in the form that the code's needs have. Assumes nothing.
use Prim.Native.Nat.{ℕ, ◌+◌, ◌-◌, ◌*◌, ◌/◌, ◌^◌, ◌≤◌, ◌<◌}
use native.Mathlib.Nat.{pow-suc, pow-le-pow_right}
use native.Mathlib.Numerals.{add-one}
use native.Mathlib.Omega.{arith}
use mathlib.Core.Path.{◌≡◌, sym}
use mathlib.Core.List.{List}
use lib.ListN.{length, get_or, take, drop, drop_of_length-le}
use lib.Seq.{drop-cons, take_at}
use borrow.Author.Tests.{le-leb, lt-leb, lt-ltb, le-ltb}
use Rattle.std.specs.Prelude.{Option, None}
use Rattle.text.specs.Pick.{pick}
use Rattle.text.specs.Put.{put, Written}
use Rattle.rules.specs.Columns.{between}
use Rattle.read_announcement.specs.Announced.{with_digit, digits_in, number_at, length_at, length_by}

-- ---- the digits: n is worth those before i, and x is what all are worth

pub digits_more : (s : List ℕ) (i n m x : ℕ) → digits_in n (drop i s) ≡ x → i < length s → m ≡ with_digit n (get_or s i 0) → digits_in m (drop (i + 1) s) ≡ x
unfolding digits_in
digits_more s i n m x e h q = rw (← e, drop-cons s i 0 h, q, add-one)

pub digits_all : (s : List ℕ) (i n x : ℕ) → digits_in n (drop i s) ≡ x → length s ≤ i → n ≡ x
unfolding digits_in
digits_all s i n x e h = rw (← e, drop_of_length-le s h)

-- i digits are worth less than 10 ^ i
pub digits_small : (n i l : ℕ) → n < 10 ^ i → i < l → l ≤ 7 → n < 10 ^ 7
digits_small n i l h k m = omega (arith, h, pow-le-pow_right {n = 10} (omega arith) {i = i} {j = 7} (omega arith))

pub digits_grow : (n i m : ℕ) → n < 10 ^ i → m ≤ 10 * n + 9 → m < 10 ^ (i + 1)
digits_grow n i m h k = rw add-one (omega (arith, pow-suc 10 i))

-- ---- the number behind the text's begin

module _ (s : List ℕ) (k : ℕ) where
  pub number_none : length s < 29 + k → 0 ≡ number_at k s
  unfolding number_at pick
  number_none h = rw (lt-ltb (length s) (29 + k) h)

  pub number_is : (n : ℕ) → 29 + k ≤ length s → n ≡ digits_in 0 (take (29 + k - 29) (drop 29 s)) → n ≡ number_at k s
  unfolding number_at pick
  number_is n h e = let d : 29 + k - 29 ≡ k = omega arith in rw (le-ltb (length s) (29 + k) h) (rw d at e)

-- ---- a text that was written, compared

module _ (t b a : List ℕ) (n : ℕ) (w : Written t b a n) where
  pub cut_out : take n a ≡ t
  unfolding put
  cut_out = rw w.tape (take_at t (drop (length t) b) n (sym w.count_is))

  pub cut_length : n ≡ length (take n a)
  cut_length = rw cut_out w.count_is

-- n was read, and q is worth it
module _ (low high : ℕ) (text : ℕ → List ℕ) (q n : ℕ) (s : List ℕ) (e : n ≡ q) where
  pub by_low : n < low → None ≡ length_by low high text q s
  unfolding length_by between pick
  by_low h = rw (← e, lt-leb low n h)

  pub by_high : low ≤ n → high < n → None ≡ length_by low high text q s
  unfolding length_by between pick
  by_high h k = rw (← e, le-leb low n h, lt-leb n high k)

  pub by_text : (b a : List ℕ) (m : ℕ) (r : Option ℕ) → low ≤ n → n ≤ high → Written (text n) b a m → r ≡ length_at (take m a) s → r ≡ length_by low high text q s
  unfolding length_by between pick
  by_text b a m r h k w d = rw (← e, le-leb low n h, le-leb n high k, ← cut_out (text n) b a m w) d

pub fifth : (n q : ℕ) → n ≡ q → n / 5 ≡ q / 5
fifth n q e = rw e

pub ruleset by = (by_low, by_high, by_text, fifth)
