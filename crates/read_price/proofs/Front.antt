-- Laws of digits and prices at the front of a tape, in the form of the code's needs. Assumes nothing.
use Prim.Native.Nat.{ℕ, zero, suc, ◌+◌, ◌-◌, ◌*◌, ◌^◌, ◌≤◌, ◌<◌}
use native.Mathlib.Nat.{pow-suc, pow-le-pow_right, mul-le-mul}
use native.Mathlib.Numerals.{add-one}
use native.Mathlib.Omega.{arith}
use mathlib.Core.Path.{◌≡◌, refl, sym, ap, ◌∙◌}
use mathlib.Core.Bool.{false}
use mathlib.Core.List.{List, []}
use lib.ListN.{length, get_or, drop, drop_of_length-le}
use lib.Seq.{drop-cons}
use borrow.Author.Tests.{le-leb}
use Rattle.text.specs.Pick.{pick}
use Rattle.text.specs.Reading.{is_digit}
use Rattle.read_price.specs.declared.Digits.{Digits}
use Rattle.read_price.specs.Digits.{digits_onto}

-- ---- digits: a is worth the i before, at most `most`, and x is the answer

left : (i most : ℕ) → i < most → most - i ≡ suc (most - (i + 1))
left i most h = omega arith

digits_nil : (k a j : ℕ) → digits_onto k a j [] ≡ record { count = j; value = a }
unfolding digits_onto
digits_nil zero a j = refl
digits_nil (suc k) a j = refl

pub digits_ended : (s : List ℕ) (i most a : ℕ) (x : Digits) → digits_onto (most - i) a i (drop i s) ≡ x → length s ≤ i → (record { count = i; value = a }) ≡ x
digits_ended s i most a x e h = sym (digits_nil (most - i) a i) ∙ ap (digits_onto (most - i) a i) (sym (drop_of_length-le s h)) ∙ e

pub digits_other : (s : List ℕ) (i most a : ℕ) (x : Digits) → digits_onto (most - i) a i (drop i s) ≡ x → i < most → i < length s → is_digit (get_or s i 0) ≡ false → (record { count = i; value = a }) ≡ x
unfolding digits_onto pick
digits_other s i most a x e m h k = rw (← e, left i most m, drop-cons s i 0 h, k)

pub digits_more : (s : List ℕ) (i most a w : ℕ) (x : Digits) → digits_onto (most - i) a i (drop i s) ≡ x → i < most → i < length s → 48 ≤ get_or s i 0 → get_or s i 0 ≤ 57 → w ≡ get_or s i 0 - 48 → digits_onto (most - (i + 1)) (10 * a + w) (i + 1) (drop (i + 1) s) ≡ x
unfolding digits_onto is_digit pick
digits_more s i most a w x e m h k l q = rw (← e, left i most m, drop-cons s i 0 h, le-leb 48 _ k, le-leb _ 57 l, q, add-one)

pub digits_most : (s : List ℕ) (i most a : ℕ) (x : Digits) → digits_onto (most - i) a i (drop i s) ≡ x → i ≤ most → most ≤ i → (record { count = most; value = a }) ≡ x
unfolding digits_onto
digits_most s i most a x e k h =
    let q : i ≡ most = omega arith in
    let z : most - i ≡ 0 = omega arith in
    rw (← e, z, q)

pub digits_start : (s : List ℕ) (most : ℕ) → digits_onto (most - 0) 0 0 s ≡ digits_onto most 0 0 s
digits_start s most = ap (λ k. digits_onto k 0 0 s) (omega arith)

-- i digits are worth less than 10 ^ i
small : (a i most : ℕ) → a < 10 ^ i → i < most → most ≤ 12 → a < 10 ^ 11
small a i most h k l = omega (arith, h, pow-le-pow_right {n = 10} (omega arith) {i = i} {j = 11} (omega arith))

pub ten_fits : (a i most : ℕ) → a < 10 ^ i → i < most → most ≤ 12 → 10 * a < 2 ^ 64
ten_fits a i most h k l = omega (arith, small a i most h k l)

pub more_fits : (a w d i most : ℕ) → a < 10 ^ i → i < most → most ≤ 12 → w ≡ d - 48 → d ≤ 57 → 10 * a + w < 2 ^ 64
more_fits a w d i most h k l e m = omega (arith, small a i most h k l)

pub grows : (a w d i : ℕ) → a < 10 ^ i → w ≡ d - 48 → d ≤ 57 → 10 * a + w < 10 ^ (i + 1)
grows a w d i h e k = rw add-one (omega (arith, pow-suc 10 i))

-- ---- a price

module _ (w f : Digits) where
  below : (r : ℕ) → w.value < 1000000 → f.count ≤ 8 → r ≡ 10 ^ f.count → w.value * r ≤ 1000000 * 100000000
  below r h k e = mul-le-mul {n₂ = 1000000} {m₂ = 100000000} (omega arith) (rw e (pow-le-pow_right {n = 10} (omega arith) {i = f.count} {j = 8} k))

  pub whole_fits : (r : ℕ) → w.value < 1000000 → f.count ≤ 8 → r ≡ 10 ^ f.count → w.value * r < 2 ^ 64
  whole_fits r h k e = omega (arith, below r h k e)

  pub price_fits : (r : ℕ) → w.value < 1000000 → f.count ≤ 8 → f.value < 100000000 → r ≡ 10 ^ f.count → w.value * r + f.value < 2 ^ 64
  price_fits r h k l e = omega (arith, below r h k e)
