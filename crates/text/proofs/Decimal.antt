-- Laws of `places` and `decimal`: their lengths, a loop's steps, and how a fact about every number in base ten is proved. Assumes nothing.
use Prim.Native.Nat.{ℕ, zero, suc, ◌+◌, ◌-◌, ◌/◌, ◌%◌, ◌^◌, ◌≤◌, ◌<◌}
use native.Mathlib.Nat.{not-suc-le-zero, pow-succ'}
use native.Mathlib.Numerals.{add-one, sub-one}
use native.Mathlib.Omega.{arith}
use mathlib.Core.Path.{◌≡◌, refl, sym, ap, ◌∙◌}
use mathlib.Core.Bool.{Bool, true, false}
use mathlib.Core.List.{List, [], ◌∷◌, ◌++◌}
use lib.ListN.{length, drop, set, length-append}
use lib.Seq.{append_snoc}
use lib.Dec.{ltb}
use borrow.Author.Tests.{lt-ltb, le-ltb, ltb-true, ltb-false}
use Rattle.text.specs.Decimal.{places, digits_up, decimal}
use Rattle.text.specs.Put.{Written}

-- ---- fixed places

pub length_places : (k n : ℕ) → length (places k n) ≡ k
unfolding places
length_places zero n = refl
length_places (suc k) n = length-append (places k (n / 10)) _ ∙ add-one _ ∙ ap suc (length_places k (n / 10))

drop_set : (l : List ℕ) (i v : ℕ) → i < length l → drop i (set l i v) ≡ v ∷ drop (suc i) l
drop_set [] i v h = absurd (not-suc-le-zero h)
drop_set (x ∷ xs) zero v h = refl
drop_set (x ∷ xs) (suc i) v h = drop_set xs i v (omega arith)

-- a turn's store: one digit goes from the digits that are left to the tape
pub one_digit : (l : List ℕ) (i m : ℕ) → 0 < i → i ≤ length l → places (i - 1) (m / 10) ++ drop (i - 1) (set l (i - 1) (48 + m % 10)) ≡ places i m ++ drop i l
unfolding places
one_digit l zero m h k = absurd (not-suc-le-zero h)
one_digit l (suc i) m h k = rw (sub-one, drop_set) (sym (append_snoc (places i (m / 10)) (48 + m % 10) (drop (suc i) l)))

-- ---- without leading zeros

digits_small : (k n : ℕ) → ltb n 10 ≡ true → digits_up (suc k) n ≡ (48 + n) ∷ []
unfolding digits_up
digits_small k n e = rw (e, digits_up)

digits_big : (k n : ℕ) → ltb n 10 ≡ false → digits_up (suc k) n ≡ digits_up k (n / 10) ++ ((48 + n % 10) ∷ [])
unfolding digits_up
digits_big k n e = rw (e, digits_up)

-- the steps do not matter, once they are enough
digits_enough : (j k n : ℕ) → n < j → n < k → digits_up j n ≡ digits_up k n
digits_enough zero k n h i = absurd (omega arith)
digits_enough (suc j) zero n h i = absurd (omega arith)
digits_enough (suc j) (suc k) n h i = go (ltb n 10) refl (λ x y. digits_enough j k (n / 10) x y)
  where
    go : (b : Bool) → ltb n 10 ≡ b → (n / 10 < j → n / 10 < k → digits_up j (n / 10) ≡ digits_up k (n / 10)) → digits_up (suc j) n ≡ digits_up (suc k) n
    go true e ih = rw (digits_small j n e, digits_small k n e)
    go false e ih = let l = ltb-false n 10 e in rw (digits_big j n e, digits_big k n e, ih (omega arith) (omega arith))

-- the two equations of `decimal`
pub decimal_small : (n : ℕ) → n < 10 → decimal n ≡ (48 + n) ∷ []
unfolding decimal
decimal_small n h = digits_small n n (lt-ltb n 10 h)

pub decimal_big : (n : ℕ) → 10 ≤ n → decimal n ≡ decimal (n / 10) ++ ((48 + n % 10) ∷ [])
unfolding decimal
decimal_big n h = rw (digits_big n n (le-ltb n 10 h), digits_enough n (suc (n / 10)) (n / 10) (omega arith) (omega arith))

-- what holds below ten and from the tenth part holds of every number
module _ (P : ℕ → Type 0) (small : (n : ℕ) → n < 10 → P n) (big : (n : ℕ) → 10 ≤ n → P (n / 10) → P n) where
  ten_steps : (k n : ℕ) → n < k → P n
  ten_steps zero n h = absurd (omega arith)
  ten_steps (suc k) n h = go (ltb n 10) refl (λ l. ten_steps k (n / 10) l)
    where
      go : (b : Bool) → ltb n 10 ≡ b → (n / 10 < k → P (n / 10)) → P n
      go true e ih = small n (ltb-true n 10 e)
      go false e ih = let l = ltb-false n 10 e in big n l (ih (omega arith))

  pub ten_ind : (n : ℕ) → P n
  ten_ind n = ten_steps (suc n) n (omega arith)

-- as many places as there are digits
pub decimal_places : (n : ℕ) → places (length (decimal n)) n ≡ decimal n
unfolding places
decimal_places = ten_ind (λ n. places (length (decimal n)) n ≡ decimal n)
    (λ n h. let e : n % 10 ≡ n = omega arith in rw (decimal_small n h, e))
    (λ n h ih. rw (decimal_big n h, length-append, add-one, ih))

pub length_small : (n : ℕ) → n < 10 → length (decimal n) ≡ 1
length_small n h = rw (decimal_small n h)

pub length_big : (n : ℕ) → 10 ≤ n → length (decimal n) ≡ suc (length (decimal (n / 10)))
length_big n h = rw (decimal_big n h, length-append, add-one)

-- at most k digits below ten to the power k
pub length_decimal : (k n : ℕ) → n < 10 ^ suc k → length (decimal n) ≤ suc k
length_decimal zero n h = rw (decimal_small n h) (omega arith)
length_decimal (suc k) n h = go (ltb n 10) refl (length_decimal k (n / 10))
  where
    go : (b : Bool) → ltb n 10 ≡ b → (n / 10 < 10 ^ suc k → length (decimal (n / 10)) ≤ suc k) → length (decimal n) ≤ suc (suc k)
    go true e ih = omega (arith, length_small n (ltb-true n 10 e))
    go false e ih =
        let i = ih (omega (arith, rw (pow-succ' 10 (suc k)) at h)) in
        omega (arith, length_big n (ltb-false n 10 e))

pub some_digits : (n : ℕ) → 1 ≤ length (decimal n)
some_digits = ten_ind (λ n. 1 ≤ length (decimal n)) (λ n h. omega (arith, length_small n h)) (λ n h ih. omega (arith, length_big n h))

-- a turn of counting: k digits are counted of n, and those of m are left
pub one_more : (k m n : ℕ) → 10 ≤ m → k + length (decimal m) ≡ 1 + length (decimal n) → k + 1 + length (decimal (m / 10)) ≡ 1 + length (decimal n)
one_more k m n h e = omega (arith, length_big m h)

pub counted_all : (k m n : ℕ) → m < 10 → k + length (decimal m) ≡ 1 + length (decimal n) → k ≡ length (decimal n)
counted_all k m n h e = omega (arith, length_small m h)

-- as many places as there are digits are the number
pub as_decimal : {b a : List ℕ} {r : ℕ} (k n : ℕ) → k ≡ length (decimal n) → Written (places k n) b a r → Written (decimal n) b a r
as_decimal k n e w = rw (← decimal_places n, ← e) w
