-- How many digits are found, and what they are worth. Assumes nothing.
use Prim.Native.Nat.{ℕ, zero, suc, ◌+◌, ◌-◌, ◌*◌, ◌^◌, ◌≤◌, ◌<◌}
use native.Mathlib.Nat.{pow-suc, pow-le-pow_right}
use native.Mathlib.Omega.{arith}
use mathlib.Core.Path.{◌≡◌, refl}
use mathlib.Core.Bool.{Bool, true, false}
use mathlib.Core.List.{List, [], ◌∷◌}
use lib.ListN.{length, drop}
use lib.Dec.{leb, eqb}
use borrow.Author.Tests.{leb-true}
use Rattle.text.specs.Pick.{pick}
use Rattle.text.specs.Reading.{heads, is_digit}
use Rattle.text.proofs.Texts.{and_left, and_right}
use Rattle.read_price.specs.declared.Digits.{Digits}
use Rattle.read_price.specs.Digits.{digits_onto, digits_at}
use Rattle.read_price.specs.Price.{fraction_at}

pub digit_from : (c : ℕ) → is_digit c ≡ true → 48 ≤ c
unfolding is_digit
digit_from c h = leb-true 48 c (and_left (leb 48 c) (leb c 57) h)

pub digit_to : (c : ℕ) → is_digit c ≡ true → c ≤ 57
unfolding is_digit
digit_to c h = leb-true c 57 (and_right (leb 48 c) (leb c 57) h)

-- d has j digits and at most k more, of l bytes
pub record Counted (k l j : ℕ) (d : Digits) : Type 0 where
  pub most : d.count ≤ j + k
  pub within : d.count ≤ j + l
  pub from : j ≤ d.count
  pub small : d.value < 10 ^ d.count

pub counted_none : (k l j a : ℕ) → a < 10 ^ j → Counted k l j (record { count = j; value = a })
counted_none k l j a h = record { most = omega arith; within = omega arith; from = omega arith; small = h }

pub counted_one : (k l j : ℕ) (d : Digits) → Counted k l (suc j) d → Counted (suc k) (suc l) j d
counted_one k l j d h = record { most = omega (arith, h.most); within = omega (arith, h.within); from = omega (arith, h.from); small = h.small }

pub digit_small : (a j c : ℕ) → a < 10 ^ j → is_digit c ≡ true → 10 * a + (c - 48) < 10 ^ suc j
digit_small a j c h d = omega (arith, pow-suc 10 j, digit_to c d)

pub digits_counted : (k a j : ℕ) (s : List ℕ) → a < 10 ^ j → Counted k (length s) j (digits_onto k a j s)
unfolding digits_onto pick
digits_counted zero a j s h = counted_none zero (length s) j a h
digits_counted (suc k) a j [] h = counted_none (suc k) 0 j a h
digits_counted (suc k) a j (c ∷ s) h = go (is_digit c) refl (λ l. digits_counted k (10 * a + (c - 48)) (suc j) s l)
  where
    go : (b : Bool) → is_digit c ≡ b → (10 * a + (c - 48) < 10 ^ suc j → Counted k (length s) (suc j) (digits_onto k (10 * a + (c - 48)) (suc j) s)) → Counted (suc k) (suc (length s)) j (pick b (digits_onto k (10 * a + (c - 48)) (suc j) s) (record { count = j; value = a }))
    go true e ih = counted_one k (length s) j _ (ih (digit_small a j c h e))
    go false e ih = counted_none (suc k) (suc (length s)) j a h

-- ---- of the digits at the front

module _ (k : ℕ) (s : List ℕ) (d : Digits) (e : d ≡ digits_at k s) where
  counted : Counted k (length s) 0 d
  counted = rw e (digits_counted k 0 0 s (omega arith))

  pub digits_count : d.count ≤ k
  digits_count = omega (arith, counted.most)

  pub digits_within : d.count ≤ length s
  digits_within = omega (arith, counted.within)

  pub digits_small : d.value < 10 ^ d.count
  digits_small = counted.small

  -- as many as a power of ten says
  pub digits_below : d.value < 10 ^ k
  digits_below = omega (arith, digits_small, pow-le-pow_right {n = 10} (omega arith) {i = d.count} {j = k} digits_count)

-- ---- of a fraction: with its dot it stands within the text

pub record Fractioned (s : List ℕ) (f : Digits) : Type 0 where
  pub most : f.count ≤ 8
  pub within : 1 ≤ f.count → 1 + f.count ≤ length s
  pub small : f.value < 10 ^ f.count
  pub below : f.value < 100000000

no_fraction : (s : List ℕ) → Fractioned s (record { count = 0; value = 0 })
no_fraction s = record { most = omega arith; within = λ h. absurd (omega arith); small = omega arith; below = omega arith }

dotted : (s : List ℕ) → heads (λ c. eqb c 44) s ≡ true → Fractioned s (digits_at 8 (drop 1 s))
dotted [] h = absurd (let z : ◌≡◌ {A = ℕ} 0 1 = cc in omega arith)
dotted (c ∷ s) h = record {
  most = digits_count 8 s _ refl;
  within = λ l. omega (arith, digits_within 8 s (digits_at 8 s) refl);
  small = digits_small 8 s _ refl;
  below = digits_below 8 s _ refl;
}

fractioned : (s : List ℕ) → Fractioned s (fraction_at s)
unfolding fraction_at pick
fractioned s = go (heads (λ c. eqb c 44) s) refl
  where
    go : (b : Bool) → heads (λ c. eqb c 44) s ≡ b → Fractioned s (pick b (digits_at 8 (drop 1 s)) (record { count = 0; value = 0 }))
    go true e = dotted s e
    go false e = no_fraction s

module _ (s : List ℕ) (f : Digits) (e : f ≡ fraction_at s) where
  pub fraction_found : Fractioned s f
  fraction_found = rw e (fractioned s)

  pub fraction_count : f.count ≤ 8
  fraction_count = fraction_found.most

  pub fraction_below : f.value < 100000000
  fraction_below = fraction_found.below
