-- Laws of reading: a number and a part that may be left out come back before any rest that cannot go on with them. Assumes nothing.
use Prim.Native.Nat.{ℕ, suc, zero, ◌+◌, ◌*◌, ◌-◌, ◌/◌, ◌%◌, ◌<◌}
use native.Mathlib.Omega.{arith}
use mathlib.Core.Path.{◌≡◌, refl, ap, ◌∙◌}
use mathlib.Core.List.{List, [], ◌∷◌, ◌++◌, append_assoc}
use mathlib.Core.Bool.{Bool, true, false}
use borrow.Author.Tests.{le-leb, eq-eqb}
use Rattle.text.specs.Pick.{pick, opt, all}
use Rattle.text.specs.Decimal.{places, decimal}
use Rattle.text.specs.Reading.{found, heads, is_digit, number, span, starts, past, taken}
use Rattle.text.proofs.Texts.{and_left, and_right}
use Rattle.text.proofs.Decimal.{decimal_small, decimal_big, ten_ind}

pub digit_yes : (n : ℕ) → n < 10 → is_digit (48 + n) ≡ true
unfolding is_digit
digit_yes n h = rw (le-leb 48 (48 + n) (omega arith), le-leb (48 + n) 57 (omega arith))

-- ---- numbers

pub number_digit : (a q : ℕ) (s : List ℕ) → q < 10 → number a ((48 + q) ∷ s) ≡ number (10 * a + q) s
unfolding number pick
number_digit a q s h =
    let e : 48 + q - 48 ≡ q = omega arith in
    rw (digit_yes q h, e)

pub number_stop : (a : ℕ) (s : List ℕ) → heads is_digit s ≡ false → number a s ≡ found a s
unfolding number pick
number_stop a [] h = refl
number_stop a (c ∷ s) h = rw h

-- whatever reads digits from the left, each onto ten times what stands before it, has the number at the end of its digits
module _ {R : Type 0} (f : ℕ → List ℕ → R) (digit : (a q : ℕ) (s : List ℕ) → q < 10 → f a ((48 + q) ∷ s) ≡ f (10 * a + q) s) where
  pub onto : (n : ℕ) (s : List ℕ) → f 0 (decimal n ++ s) ≡ f n s
  onto = ten_ind (λ n. (s : List ℕ) → f 0 (decimal n ++ s) ≡ f n s)
      (λ n h s. rw (decimal_small n h) (digit 0 n s h ∙ ap (λ m. f m s) (omega arith)))
      (λ n h ih s. rw (decimal_big n h, append_assoc, ih ((48 + n % 10) ∷ s)) (digit (n / 10) (n % 10) s (omega arith) ∙ ap (λ m. f m s) (omega arith)))

pub read_decimal : (n : ℕ) (s : List ℕ) → heads is_digit s ≡ false → number 0 (decimal n ++ s) ≡ found n s
read_decimal n s h = onto number number_digit n s ∙ number_stop n s h

-- the first byte of a number is a digit, and no 0 but for the number 0
pub decimal_head : (n : ℕ) (s : List ℕ) → heads is_digit (decimal n ++ s) ≡ true
decimal_head = ten_ind (λ n. (s : List ℕ) → heads is_digit (decimal n ++ s) ≡ true)
    (λ n h s. rw (decimal_small n h, digit_yes n h))
    (λ n h ih s. rw (decimal_big n h, append_assoc) (ih ((48 + n % 10) ∷ s)))

-- ---- bytes that pass

pub span_all : (p : ℕ → Bool) (t s : List ℕ) → all p t ≡ true → heads p s ≡ false → span p (t ++ s) ≡ found t s
unfolding span all pick
span_all p [] [] h k = refl
span_all p [] (c ∷ s) h k = rw k
span_all p (c ∷ t) s h k = rw (and_left (p c) (all p t) h, span_all p t s (and_right (p c) (all p t) h) k)

-- ---- a text at the front

pub starts_append : (p s : List ℕ) → starts p (p ++ s) ≡ true
unfolding starts
starts_append [] s = refl
starts_append (a ∷ p) s = rw (eq-eqb a a refl, starts_append p s)

pub past_append : (p s : List ℕ) → past p (p ++ s) ≡ s
unfolding past
past_append [] s = refl
past_append (a ∷ p) s = past_append p s

pub taken_opt : (b : Bool) (p s : List ℕ) → starts p s ≡ false → taken p (opt b p ++ s) ≡ found b s
unfolding taken opt pick
taken_opt true p s h = rw (starts_append p s, past_append p s)
taken_opt false p s h = rw h

-- p does not start what an optional part q begins
pub not_opt : (b : Bool) (p q s : List ℕ) → starts p (q ++ s) ≡ false → starts p s ≡ false → starts p (opt b q ++ s) ≡ false
unfolding opt
not_opt true p q s h k = h
not_opt false p q s h k = k

-- fixed places begin with a digit
pub places_head : (d n : ℕ) (s : List ℕ) → heads is_digit (places (suc d) n ++ s) ≡ true
unfolding places
places_head zero n s = digit_yes (n % 10) (omega arith)
places_head (suc d) n s = rw append_assoc (places_head d (n / 10) ((48 + n % 10) ∷ s))
