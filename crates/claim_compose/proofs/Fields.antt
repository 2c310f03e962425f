-- What is put into columns is read from them. Assumes nothing.
use Prim.Native.Nat.{ℕ, suc, zero, ◌+◌, ◌*◌, ◌-◌, ◌/◌, ◌%◌, ◌^◌, ◌≤◌, ◌<◌}
use native.Mathlib.Nat.{pow-succ', add-mul, mul_assoc, zero-mul, zero-add}
use native.Mathlib.Omega.{arith}
use mathlib.Core.Path.{◌≡◌, refl, sym, ap, ◌∙◌}
use mathlib.Core.Bool.{Bool, true, false}
use mathlib.Core.List.{List, [], ◌∷◌}
use lib.Dec.{eqb}
use borrow.Author.Tests.{eqb-true, eqb-false}
use Rattle.text.specs.Pick.{pick, all}
use Rattle.text.proofs.Reading.{digit_yes}
use Rattle.rules.specs.Columns.{is_blank, justified, digits_from, zero_alone, numeral, number_in}
use Rattle.rules.specs.declared.Number.TheVariants.{Blank, Is}
use Rattle.rules.specs.Columns.{between}
use Rattle.rules.specs.Line.{is_printable}
use lib.ListN.{length}
use Rattle.text.proofs.Tests.{is_le}
use Rattle.text.proofs.Booleans.{and_both, nonzero}
use Rattle.claim_compose.specs.Columns.{digits_before, number_field, text_field, first_or, later, filled_if}

from_digit : (a q : ℕ) (s : List ℕ) → q < 10 → digits_from a ((48 + q) ∷ s) ≡ digits_from (a * 10 + q) s
unfolding digits_from pick
from_digit a q s h =
    let e : 48 + q - 48 ≡ q = omega arith in
    rw (digit_yes q h, e)

digit_not_blank : (q : ℕ) → is_blank (48 + q) ≡ false
unfolding is_blank
digit_not_blank q = eqb_no (48 + q) 32 (λ e. omega (e, arith))
  where
    eqb_no : (a b : ℕ) → (a ≡ b → ⊥) → eqb a b ≡ false
    eqb_no a b h = go (eqb a b) refl
      where
        go : (t : Bool) → eqb a b ≡ t → t ≡ false
        go true e = absurd (h (eqb-true a b e))
        go false e = refl

-- digits of weight w that are worth v, read onto any number before them
abbrev Worth : List ℕ → ℕ → ℕ → Type 0
Worth s w v = (a : ℕ) → digits_from a s ≡ Is (a * w + v)

sums : (m w v : ℕ) → m / 10 * (10 * w) + (m % 10 * w + v) ≡ m * w + v
sums m w v =
    let e : m / 10 * 10 + m % 10 ≡ m = omega arith in
    let f : m / 10 * (10 * w) + (m % 10 * w + v) ≡ (m / 10 * 10 + m % 10) * w + v = rw (add-mul, mul_assoc) (omega arith) in
    f ∙ ap (λ x. x * w + v) e

last_digit : (q : ℕ) → q < 10 → Worth ((48 + q) ∷ []) 10 q
unfolding digits_from
last_digit q h a = from_digit a q [] h

-- one digit more before them
worth_more : (s : List ℕ) (q w v : ℕ) → q < 10 → Worth s w v → Worth ((48 + q) ∷ s) (10 * w) (q * w + v)
worth_more s q w v h d a =
    let e : (a * 10 + q) * w + v ≡ a * (10 * w) + (q * w + v) = rw (add-mul, mul_assoc) (omega arith) in
    from_digit a q s h ∙ d (a * 10 + q) ∙ ap Is e

-- digits that begin with no zero are a number by themselves
number_alone : (s : List ℕ) (q w v : ℕ) → q < 10 → 1 ≤ q → Worth s w v → number_in ((48 + q) ∷ s) ≡ Is (q * w + v)
unfolding number_in justified numeral pick
number_alone s q w v h l d = rw (digit_not_blank q, zero_no) (worth_more s q w v h d 0 ∙ ap Is (rw (zero-mul, zero-add)))
  where
    zero_no : eqb (48 + q) 48 ≡ false
    zero_no = go (eqb (48 + q) 48) refl
      where
        go : (t : Bool) → eqb (48 + q) 48 ≡ t → t ≡ false
        go true e = absurd (omega (eqb-true (48 + q) 48 e, l, arith))
        go false e = refl

one_digit : (n : ℕ) → n < 10 → number_in ((48 + n) ∷ []) ≡ Is n
unfolding number_in justified is_blank numeral zero_alone digits_from pick
one_digit zero h = refl
one_digit (suc n) h = number_alone [] (suc n) 1 0 h (omega arith) (λ a. ap Is (omega arith)) ∙ ap Is (omega arith)

-- blanks before a field change nothing
blank_before : (s : List ℕ) → number_in (32 ∷ s) ≡ number_in s
unfolding number_in justified is_blank pick
blank_before s = refl

more_blanks : (k : ℕ) (s : List ℕ) → number_in (digits_before k 0 s) ≡ number_in s
unfolding digits_before pick
more_blanks zero s = refl
more_blanks (suc k) s = more_blanks k (32 ∷ s) ∙ blank_before s

before_some : (k m : ℕ) (s : List ℕ) → 1 ≤ m → digits_before (suc k) m s ≡ digits_before k (m / 10) ((48 + m % 10) ∷ s)
unfolding digits_before pick
before_some k m s l = rw (zero_no)
  where
    zero_no : eqb m 0 ≡ false
    zero_no = go (eqb m 0) refl
      where
        go : (t : Bool) → eqb m 0 ≡ t → t ≡ false
        go true e = absurd (omega (eqb-true m 0 e, l, arith))
        go false e = refl

more_digits : (k m w v : ℕ) (s : List ℕ) → m < 10 ^ k → 1 ≤ m → Worth s w v → number_in (digits_before k m s) ≡ Is (m * w + v)
more_digits zero m w v s h l d = absurd (omega (h, l, arith))
more_digits (suc k) m w v s h l d =
    let f : m < 10 * 10 ^ k = rw (pow-succ' 10 k) at h in
    ap number_in (before_some k m s l)
    ∙ go (eqb (m / 10) 0) refl (λ a. more_digits k (m / 10) (10 * w) (m % 10 * w + v) ((48 + m % 10) ∷ s) (omega (f, arith)) a (worth_more s (m % 10) w v (omega arith) d))
  where
    go : (b : Bool) → eqb (m / 10) 0 ≡ b → (1 ≤ m / 10 → number_in (digits_before k (m / 10) ((48 + m % 10) ∷ s)) ≡ Is (m / 10 * (10 * w) + (m % 10 * w + v))) → number_in (digits_before k (m / 10) ((48 + m % 10) ∷ s)) ≡ Is (m * w + v)
    go true e i =
        let z : m / 10 ≡ 0 = eqb-true (m / 10) 0 e in
        let r : m % 10 ≡ m = omega (z, arith) in
        ap (λ n. number_in (digits_before k n ((48 + m % 10) ∷ s))) z ∙ more_blanks k ((48 + m % 10) ∷ s) ∙ number_alone s (m % 10) w v (omega arith) (omega (r, l, arith)) d ∙ ap (λ n. Is (n * w + v)) r
    go false e i =
        let z : (m / 10 ≡ 0 → ⊥) = eqb-false (m / 10) 0 e in
        i (nonzero (m / 10) z) ∙ ap Is (sums m w v)

-- a number that fits its columns is read from them
pub number_back : (k n : ℕ) → n < 10 ^ suc k → number_in (number_field (suc k) n) ≡ Is n
unfolding number_field
number_back k n h = ap (λ j. number_in (digits_before j (n / 10) ((48 + n % 10) ∷ []))) (omega arith) ∙ go (eqb (n / 10) 0) refl
  where
    go : (b : Bool) → eqb (n / 10) 0 ≡ b → number_in (digits_before k (n / 10) ((48 + n % 10) ∷ [])) ≡ Is n
    go true e =
        let z : n / 10 ≡ 0 = eqb-true (n / 10) 0 e in
        let r : n % 10 ≡ n = omega (z, arith) in
        ap (λ m. number_in (digits_before k m ((48 + n % 10) ∷ []))) z ∙ more_blanks k ((48 + n % 10) ∷ []) ∙ ap (λ m. number_in ((48 + m) ∷ [])) r ∙ one_digit n (omega (z, arith))
    go false e =
        let z : (n / 10 ≡ 0 → ⊥) = eqb-false (n / 10) 0 e in
        let f : n < 10 * 10 ^ k = rw (pow-succ' 10 k) at h in
        more_digits k (n / 10) 10 (n % 10) ((48 + n % 10) ∷ []) (omega (f, arith)) (nonzero (n / 10) z) (last_digit (n % 10) (omega arith)) ∙ ap Is (omega arith)

-- ---- texts

own_field : (s : List ℕ) → text_field (length s) s ≡ s
unfolding text_field first_or later
own_field [] = refl
own_field (c ∷ s) = ap (λ t. c ∷ t) (own_field s)

-- a text that fills its columns is what stands in them
pub text_filled : (k : ℕ) (s : List ℕ) → length s ≡ k → text_field k s ≡ s
text_filled k s h = ap (λ j. text_field j s) (sym h) ∙ own_field s

-- ---- fields that are filled or left blank

pub filled_yes : (s : List ℕ) → filled_if true s ≡ s
unfolding filled_if pick
filled_yes [] = refl
filled_yes (c ∷ s) = ap (λ t. c ∷ t) (filled_yes s)

left_blank : (s : List ℕ) → number_in (filled_if false s) ≡ Blank
unfolding filled_if pick number_in numeral justified is_blank
left_blank [] = refl
left_blank (c ∷ s) = left_blank s

pub filled_number : (b : Bool) (k n : ℕ) → n < 10 ^ suc k → number_in (filled_if b (number_field (suc k) n)) ≡ pick b (Is n) Blank
unfolding pick
filled_number true k n h = ap number_in (filled_yes (number_field (suc k) n)) ∙ number_back k n h
filled_number false k n h = left_blank (number_field (suc k) n)

-- ---- printable bytes

printable_digit : (q : ℕ) → q < 10 → is_printable (48 + q) ≡ true
unfolding is_printable between
printable_digit q h = and_both (sym (is_le 32 (48 + q) (omega arith))) (sym (is_le (48 + q) 126 (omega (h, arith))))

printable_next : (b : Bool) (m : ℕ) (s : List ℕ) → all is_printable s ≡ true → all is_printable (pick b 32 (48 + m % 10) ∷ s) ≡ true
unfolding all pick is_printable between
printable_next true m s h = h
printable_next false m s h = and_both (printable_digit (m % 10) (omega arith)) h

printable_before : (k m : ℕ) (s : List ℕ) → all is_printable s ≡ true → all is_printable (digits_before k m s) ≡ true
unfolding digits_before
printable_before zero m s h = h
printable_before (suc k) m s h = printable_before k (m / 10) (pick (eqb m 0) 32 (48 + m % 10) ∷ s) (printable_next (eqb m 0) m s h)

printable_one : (q : ℕ) → q < 10 → all is_printable ((48 + q) ∷ []) ≡ true
unfolding all
printable_one q h = and_both (printable_digit q h) refl

blanks_printable : (s : List ℕ) → all is_printable (filled_if false s) ≡ true
unfolding all filled_if pick is_printable between
blanks_printable [] = refl
blanks_printable (c ∷ s) = blanks_printable s

pub printable_number : (k n : ℕ) → all is_printable (number_field k n) ≡ true
unfolding number_field
printable_number k n = printable_before (k - 1) (n / 10) ((48 + n % 10) ∷ []) (printable_one (n % 10) (omega arith))

pub printable_if : (b : Bool) (s : List ℕ) → all is_printable s ≡ true → all is_printable (filled_if b s) ≡ true
printable_if true s h = ap (all is_printable) (filled_yes s) ∙ h
printable_if false s h = blanks_printable s
