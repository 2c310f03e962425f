-- Laws of number fields and of what stands in them, in the form that the needs have: `search` finds their premises. Assumes nothing.
use Prim.Native.Nat.{ℕ, ◌+◌, ◌-◌, ◌*◌, ◌^◌, ◌≤◌, ◌<◌}
use native.Mathlib.Nat.{pow-suc, pow-le-pow_right}
use native.Mathlib.Numerals.{add-one}
use native.Mathlib.Omega.{arith}
use mathlib.Core.Path.{◌≡◌, refl, ◌∙◌}
use mathlib.Core.Bool.{Bool, true, false}
use mathlib.Core.List.{List, [], ◌∷◌}
use lib.ListN.{length, get_or, drop, drop_of_length-le}
use lib.Pow.{pow-add}
use lib.Seq.{drop-cons}
use borrow.Author.Tests.{eq-eqb, ne_eqb}
use Rattle.text.specs.Pick.{pick}
use Rattle.text.specs.Reading.{is_digit, span}
use Rattle.rules.specs.declared.Number.TheVariants.{Blank, Bad, Is}
use Rattle.rules.specs.Columns.{is_blank, justified, digits_from, zero_alone, numeral, number_in}

-- ---- digits: acc is worth what stands before i

pub digit_no : (s : List ℕ) (i acc : ℕ) → i < length s → is_digit (get_or s i 0) ≡ false → digits_from acc (drop i s) ≡ Bad
unfolding digits_from pick
digit_no s i acc h e = rw (drop-cons s i 0 h, e)

pub digit_yes : (s : List ℕ) (i acc : ℕ) → i < length s → is_digit (get_or s i 0) ≡ true → digits_from acc (drop i s) ≡ digits_from (acc * 10 + (get_or s i 0 - 48)) (drop (i + 1) s)
unfolding digits_from pick
digit_yes s i acc h e = rw (drop-cons s i 0 h, e, add-one)

pub last : (s : List ℕ) (i acc : ℕ) → length s ≤ i → digits_from acc (drop i s) ≡ Is acc
unfolding digits_from
last s i acc h = rw (drop_of_length-le s h)

-- i digits are worth less than 10 ^ i
pub small : (acc i : ℕ) → acc < 10 ^ i → i < 19 → acc < 10 ^ 18
small acc i h k = omega (arith, h, pow-le-pow_right {n = 10} (omega arith) {i = i} {j = 18} (omega arith))

pub grows : (acc d i : ℕ) → acc < 10 ^ i → d ≤ 57 → acc * 10 + (d - 48) < 10 ^ (i + 1)
grows acc d i h k = rw add-one (omega (arith, pow-suc 10 i))

pub ruleset digit_steps = (digit_no, digit_yes, last, grows)

-- ---- the field

pub justified_span : (s : List ℕ) → justified s ≡ (span is_blank s).rest
unfolding justified span pick
justified_span [] = refl
justified_span (c ∷ s) = go (is_blank c) refl (justified_span s)
  where
    go : (t : Bool) → is_blank c ≡ t → justified s ≡ (span is_blank s).rest → justified (c ∷ s) ≡ (span is_blank (c ∷ s)).rest
    go true e h = rw e h
    go false e h = rw e

-- t is the field from its first byte that is no blank
module _ (s t : List ℕ) (e : t ≡ justified s) where
  number_of : number_in s ≡ numeral t
  unfolding number_in
  number_of = rw e

  pub none : length t < 1 → number_in s ≡ Blank
  unfolding numeral
  none h = number_of ∙ rw (drop_of_length-le t {i = 0} (omega arith))

  pub zero_is : 1 ≤ length t → length t < 2 → get_or t 0 0 ≡ 48 → number_in s ≡ Is 0
  unfolding numeral zero_alone pick
  zero_is h l q = number_of ∙ rw (drop-cons t 0 0 (omega arith), drop_of_length-le t {i = 1} (omega arith), eq-eqb _ 48 q)

  pub zero_leads : 2 ≤ length t → get_or t 0 0 ≡ 48 → number_in s ≡ Bad
  unfolding numeral zero_alone pick
  zero_leads h q = number_of ∙ rw (drop-cons t 0 0 (omega arith), drop-cons t 1 0 (omega arith), eq-eqb _ 48 q)

  pub others : 1 ≤ length t → (get_or t 0 0 ≡ 48 → ⊥) → number_in s ≡ digits_from 0 t
  unfolding numeral pick
  others h q = number_of ∙ rw (drop-cons t 0 0 (omega arith), ne_eqb _ 48 q)

pub ruleset fields = (none, zero_is, zero_leads, others)

-- ---- prices

-- ten to the power 6 + d, and that it fits
pub million_of : (d r : ℕ) → r ≡ 10 ^ d → 1000000 * r ≡ 10 ^ (6 + d)
million_of d r e = rw (e, pow-add 10 6 d)

pub price_fits : (d r : ℕ) → d ≤ 8 → r ≡ 10 ^ d → 1000000 * r < 2 ^ 64
price_fits d r h e = let m : 10 ^ d ≤ 10 ^ 8 = pow-le-pow_right (omega arith) h in omega (arith, e, m)
