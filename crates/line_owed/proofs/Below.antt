-- What a number in its columns and within its values is at most. Assumes nothing.
use Prim.Native.Nat.{ℕ, suc, ◌+◌, ◌-◌, ◌*◌, ◌^◌, ◌≤◌, ◌<◌}
use native.Mathlib.Nat.{pow-suc, pow-le-pow_right, one-le-pow, mul-le-mul_right, mul_assoc, mul_comm}
use native.Mathlib.Omega.{arith}
use mathlib.Core.Path.{◌≡◌, refl, sym, ap, ◌∙◌}
use mathlib.Core.Bool.{Bool, true, false, ◌&&◌}
use mathlib.Core.List.{List, [], ◌∷◌}
use lib.Dec.{leb, eqb}
use lib.ListN.{length}
use borrow.Author.Tests.{leb-true}
use Rattle.text.specs.Pick.{pick}
use Rattle.text.specs.Reading.{is_digit}
use Rattle.text.proofs.Texts.{and_left, and_right}
use Rattle.rules.specs.Columns.{is_blank, justified, digits_from, zero_alone, numeral, number_in, value_of, between}
use Rattle.rules.specs.declared.Number.TheVariants.{Bad}

digits_below : (s : List ℕ) (acc : ℕ) → value_of (digits_from acc s) < (acc + 1) * 10 ^ length s
unfolding digits_from pick value_of is_digit
digits_below [] acc = omega arith
digits_below (c ∷ s) acc = go (leb 48 c) (leb c 57) refl (digits_below s (acc * 10 + (c - 48)))
  where
    p : 1 ≤ 10 ^ length s
    p = one-le-pow (length s) 10 (omega arith)

    up : (acc + 1) * 10 * 10 ^ length s ≡ (acc + 1) * 10 ^ suc (length s)
    up = mul_assoc (acc + 1) 10 (10 ^ length s) ∙ ap (λ (k : ℕ). (acc + 1) * k) (mul_comm 10 (10 ^ length s) ∙ sym (pow-suc 10 (length s)))

    none : 0 < (acc + 1) * 10 ^ suc (length s)
    none = omega (arith, mul-le-mul_right {m = 1} {n = acc + 1} (10 ^ suc (length s)) (omega arith), one-le-pow (suc (length s)) 10 (omega arith))

    go : (a b : Bool) → leb c 57 ≡ b → value_of (digits_from (acc * 10 + (c - 48)) s) < (acc * 10 + (c - 48) + 1) * 10 ^ length s → value_of (pick (a && b) (digits_from (acc * 10 + (c - 48)) s) Bad) < (acc + 1) * 10 ^ suc (length s)
    go true true e ih =
        let l : acc * 10 + (c - 48) + 1 ≤ (acc + 1) * 10 = omega (arith, leb-true c 57 e) in
        let m : (acc * 10 + (c - 48) + 1) * 10 ^ length s ≤ (acc + 1) * 10 * 10 ^ length s = mul-le-mul_right (10 ^ length s) l in
        omega (arith, ih, m, up)
    go true false e ih = none
    go false b e ih = none

numeral_below : (s : List ℕ) → value_of (numeral s) < 10 ^ length s
unfolding numeral zero_alone pick value_of
numeral_below [] = omega arith
numeral_below (c ∷ s) = go (eqb c 48) s (digits_below (c ∷ s) 0)
  where
    p : 1 ≤ 10 ^ suc (length s)
    p = one-le-pow (suc (length s)) 10 (omega arith)

    go : (b : Bool) (t : List ℕ) → value_of (digits_from 0 (c ∷ s)) < (0 + 1) * 10 ^ suc (length s) → value_of (pick b (zero_alone t) (digits_from 0 (c ∷ s))) < 10 ^ suc (length s)
    go true [] h = p
    go true (d ∷ t) h = p
    go false t h = omega arith

justified_short : (s : List ℕ) → length (justified s) ≤ length s
unfolding justified pick
justified_short [] = omega arith
justified_short (c ∷ s) = go (is_blank c) (justified_short s)
  where
    go : (b : Bool) → length (justified s) ≤ length s → length (pick b (justified s) (c ∷ s)) ≤ suc (length s)
    go true h = omega arith
    go false h = omega arith

pub number_below : (k : ℕ) (s : List ℕ) → length s ≤ k → value_of (number_in s) < 10 ^ k
unfolding number_in
number_below k s h = omega (arith, numeral_below (justified s), pow-le-pow_right {n = 10} (omega arith) {i = length (justified s)} {j = k} (omega (arith, justified_short s)))

pub in_range : (low high n : ℕ) → between low high n ≡ true → (low ≤ n) × (n ≤ high)
unfolding between
in_range low high n h = (leb-true low n (and_left (leb low n) _ h), leb-true n high (and_right (leb low n) _ h))
