-- Laws of price texts, in the form of the code's needs. Assumes nothing.
use Prim.Native.Nat.{ℕ, ◌+◌, ◌-◌, ◌*◌, ◌^◌, ◌≤◌, ◌<◌}
use native.Mathlib.Nat.{mul-lt-mul_of_pos_right, one-le-pow}
use native.Mathlib.Omega.{arith}
use mathlib.Core.Path.{◌≡◌, refl}
use mathlib.Core.List.{List, ◌++◌}
use mathlib.Core.Bool.{Bool}
use lib.ListN.{length, length-append, take, drop}
use lib.Pow.{pow-add}
use Rattle.text.specs.Bytes.{bytes}
use Rattle.text.specs.Put.{Written}
use Rattle.text.specs.Decimal.{places}
use Rattle.text.proofs.Writing.{named, then, room, shorter, length_joined}
use Rattle.text.proofs.Decimal.{length_places}
use Rattle.rules.specs.Price.{whole_part, fraction, units, whole_text, fraction_text, short_whole, dollars_text, price_text, form_by}
use Rattle.rules.specs.declared.Price.{Price}
use Rattle.print_price.specs.Sound.{Sound}
use Rattle.rules.specs.declared.PriceForm.{PriceForm}
use Rattle.rules.specs.declared.PriceForm.TheVariants.{Full, Short}

-- ---- powers of ten

-- ---- whole part, fraction and value

pub units_is : (p : Price) (r : ℕ) → r ≡ 10 ^ (8 - p.d) → p.n * r ≡ units p
unfolding units
units_is p r e = rw e

-- in units a price is below ten to the power 14
pub units_small : (p : Price) → Sound p → units p < 10 ^ 14
unfolding units
units_small p s =
    let pos : 0 < 10 ^ (8 - p.d) = one-le-pow (8 - p.d) 10 (omega arith) in
    let e : 6 + p.d + (8 - p.d) ≡ 14 = omega (arith, s.decimals) in
    let m : p.n * 10 ^ (8 - p.d) < 10 ^ (6 + p.d) * 10 ^ (8 - p.d) = mul-lt-mul_of_pos_right s.small pos in
    rw e at (rw (← pow-add 10 (6 + p.d) (8 - p.d)) at m)

pub units_below : (p : Price) (r : ℕ) → Sound p → r ≡ 10 ^ (8 - p.d) → p.n * r < 10 ^ 14
units_below p r s e = rw (units_is p r e) (units_small p s)

pub units_fit : (p : Price) (r : ℕ) → Sound p → r ≡ 10 ^ (8 - p.d) → p.n * r < 2 ^ 64
units_fit p r s e = omega (arith, units_below p r s e)

-- ---- texts
pub dotted_length : (k f : ℕ) → 1 + k ≡ length (bytes "," ++ places k f)
dotted_length k f = rw (length-append (bytes ",") (places k f), length_places)

pub short_is : (w : ℕ) → short_whole w ≡ places 1 w
unfolding short_whole places
short_is w = refl

pub short_length : (w : ℕ) → 1 ≡ length (short_whole w)
unfolding short_whole
short_length w = refl

-- a whole part in its form
module _ (form : PriceForm) (w : ℕ) where
  pub full_length : (r : ℕ) → form ≡ Full → r ≡ length (whole_text w) → r ≡ length (dollars_text form w)
  unfolding dollars_text
  full_length r h e = rw h e

  pub one_length : form ≡ Short → 1 ≡ length (dollars_text form w)
  unfolding dollars_text
  one_length h = rw h (short_length w)

pub form_as : (full test : Bool) (r : PriceForm) → full ≡ test → r ≡ form_by full → r ≡ form_by test
form_as full test r e h = rw (← e) h

-- ---- a price: the code's whole part w and fraction f are the definition's
module _ (form : PriceForm) (p : Price) (w f : ℕ) where
  abbrev pub front : List ℕ
  front = dollars_text form w

  pub priced : w ≡ whole_part p → f ≡ fraction p → price_text form p ≡ front ++ fraction_text p.d f
  unfolding price_text
  priced e g = rw (e, g)

  pub priced_length : (r q : ℕ) → w ≡ whole_part p → f ≡ fraction p → r ≡ length front → q ≡ length (fraction_text p.d f) → r + q ≡ length (price_text form p)
  priced_length r q e g h k = rw (priced e g) (length_joined front (fraction_text p.d f) r q h k)

  pub priced_first : (m : ℕ) → w ≡ whole_part p → f ≡ fraction p → length (price_text form p) ≤ m → length front ≤ m
  priced_first m e g h = shorter front (fraction_text p.d f) m (rw (priced e g) at h)

  pub priced_then : {b xs : List ℕ} {at : ℕ} → w ≡ whole_part p → f ≡ fraction p → Written front b xs at → length (price_text form p) ≤ length b → length (fraction_text p.d f) ≤ length (take (length xs - at) (drop at xs))
  priced_then e g v h = room (fraction_text p.d f) v (rw (priced e g) at h)

  pub written_price : {b xs ys : List ℕ} {at n : ℕ} → w ≡ whole_part p → f ≡ fraction p → Written front b xs at → Written (fraction_text p.d f) (take (length xs - at) (drop at xs)) ys n → Written (price_text form p) b (take at xs ++ (ys ++ drop (length xs - at) (drop at xs))) (at + n)
  written_price e g v u = named (priced e g) (then v u)
