-- What is shown of a price comes back from its text, in full or short. Assumes nothing.
use Prim.Native.Nat.{ℕ, suc, zero, ◌+◌, ◌*◌, ◌-◌, ◌/◌, ◌%◌, ◌^◌, ◌≤◌, ◌<◌}
use native.Mathlib.Nat.{pow-succ', mod-lt, div-add-mod', zero-mul, zero-add, one-le-pow, add-mul, mul_assoc, add-sub_of_le}
use native.Mathlib.Omega.{arith}
use mathlib.Core.Path.{◌≡◌, refl, ap, sym, ◌∙◌}
use mathlib.Core.List.{List, [], ◌∷◌, ◌++◌, append_assoc}
use mathlib.Core.Bool.{Bool, true, false}
use lib.Pow.{pow-add}
use lib.Dec.{eqb}
use borrow.Author.Tests.{eqb-true, eqb-false}
use Rattle.text.specs.Pick.{pick}
use Rattle.text.specs.Decimal.{decimal, places}
use Rattle.text.specs.Reading.{found, heads, is_digit, number}
use Rattle.text.proofs.Reading.{digit_yes, number_digit, number_stop, read_decimal, places_head}
use Rattle.rules.specs.Price.{whole_part, fraction, units, whole_text, fraction_text, short_whole, dollars_text, price_text}
use Rattle.rules.specs.declared.Price.{Price}
use Rattle.print_price.specs.Reading.{fraction_at, scaled, read_fraction, read_price, shown_whole, shown_price}
use Rattle.text.specs.Reading.{dot_digit}
use Rattle.rules.specs.declared.PriceForm.{PriceForm}
use Rattle.rules.specs.declared.PriceForm.TheVariants.{Full, Short}

at_digit : (a j q : ℕ) (s : List ℕ) → q < 10 → fraction_at a j ((48 + q) ∷ s) ≡ fraction_at (10 * a + q) (suc j) s
unfolding fraction_at pick
at_digit a j q s h =
    let e : 48 + q - 48 ≡ q = omega arith in
    rw (digit_yes q h, e)

at_stop : (a j : ℕ) (s : List ℕ) → heads is_digit s ≡ false → fraction_at a j s ≡ record { digits = a; count = j; rest = s }
unfolding fraction_at pick
at_stop a j [] h = refl
at_stop a j (c ∷ s) h = rw h

at_places : (d n a j : ℕ) (s : List ℕ) → n < 10 ^ d → fraction_at a j (places d n ++ s) ≡ fraction_at (a * 10 ^ d + n) (j + d) s
unfolding places
at_places zero n a j s h = alike (omega arith) (omega arith)
  where
    alike : {x y : ℕ} → a ≡ x → j ≡ y → fraction_at a j s ≡ fraction_at x y s
    alike p q = cc
at_places (suc d) n a j s h =
    let l : n < 10 * 10 ^ d = rw (pow-succ' 10 d) at h in
    let m : n % 10 < 10 = omega arith in
    rw (append_assoc, at_places d (n / 10) a j ((48 + n % 10) ∷ s) (omega arith), at_digit _ _ (n % 10) s m, pow-succ' 10 d)
    (alike (omega arith) (omega arith))
  where
    alike : {x y x' y' : ℕ} → x ≡ x' → y ≡ y' → fraction_at x y s ≡ fraction_at x' y' s
    alike p q = cc

-- what follows a price: no digit, and no figure dot before a digit
pub record NoMore (s : List ℕ) : Type 0 where
  pub digit : heads is_digit s ≡ false
  pub dot : dot_digit s ≡ false

read_whole : (w : ℕ) (s : List ℕ) → heads is_digit s ≡ false → number 0 (whole_text w ++ s) ≡ found w s
unfolding whole_text pick
read_whole w s h = go (eqb w 0) refl
  where
    go : (b : Bool) → eqb w 0 ≡ b → number 0 (pick (eqb w 0) [] (decimal w) ++ s) ≡ found w s
    go true e = rw (e, number_stop 0 s h, eqb-true w 0 e)
    go false e = rw (e, read_decimal w s h)

read_short : (w : ℕ) (s : List ℕ) → heads is_digit s ≡ false → number 0 (short_whole w ++ s) ≡ found (w % 10) s
unfolding short_whole
read_short w s h = number_digit 0 (w % 10) s (omega arith) ∙ ap (λ a. number a s) (omega arith) ∙ number_stop (w % 10) s h

read_front : (form : PriceForm) (w : ℕ) (s : List ℕ) → heads is_digit s ≡ false → number 0 (dollars_text form w ++ s) ≡ found (shown_whole form w) s
unfolding dollars_text shown_whole
read_front Full w s h = read_whole w s h
read_front Short w s h = read_short w s h

fraction_no : (s : List ℕ) → dot_digit s ≡ false → read_fraction s ≡ found 0 s
unfolding read_fraction pick
fraction_no s e = rw e

fraction_yes : (s : List ℕ) → dot_digit (44 ∷ s) ≡ true → read_fraction (44 ∷ s) ≡ scaled (fraction_at 0 0 s)
unfolding read_fraction pick
fraction_yes s e = rw e

pub places_dot : (d f : ℕ) (s : List ℕ) → f < 10 ^ d → (f ≡ 0 → ⊥) → dot_digit (44 ∷ (places d f ++ s)) ≡ true
unfolding dot_digit
places_dot zero f s h z = absurd (z (omega arith))
places_dot (suc d) f s h z = places_head d f s

read_fraction_lem : (d f : ℕ) (s : List ℕ) → f < 10 ^ d → d ≤ 8 → NoMore s → read_fraction (fraction_text d f ++ s) ≡ found (f * 10 ^ (8 - d)) s
unfolding fraction_text scaled pick
read_fraction_lem d f s h l m = go (eqb f 0) refl
  where
    go : (b : Bool) → eqb f 0 ≡ b → read_fraction (pick (eqb f 0) [] (44 ∷ places d f) ++ s) ≡ found (f * 10 ^ (8 - d)) s
    go true e = rw (e, fraction_no s m.dot, eqb-true f 0 e, zero-mul)
    go false e = rw (e, fraction_yes (places d f ++ s) (places_dot d f s h (eqb-false f 0 e)), at_places d f 0 0 s h, at_stop _ _ s m.digit, zero-mul, zero-add, zero-add)

fraction_head : (d f : ℕ) (s : List ℕ) → heads is_digit s ≡ false → heads is_digit (fraction_text d f ++ s) ≡ false
unfolding fraction_text is_digit pick
fraction_head d f s h = go (eqb f 0)
  where
    go : (b : Bool) → heads is_digit (pick b [] (44 ∷ places d f) ++ s) ≡ false
    go true = h
    go false = refl

-- THE PRICE COMES BACK: what is shown of it, before anything that does not go on with it
pub price_back : (form : PriceForm) (p : Price) (s : List ℕ) → p.d ≤ 8 → NoMore s → read_price (price_text form p ++ s) ≡ found (shown_price form p) s
unfolding read_price price_text shown_price fraction
price_back form p s l m =
    let y : p.n % 10 ^ p.d < 10 ^ p.d = mod-lt p.n (one-le-pow p.d 10 (omega arith)) in
    rw (append_assoc, read_front form (whole_part p) (fraction_text p.d (p.n % 10 ^ p.d) ++ s) (fraction_head p.d _ s m.digit), read_fraction_lem p.d (p.n % 10 ^ p.d) s y l m)

-- in full it is the price by value
pub full_price_lem : (p : Price) → p.d ≤ 8 → shown_price Full p ≡ units p
unfolding shown_price shown_whole whole_part fraction units pick
full_price_lem p l =
    let e : 10 ^ p.d * 10 ^ (8 - p.d) ≡ 10 ^ 8 = sym (pow-add 10 p.d (8 - p.d)) ∙ ap (λ k. 10 ^ k) (add-sub_of_le l) in
    ap (λ t. p.n / 10 ^ p.d * t + p.n % 10 ^ p.d * 10 ^ (8 - p.d)) (sym e) ∙ rw (← mul_assoc, ← add-mul, div-add-mod')
