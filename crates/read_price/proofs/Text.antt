-- What is read is what stands there: digits, prices, volumes, and the volumes that print so. Assumes nothing.
use Prim.Native.Nat.{ℕ, zero, suc, ◌+◌, ◌-◌, ◌*◌, ◌/◌, ◌%◌, ◌^◌, ◌≤◌, ◌<◌}
use native.Mathlib.Nat.{sub_self, mul-add-div_right, mul-add-mod_self_right, div-eq_of_lt, mod-eq_of_lt, mul-le-mul_right, one-le-pow, add-mul, one-mul, add-zero, div-one}
use native.Mathlib.Omega.{arith}
use mathlib.Core.Path.{◌≡◌, refl, sym, ap, ◌∙◌}
use mathlib.Core.Bool.{Bool, true, false}
use mathlib.Core.List.{List, [], ◌∷◌, ◌++◌, append-nil}
use lib.ListN.{length, take, drop, length-drop}
use lib.Seq.{append_snoc, take-add}
use lib.Pow.{pow-add}
use lib.Dec.{eqb}
use borrow.Author.Tests.{eqb-true, eqb-false, ne_eqb}
use Rattle.std.specs.Prelude.{Some, None}
use Rattle.text.specs.Pick.{pick}
use Rattle.text.specs.Decimal.{places, decimal}
use Rattle.text.specs.Reading.{heads, is_digit}
use Rattle.text.proofs.Decimal.{decimal_small, decimal_big}
use Rattle.rules.specs.Price.{whole_part, fraction, whole_text, fraction_text, dollars_text, price_text}
use Rattle.print_price.specs.Sound.{Sound}
use Rattle.read_price.specs.declared.Digits.{Digits}
use Rattle.read_price.specs.declared.PriceRead.{PriceRead}
use Rattle.read_price.specs.Digits.{digits_onto, digits_at, zero_first}
use Rattle.read_price.specs.Price.{fraction_at, priced_by, price_at}
use Rattle.read_price.proofs.Bounds.{digit_from, digit_to, Counted, digits_counted, digit_small, digits_within, digits_small, digits_below, Fractioned, fraction_found}
use Rattle.rules.specs.declared.PriceForm.TheVariants.{Full}

-- ---- digits

-- f j a is a text of j digits that are worth a, to which each digit adds its byte
module _ (f : ℕ → ℕ → List ℕ) (P : ℕ → Type 0) (keeps : (a c : ℕ) → P a → P (10 * a + (c - 48))) (more : (j a c : ℕ) → P a → is_digit c ≡ true → f (suc j) (10 * a + (c - 48)) ≡ f j a ++ (c ∷ [])) where
  none_more : (j a : ℕ) (s : List ℕ) → f j a ++ take (j - j) s ≡ f j a
  none_more j a s = rw (sub_self j, append-nil)

  digits_shown : (k a j : ℕ) (s : List ℕ) → a < 10 ^ j → P a → f j a ++ take ((digits_onto k a j s).count - j) s ≡ f (digits_onto k a j s).count (digits_onto k a j s).value
  unfolding digits_onto pick
  digits_shown zero a j s h p = none_more j a s
  digits_shown (suc k) a j [] h p = none_more j a []
  digits_shown (suc k) a j (c ∷ s) h p = go (is_digit c) refl (λ l. digits_shown k (10 * a + (c - 48)) (suc j) s l (keeps a c p)) (λ l. digits_counted k (10 * a + (c - 48)) (suc j) s l)
    where
      go : (b : Bool) → is_digit c ≡ b
          → (10 * a + (c - 48) < 10 ^ suc j → f (suc j) (10 * a + (c - 48)) ++ take ((digits_onto k (10 * a + (c - 48)) (suc j) s).count - suc j) s ≡ f (digits_onto k (10 * a + (c - 48)) (suc j) s).count (digits_onto k (10 * a + (c - 48)) (suc j) s).value)
          → (10 * a + (c - 48) < 10 ^ suc j → Counted k (length s) (suc j) (digits_onto k (10 * a + (c - 48)) (suc j) s))
          → f j a ++ take ((pick b (digits_onto k (10 * a + (c - 48)) (suc j) s) (record { count = j; value = a })).count - j) (c ∷ s) ≡ f (pick b (digits_onto k (10 * a + (c - 48)) (suc j) s) (record { count = j; value = a })).count (pick b (digits_onto k (10 * a + (c - 48)) (suc j) s) (record { count = j; value = a })).value
      go true e ih n =
          let l = digit_small a j c h e in
          let d = digits_onto k (10 * a + (c - 48)) (suc j) s in
          let m : d.count - j ≡ suc (d.count - suc j) = omega (arith, (n l).from) in
          rw m (sym (append_snoc (f j a) c (take (d.count - suc j) s)) ∙ (ap (λ t. t ++ take (d.count - suc j) s) (sym (more j a c p e)) ∙ ih l))
      go false e ih n = none_more j a (c ∷ s)

places_more : (j a c : ℕ) → is_digit c ≡ true → places (suc j) (10 * a + (c - 48)) ≡ places j a ++ (c ∷ [])
unfolding places
places_more j a c e =
    let lo = digit_from c e in
    let hi = digit_to c e in
    let q : (10 * a + (c - 48)) / 10 ≡ a = omega arith in
    let r : 48 + (10 * a + (c - 48)) % 10 ≡ c = omega arith in
    rw (q, r)

decimal_more : (a c : ℕ) → 1 ≤ a → is_digit c ≡ true → decimal (10 * a + (c - 48)) ≡ decimal a ++ (c ∷ [])
decimal_more a c h e =
    let lo = digit_from c e in
    let hi = digit_to c e in
    let q : (10 * a + (c - 48)) / 10 ≡ a = omega arith in
    let r : 48 + (10 * a + (c - 48)) % 10 ≡ c = omega arith in
    decimal_big (10 * a + (c - 48)) (omega arith) ∙ rw (q, r)

-- the digits at the front are the places of their value
pub digits_places : (k : ℕ) (s : List ℕ) (d : Digits) → d ≡ digits_at k s → take d.count s ≡ places d.count d.value
unfolding places
digits_places k s d e =
    let g = digits_shown places (λ a. ◌≡◌ {A = ℕ} a a) (λ a c p. refl) (λ j a c p. places_more j a c) k 0 0 s (omega arith) refl in
    let m : (digits_at k s).count - 0 ≡ (digits_at k s).count = omega arith in
    rw e (rw m at g)

digits_first : (k c : ℕ) (s : List ℕ) → 1 ≤ (digits_at k (c ∷ s)).count → (is_digit c ≡ true) × (digits_at k (c ∷ s) ≡ digits_onto (k - 1) (c - 48) 1 s)
unfolding digits_onto pick
digits_first zero c s h = absurd (omega arith)
digits_first (suc k) c s h = go (is_digit c) refl h
  where
    go : (b : Bool) → is_digit c ≡ b → 1 ≤ (pick b (digits_onto k (10 * 0 + (c - 48)) 1 s) (record { count = 0; value = 0 })).count → (is_digit c ≡ true) × (pick (is_digit c) (digits_onto k (10 * 0 + (c - 48)) 1 s) (record { count = 0; value = 0 }) ≡ digits_onto (suc k - 1) (c - 48) 1 s)
    go true e l =
        let m : 10 * 0 + (c - 48) ≡ c - 48 = omega arith in
        let n : suc k - 1 ≡ k = omega arith in
        (e, rw (e, n, m))
    go false e l = absurd (omega arith)

pub keeps_some : (k a j : ℕ) (s : List ℕ) → 1 ≤ a → 1 ≤ (digits_onto k a j s).value
unfolding digits_onto pick
keeps_some zero a j s h = h
keeps_some (suc k) a j [] h = h
keeps_some (suc k) a j (c ∷ s) h = go (is_digit c) (keeps_some k (10 * a + (c - 48)) (suc j) s (omega arith))
  where
    go : (b : Bool) → 1 ≤ (digits_onto k (10 * a + (c - 48)) (suc j) s).value → 1 ≤ (pick b (digits_onto k (10 * a + (c - 48)) (suc j) s) (record { count = j; value = a })).value
    go true ih = ih
    go false ih = h

pub record Numeral (s : List ℕ) (d : Digits) : Type 0 where
  pub text : take d.count s ≡ decimal d.value
  pub some : 1 ≤ d.value

numeral : (k : ℕ) (s : List ℕ) → zero_first s ≡ false → 1 ≤ (digits_at k s).count → Numeral s (digits_at k s)
unfolding zero_first
numeral k [] z h = absurd (omega (arith, digits_within k [] (digits_at k []) refl))
numeral k (c ∷ s) z h =
    let p = digits_first k c s h in
    let lo = digit_from c p.0 in
    let hi = digit_to c p.0 in
    let ne = eqb-false c 48 z in
    let a : 1 ≤ c - 48 = omega (arith, ne) in
    let d = digits_onto (k - 1) (c - 48) 1 s in
    let l : c - 48 < 10 ^ 1 = omega arith in
    let g = digits_shown (λ j n. decimal n) (λ n. 1 ≤ n) (λ n b q. omega arith) (λ j n b. decimal_more n b) (k - 1) (c - 48) 1 s l a in
    let n : d.count ≡ suc (d.count - 1) = omega (arith, (digits_counted (k - 1) (c - 48) 1 s l).from) in
    let u : 48 + (c - 48) ≡ c = omega arith in
    let t : decimal (c - 48) ≡ c ∷ [] = decimal_small (c - 48) (omega arith) ∙ ap (λ x. x ∷ []) u in
    let w : c ∷ take (d.count - 1) s ≡ decimal d.value = rw t at g in
    let v : take d.count (c ∷ s) ≡ decimal d.value = ap (λ x. take x (c ∷ s)) n ∙ w in
    rw p.1 (record { text = v; some = keeps_some (k - 1) (c - 48) 1 s a })

-- without a zero first they are the value in base ten
module _ (k : ℕ) (s : List ℕ) (d : Digits) (e : d ≡ digits_at k s) (z : zero_first s ≡ false) (h : 1 ≤ d.count) where
  pub digits_numeral : Numeral s d
  digits_numeral = rw e (numeral k s z (rw e at h))

  pub digits_decimal : take d.count s ≡ decimal d.value
  digits_decimal = digits_numeral.text

  pub digits_some : 1 ≤ d.value
  digits_some = digits_numeral.some

-- ---- a price

-- the digits behind a figure dot
dotted_text : (s : List ℕ) → heads (λ c. eqb c 44) s ≡ true → take (1 + (digits_at 8 (drop 1 s)).count) s ≡ 44 ∷ places (digits_at 8 (drop 1 s)).count (digits_at 8 (drop 1 s)).value
dotted_text [] h = absurd (let z : ◌≡◌ {A = ℕ} 0 1 = cc in omega arith)
dotted_text (c ∷ s) h =
    let d = digits_at 8 s in
    let m : 1 + d.count ≡ suc d.count = omega arith in
    rw (m, eqb-true c 44 h, digits_places 8 s d refl)

pub fraction_text_lem : (s : List ℕ) (f : Digits) → f ≡ fraction_at s → 1 ≤ f.value → take (1 + f.count) s ≡ 44 ∷ places f.count f.value
unfolding fraction_at pick
fraction_text_lem s f e h = go (heads (λ c. eqb c 44) s) refl f e h
  where
    go : (b : Bool) → heads (λ c. eqb c 44) s ≡ b → (f : Digits) → f ≡ pick b (digits_at 8 (drop 1 s)) (record { count = 0; value = 0 }) → 1 ≤ f.value → take (1 + f.count) s ≡ 44 ∷ places f.count f.value
    go true q f e h = rw e (dotted_text s q)
    go false q f e h = absurd (omega (arith, (ap (λ d. d.value) e)))

-- the price that is found at the front of s
pub record PriceFound (s : List ℕ) (p : PriceRead) : Type 0 where
  pub sound : Sound p.price
  pub some : 1 ≤ p.price.n
  pub within : p.used ≤ length s
  pub used : 1 ≤ p.used
  pub text : take p.used s ≡ price_text Full p.price

whole_text_lem : (s : List ℕ) (w : Digits) → w ≡ digits_at 6 s → zero_first s ≡ false → take w.count s ≡ whole_text w.value
unfolding whole_text pick
whole_text_lem s w e z = go (eqb w.count 0) refl
  where
    go : (b : Bool) → eqb w.count 0 ≡ b → take w.count s ≡ pick (eqb w.value 0) [] (decimal w.value)
    go true q =
        let c = eqb-true w.count 0 q in
        let l : w.value < 10 ^ 0 = rw c at (digits_small 6 s w e) in
        let v : w.value ≡ 0 = omega arith in
        rw (c, v)
    go false q =
        let n = digits_numeral 6 s w e z (omega (arith, eqb-false w.count 0 q)) in
        rw (ne_eqb w.value 0 (λ y. omega (arith, n.some))) n.text

full_text : (n d : ℕ) → price_text Full (record { n = n; d = d }) ≡ whole_text (n / 10 ^ d) ++ fraction_text d (n % 10 ^ d)
unfolding price_text dollars_text whole_part fraction pick
full_text n d = refl

module _ (s : List ℕ) (w : Digits) (e : w ≡ digits_at 6 s) (z : zero_first s ≡ false) where
  found_whole : 1 ≤ w.count → PriceFound s (record { price = record { n = w.value; d = 0 }; used = w.count })
  unfolding fraction_text pick
  found_whole h =
      let one : w.value % 1 ≡ 0 = omega arith in
      record {
        sound = record { decimals = omega arith; small = digits_below 6 s w e };
        some = digits_some 6 s w e z h;
        within = digits_within 6 s w e;
        used = h;
        text = rw (full_text w.value 0, div-one w.value, one, append-nil) (whole_text_lem s w e z);
      }

  module _ (f : Digits) (g : f ≡ fraction_at (drop w.count s)) (h : 1 ≤ f.value) where
    k : Fractioned (drop w.count s) f
    k = fraction_found (drop w.count s) f g

    some_digit : 1 ≤ f.count
    some_digit = go f.count k.small
      where
        go : (n : ℕ) → f.value < 10 ^ n → 1 ≤ n
        go zero l = absurd (omega arith)
        go (suc n) l = omega arith

    ten : 0 < 10 ^ f.count
    ten = one-le-pow f.count 10 (omega arith)

    price_small : w.value * 10 ^ f.count + f.value < 10 ^ (6 + f.count)
    price_small =
        let a : (w.value + 1) * 10 ^ f.count ≤ 10 ^ 6 * 10 ^ f.count = mul-le-mul_right (10 ^ f.count) (omega (arith, digits_below 6 s w e)) in
        let b : (w.value + 1) * 10 ^ f.count ≡ w.value * 10 ^ f.count + 1 * 10 ^ f.count = add-mul w.value 1 (10 ^ f.count) in
        rw (pow-add 10 6 f.count) (omega (arith, a, b, k.small, one-mul (10 ^ f.count)))

    both_whole : (w.value * 10 ^ f.count + f.value) / 10 ^ f.count ≡ w.value
    both_whole = mul-add-div_right ten w.value f.value ∙ rw (div-eq_of_lt k.small, add-zero)

    both_fraction : (w.value * 10 ^ f.count + f.value) % 10 ^ f.count ≡ f.value
    both_fraction = mul-add-mod_self_right w.value (10 ^ f.count) f.value ∙ mod-eq_of_lt k.small

    found_both : PriceFound s (record { price = record { n = w.value * 10 ^ f.count + f.value; d = f.count }; used = w.count + (1 + f.count) })
    unfolding fraction_text pick
    found_both = record {
      sound = record { decimals = k.most; small = price_small };
      some = omega (arith, h);
      within = omega (arith, k.within some_digit, digits_within 6 s w e, length-drop w.count s);
      used = omega arith;
      text = rw (full_text (w.value * 10 ^ f.count + f.value) f.count, both_whole, both_fraction, ne_eqb f.value 0 (λ y. omega (arith, h)), take-add w.count (1 + f.count) s, whole_text_lem s w e z, fraction_text_lem (drop w.count s) f g h);
    }

-- WHAT IS READ AS A PRICE is a price in full, and stands there
pub price_found : (s : List ℕ) (p : PriceRead) → price_at s ≡ Some p → PriceFound s p
unfolding price_at priced_by pick
price_found s p h = go (zero_first s) refl h
  where
    w : Digits
    w = digits_at 6 s

    f : Digits
    f = fraction_at (drop w.count s)

    is : (q : PriceRead) → PriceFound s q → Some q ≡ Some p → PriceFound s p
    is q k e = let y : q ≡ p = cc in rw y at k

    whole : (b : Bool) → zero_first s ≡ false → eqb w.count 0 ≡ b → pick b None (Some (record { price = record { n = w.value; d = 0 }; used = w.count })) ≡ Some p → PriceFound s p
    whole true z e q = absurd (let y : ◌≡◌ {A = ℕ} 0 1 = cc in omega arith)
    whole false z e q = is _ (found_whole s w refl z (omega (arith, eqb-false w.count 0 e))) q

    both : (b : Bool) → zero_first s ≡ false → eqb f.value 0 ≡ b → pick b (pick (eqb w.count 0) None (Some (record { price = record { n = w.value; d = 0 }; used = w.count }))) (Some (record { price = record { n = w.value * 10 ^ f.count + f.value; d = f.count }; used = w.count + (1 + f.count) })) ≡ Some p → PriceFound s p
    both true z e q = whole (eqb w.count 0) z refl q
    both false z e q = is _ (found_both s w refl z f refl (omega (arith, eqb-false f.value 0 e))) q

    go : (b : Bool) → zero_first s ≡ b → pick b None (priced_by w f) ≡ Some p → PriceFound s p
    go true z q = absurd (let y : ◌≡◌ {A = ℕ} 0 1 = cc in omega arith)
    go false z q = both (eqb f.value 0) z refl q

module _ (s : List ℕ) (p : PriceRead) (h : price_at s ≡ Some p) where
  pub price_sound : Sound p.price
  price_sound = (price_found s p h).sound

  pub price_some : 1 ≤ p.price.n
  price_some = (price_found s p h).some

  pub price_within : p.used ≤ length s
  price_within = (price_found s p h).within

  pub price_used : 1 ≤ p.used
  price_used = (price_found s p h).used

  pub price_text_lem : take p.used s ≡ price_text Full p.price
  price_text_lem = (price_found s p h).text
