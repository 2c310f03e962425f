-- A price comes back from its text, whatever follows it. Assumes nothing.
use Prim.Native.Nat.{ℕ, zero, suc, ◌+◌, ◌-◌, ◌*◌, ◌/◌, ◌%◌, ◌^◌, ◌≤◌, ◌<◌}
use native.Mathlib.Nat.{pow-succ', pow-suc, one-le-pow, mod-lt, div-add-mod', zero-mul, add-zero, mul_assoc, add-sub_of_le, div-lt_iff_lt-mul}
use native.Mathlib.Omega.{arith}
use mathlib.Core.Path.{◌≡◌, refl, sym, ap, ◌∙◌}
use mathlib.Core.Bool.{Bool, true, false, ◌&&◌}
use mathlib.Core.List.{List, [], ◌∷◌, ◌++◌, append_assoc, append-nil}
use lib.ListN.{length, drop, length-append}
use lib.Seq.{drop-append_seam}
use lib.Pow.{pow-add}
use lib.Dec.{eqb}
use borrow.Author.Tests.{eqb-true, eqb-false, eq-eqb, ne_eqb}
use Rattle.std.specs.Prelude.{Some}
use Rattle.text.specs.Bytes.{bytes}
use Rattle.text.specs.Pick.{pick}
use Rattle.text.specs.Decimal.{places, decimal}
use Rattle.text.specs.Reading.{heads, is_digit, dot_digit}
use Rattle.text.proofs.Reading.{digit_yes}
use Rattle.text.proofs.Decimal.{length_places, decimal_places, decimal_small, decimal_big, length_small, length_big, length_decimal, ten_ind}
use Rattle.rules.specs.Price.{whole_part, fraction, units, whole_text, fraction_text, dollars_text, price_text}
use Rattle.rules.specs.declared.Price.{Price}
use Rattle.print_price.specs.Sound.{Sound}
use Rattle.print_price.proofs.PriceBack.{NoMore}
use Rattle.read_price.specs.declared.Digits.{Digits}
use Rattle.read_price.specs.declared.PriceRead.{PriceRead}
use Rattle.read_price.specs.Digits.{digits_onto, digits_at, zero_first}
use Rattle.read_price.specs.Price.{fraction_at, priced_by, price_at}
use Rattle.read_price.proofs.Bounds.{digits_counted}
use Rattle.read_price.proofs.Text.{keeps_some}
use Rattle.rules.specs.declared.PriceForm.TheVariants.{Full}

-- ---- digits

onto_digit : (k a j q : ℕ) (s : List ℕ) → q < 10 → digits_onto (suc k) a j ((48 + q) ∷ s) ≡ digits_onto k (10 * a + q) (suc j) s
unfolding digits_onto pick
onto_digit k a j q s h =
    let e : 48 + q - 48 ≡ q = omega arith in
    rw (digit_yes q h, e)

pub onto_stop : (k a j : ℕ) (s : List ℕ) → heads is_digit s ≡ false → digits_onto k a j s ≡ record { count = j; value = a }
unfolding digits_onto pick
onto_stop zero a j s h = refl
onto_stop (suc k) a j [] h = refl
onto_stop (suc k) a j (c ∷ s) h = rw h

-- d places are read, k are left to read
pub onto_places : (d k n a j : ℕ) (s : List ℕ) → n < 10 ^ d → digits_onto (k + d) a j (places d n ++ s) ≡ digits_onto k (a * 10 ^ d + n) (j + d) s
unfolding places
onto_places zero k n a j s h = alike (omega arith) (omega arith) (omega arith)
  where
    alike : {x y z x' y' z' : ℕ} → x ≡ x' → y ≡ y' → z ≡ z' → digits_onto x y z s ≡ digits_onto x' y' z' s
    alike p q r = cc
onto_places (suc d) k n a j s h =
    let l : n < 10 * 10 ^ d = rw (pow-succ' 10 d) at h in
    let m : n % 10 < 10 = omega arith in
    let e : k + suc d ≡ suc k + d = omega arith in
    rw (e, append_assoc, onto_places d (suc k) (n / 10) a j ((48 + n % 10) ∷ s) (omega arith), onto_digit k _ _ (n % 10) s m, pow-succ' 10 d)
    (alike (omega arith) (omega arith))
  where
    alike : {x y x' y' : ℕ} → x ≡ x' → y ≡ y' → digits_onto k x y s ≡ digits_onto k x' y' s
    alike p q = cc

-- a number is below the power of ten that its digits count
pub decimal_below : (n : ℕ) → n < 10 ^ length (decimal n)
decimal_below = ten_ind (λ n. n < 10 ^ length (decimal n))
    (λ n h. rw (length_small n h) (omega arith))
    (λ n h ih. rw (length_big n h) (omega (arith, pow-suc 10 (length (decimal (n / 10))))))

-- ---- the whole part

whole_zero : whole_text 0 ≡ []
unfolding whole_text pick
whole_zero = refl

whole_some : (w : ℕ) → (w ≡ 0 → ⊥) → whole_text w ≡ decimal w
unfolding whole_text pick
whole_some w h = rw (ne_eqb w 0 h)

pub record Whole (w : ℕ) : Type 0 where
  pub as_places : whole_text w ≡ places (length (whole_text w)) w
  pub below : w < 10 ^ length (whole_text w)
  pub short : length (whole_text w) ≤ 6

whole : (w : ℕ) → w < 10 ^ 6 → Whole w
unfolding places
whole w h = go (eqb w 0) refl
  where
    go : (b : Bool) → eqb w 0 ≡ b → Whole w
    go true e = rw (eqb-true w 0 e) (record { as_places = rw whole_zero; below = rw whole_zero (omega arith); short = rw whole_zero (omega arith) })
    go false e =
        let t = whole_some w (eqb-false w 0 e) in
        record {
          as_places = rw t (sym (decimal_places w));
          below = rw t (decimal_below w);
          short = rw t (length_decimal 5 w h);
        }

onto_whole : (w : ℕ) (s : List ℕ) → w < 10 ^ 6 → digits_at 6 (whole_text w ++ s) ≡ digits_onto (6 - length (whole_text w)) w (length (whole_text w)) s
onto_whole w s h =
    let k = whole w h in
    let l = length (whole_text w) in
    let e : 6 ≡ 6 - l + l = omega (arith, k.short) in
    let g = onto_places l (6 - l) w 0 0 s k.below in
    ap (λ t. digits_onto 6 0 0 (t ++ s)) k.as_places ∙ (ap (λ m. digits_onto m 0 0 (places l w ++ s)) e ∙ (g ∙ alike (omega arith) (omega arith)))
  where
    alike : {x y x' y' : ℕ} → x ≡ x' → y ≡ y' → digits_onto (6 - length (whole_text w)) x y s ≡ digits_onto (6 - length (whole_text w)) x' y' s
    alike p q = cc

pub decimal_first : (n : ℕ) → 1 ≤ n → (s : List ℕ) → zero_first (decimal n ++ s) ≡ false
unfolding zero_first
decimal_first = ten_ind (λ n. 1 ≤ n → (s : List ℕ) → heads (λ c. eqb c 48) (decimal n ++ s) ≡ false)
    (λ n h l s. rw (decimal_small n h) (ne_eqb (48 + n) 48 (λ e. omega arith)))
    (λ n h ih l s. rw (decimal_big n h, append_assoc) (ih (omega arith) ((48 + n % 10) ∷ s)))

-- ---- a price and what follows

pub record PriceAgain (t : List ℕ) (p : Price) (s : List ℕ) : Type 0 where
  pub got : PriceRead
  pub read : price_at (t ++ s) ≡ Some got
  pub long : length t ≤ got.used
  pub exact : NoMore s → (got.used ≡ length t) × (units got.price ≡ units p)

price_parts : (x : List ℕ) (w f : Digits) → zero_first x ≡ false → digits_at 6 x ≡ w → fraction_at (drop w.count x) ≡ f → price_at x ≡ priced_by w f
unfolding price_at pick
price_parts x w f z e g = rw (z, e, g)

by_whole : (w f : Digits) → f.value ≡ 0 → 1 ≤ w.count → priced_by w f ≡ Some (record { price = record { n = w.value; d = 0 }; used = w.count })
unfolding priced_by pick
by_whole w f h k = rw (eq-eqb f.value 0 h, ne_eqb w.count 0 (λ e. omega arith))

by_both : (w f : Digits) → 1 ≤ f.value → priced_by w f ≡ Some (record { price = record { n = w.value * 10 ^ f.count + f.value; d = f.count }; used = w.count + (1 + f.count) })
unfolding priced_by pick
by_both w f h = rw (ne_eqb f.value 0 (λ e. omega arith))

no_fraction : (s : List ℕ) → NoMore s → (fraction_at s).value ≡ 0
unfolding fraction_at dot_digit pick
no_fraction [] m = refl
no_fraction (c ∷ s) m = go (eqb c 44) m.dot
  where
    go : (b : Bool) → (b && heads is_digit s) ≡ false → (pick b (digits_at 8 s) (record { count = 0; value = 0 })).value ≡ 0
    go true e = rw (onto_stop 8 0 0 s e)
    go false e = refl

-- no fraction
module _ (w : ℕ) (h : w < 10 ^ 6) (o : 1 ≤ w) (s : List ℕ) where
  d : Digits
  d = digits_onto (6 - length (whole_text w)) w (length (whole_text w)) s

  f : Digits
  f = fraction_at (drop d.count (whole_text w ++ s))

  parts : price_at (whole_text w ++ s) ≡ priced_by d f
  unfolding d f
  parts = price_parts (whole_text w ++ s) d f (rw (whole_some w (λ e. omega arith)) (decimal_first w o s)) (onto_whole w s h) refl

  from : length (whole_text w) ≤ d.count
  unfolding d
  from = (digits_counted (6 - length (whole_text w)) w (length (whole_text w)) s (whole w h).below).from

  some : 1 ≤ length (whole_text w)
  some = go (length (whole_text w)) (whole w h).below
    where
      go : (n : ℕ) → w < 10 ^ n → 1 ≤ n
      go zero l = absurd (omega arith)
      go (suc n) l = omega arith

  stopped : NoMore s → d ≡ record { count = length (whole_text w); value = w }
  unfolding d
  stopped m = onto_stop (6 - length (whole_text w)) w (length (whole_text w)) s m.digit

  ended : NoMore s → f.value ≡ 0
  unfolding f
  ended m = rw (stopped m, drop-append_seam (whole_text w) s) (no_fraction s m)

  value : (p : Price) → units p ≡ w * 10 ^ 8 → d.value ≡ w → units (record { n = d.value; d = 0 }) ≡ units p
  unfolding units
  value p u v = rw v (sym u)

  whole_again : (p : Price) → units p ≡ w * 10 ^ 8 → PriceAgain (whole_text w) p s
  whole_again p u = go (eqb f.value 0) refl
    where
      go : (b : Bool) → eqb f.value 0 ≡ b → PriceAgain (whole_text w) p s
      go true e = record {
        got = record { price = record { n = d.value; d = 0 }; used = d.count };
        read = parts ∙ by_whole d f (eqb-true f.value 0 e) (omega (arith, from, some));
        long = from;
        exact = λ m. (ap (λ x. x.count) (stopped m), value p u (ap (λ x. x.value) (stopped m)));
      }
      go false e = record {
        got = record { price = record { n = d.value * 10 ^ f.count + f.value; d = f.count }; used = d.count + (1 + f.count) };
        read = parts ∙ by_both d f (omega (arith, eqb-false f.value 0 e));
        long = omega (arith, from);
        exact = λ m. absurd (eqb-false f.value 0 e (ended m));
      }

-- whole part w, and a fraction f of k digits
module _ (w : ℕ) (h : w < 10 ^ 6) (k f : ℕ) (l : k ≤ 8) (y : f < 10 ^ k) (o : 1 ≤ f) (s : List ℕ) where
  t : List ℕ
  t = 44 ∷ (places k f ++ s)

  g : Digits
  g = digits_onto (8 - k) f k s

  at_dot : digits_at 6 (whole_text w ++ t) ≡ record { count = length (whole_text w); value = w }
  unfolding t is_digit
  at_dot = onto_whole w t h ∙ onto_stop (6 - length (whole_text w)) w (length (whole_text w)) t refl

  behind : fraction_at t ≡ g
  unfolding t g fraction_at pick
  behind =
      let e : 8 ≡ 8 - k + k = omega arith in
      ap (λ m. digits_onto m 0 0 (places k f ++ s)) e ∙ (onto_places k (8 - k) f 0 0 s y ∙ alike (omega arith) (omega arith))
    where
      alike : {x z x' z' : ℕ} → x ≡ x' → z ≡ z' → digits_onto (8 - k) x z s ≡ digits_onto (8 - k) x' z' s
      alike p q = cc

  no_zero : zero_first (whole_text w ++ t) ≡ false
  unfolding t zero_first
  no_zero = go (eqb w 0) refl
    where
      go : (b : Bool) → eqb w 0 ≡ b → zero_first (whole_text w ++ t) ≡ false
      go true e = rw (eqb-true w 0 e, whole_zero)
      go false e = let n = eqb-false w 0 e in rw (whole_some w n) (decimal_first w (omega (arith, n)) t)

  dotted_parts : price_at (whole_text w ++ t) ≡ priced_by (record { count = length (whole_text w); value = w }) g
  dotted_parts = price_parts (whole_text w ++ t) _ g no_zero at_dot (ap fraction_at (drop-append_seam (whole_text w) t) ∙ behind)

  both_again : (p : Price) → p.n ≡ w * 10 ^ k + f → p.d ≡ k → PriceAgain (whole_text w ++ (44 ∷ places k f)) p s
  unfolding t g units
  both_again p n q = record {
    got = record { price = record { n = w * 10 ^ g.count + g.value; d = g.count }; used = length (whole_text w) + (1 + g.count) };
    read = ap price_at (append_assoc (whole_text w) (44 ∷ places k f) s) ∙ (dotted_parts ∙ by_both _ g (keeps_some (8 - k) f k s o));
    long = rw length-append (omega (arith, (digits_counted (8 - k) f k s y).from, length_places k f));
    exact = λ m. (
      rw (onto_stop (8 - k) f k s m.digit, length-append) (omega (arith, length_places k f)),
      rw (onto_stop (8 - k) f k s m.digit, n, q),
    );
  }

-- THE PRICE COMES BACK: at least its text is read; exactly it, by value, before a rest that does not go on with it
pub price_again : (p : Price) → Sound p → 1 ≤ p.n → (s : List ℕ) → PriceAgain (price_text Full p) p s
unfolding price_text dollars_text whole_part fraction fraction_text units pick
price_again p v o s = go (eqb (p.n % 10 ^ p.d) 0) refl
  where
    ten : 0 < 10 ^ p.d
    ten = one-le-pow p.d 10 (omega arith)

    w : ℕ
    w = p.n / 10 ^ p.d

    f : ℕ
    f = p.n % 10 ^ p.d

    small : w < 10 ^ 6
    small = (div-lt_iff_lt-mul {x = p.n} {y = 10 ^ 6} ten).1 (rw (pow-add 10 6 p.d) at v.small)

    is : w * 10 ^ p.d + f ≡ p.n
    is = div-add-mod' p.n (10 ^ p.d)

    all : 10 ^ p.d * 10 ^ (8 - p.d) ≡ 10 ^ 8
    all = sym (pow-add 10 p.d (8 - p.d)) ∙ ap (λ k. 10 ^ k) (add-sub_of_le v.decimals)

    worth : f ≡ 0 → units p ≡ w * 10 ^ 8
    worth e =
        let n : p.n ≡ w * 10 ^ p.d = sym is ∙ (ap (λ x. w * 10 ^ p.d + x) e ∙ add-zero (w * 10 ^ p.d)) in
        ap (λ x. x * 10 ^ (8 - p.d)) n ∙ (mul_assoc w (10 ^ p.d) (10 ^ (8 - p.d)) ∙ ap (λ x. w * x) all)

    some : f ≡ 0 → 1 ≤ w
    some e = go (eqb w 0) refl
      where
        go : (b : Bool) → eqb w 0 ≡ b → 1 ≤ w
        go true z = absurd (omega (arith, is, e, ap (λ x. x * 10 ^ p.d) (eqb-true w 0 z), zero-mul (10 ^ p.d)))
        go false z = omega (arith, eqb-false w 0 z)

    go : (b : Bool) → eqb (p.n % 10 ^ p.d) 0 ≡ b → PriceAgain (whole_text w ++ pick b [] (bytes "," ++ places p.d (p.n % 10 ^ p.d))) p s
    go true e = let z = eqb-true (p.n % 10 ^ p.d) 0 e in rw append-nil (whole_again w small (some z) s p (worth z))
    go false e = both_again w small p.d f v.decimals (mod-lt p.n ten) (omega (arith, eqb-false (p.n % 10 ^ p.d) 0 e)) s p (sym is) refl
