-- Laws of numbers in a side's columns: the digits of n, of its parts, and how many they are. Assumes nothing.
use Prim.Native.Nat.{ℕ, zero, suc, ◌+◌, ◌-◌, ◌*◌, ◌/◌, ◌%◌, ◌^◌, ◌≤◌, ◌<◌}
use native.Mathlib.Nat.{add-zero, pow-succ', div-div-eq-div-mul, mod-eq-sub-mul-div, mod-eq-sub-div-mul, mul-div-mul_right, div-add-mod, mul_assoc, mul_comm, mul-sub, zero-mul, mul-pos, one-le-pow, div-lt_iff_lt-mul, le-div_iff_mul-le}
use native.Mathlib.Numerals.{add-one}
use native.Mathlib.Omega.{arith}
use mathlib.Core.Path.{◌≡◌, refl, sym, ap, ◌∙◌}
use mathlib.Core.Bool.{Bool, true, false}
use mathlib.Core.List.{List, [], ◌∷◌, ◌++◌, append_assoc, append-nil}
use lib.ListN.{length, take, drop, length-append, length-drop, take-append-drop}
use lib.Pow.{pow-add}
use lib.Seq.{append_snoc, take_at, drop_at}
use lib.Dec.{eqb, leb, ltb}
use borrow.Author.Tests.{eqb-true, eqb-false, leb-true, lt-ltb, ltb-true, ltb-false}
use Rattle.text.specs.Pick.{pick}
use Rattle.text.specs.Reading.{is_digit}
use Rattle.text.specs.Decimal.{decimal, places}
use Rattle.text.proofs.Decimal.{decimal_small, decimal_big, length_small, length_big, length_places}
use Rattle.text.proofs.Texts.{and_left, and_right}
use Rattle.rules.specs.declared.Number.{Number}
use Rattle.rules.specs.declared.Number.TheVariants.{Bad, Is}
use Rattle.rules.specs.Columns.{is_blank, justified, digits_from, zero_alone, numeral, number_in}

-- ---- how many digits

digits_are : (k w : ℕ) → 10 ^ k ≤ w → w < 10 ^ suc k → length (decimal w) ≡ suc k
digits_are zero w h l = length_small w l
digits_are (suc k) w h l =
    let a : 10 * 10 ^ k ≤ w = rw (pow-succ' 10 k) at h in
    let b : w < 10 * 10 ^ suc k = rw (pow-succ' 10 (suc k)) at l in
    let o = one-le-pow k 10 (omega arith) in
    length_big w (omega arith) ∙ ap suc (digits_are k (w / 10) (omega arith) (omega arith))

-- 1, and 1 for each of 9, 99, .. to k digits that w is over
unfoldable limits : ℕ → ℕ → ℕ
limits zero w = 1
limits (suc k) w = limits k w + pick (ltb (10 ^ suc k - 1) w) 1 0

all_limits : (k w : ℕ) → 10 ^ k ≤ w → limits k w ≡ suc k
unfolding limits pick
all_limits zero w h = refl
all_limits (suc k) w h =
    let a : 10 * 10 ^ k ≤ w = rw (pow-succ' 10 k) at h in
    let o = one-le-pow k 10 (omega arith) in
    rw (all_limits k w (omega arith), lt-ltb (10 ^ suc k - 1) w (omega (arith, one-le-pow (suc k) 10 (omega arith)))) (add-one (suc k))

limits_are : (k w : ℕ) → w < 10 ^ suc k → length (decimal w) ≡ limits k w
unfolding limits pick
limits_are zero w h = length_small w h
limits_are (suc k) w h = go (ltb (10 ^ suc k - 1) w) refl (limits_are k w)
  where
    go : (b : Bool) → ltb (10 ^ suc k - 1) w ≡ b → (w < 10 ^ suc k → length (decimal w) ≡ limits k w) → length (decimal w) ≡ limits (suc k) w
    go true e ih =
        let l = ltb-true (10 ^ suc k - 1) w e in
        let p : 10 ^ suc k ≤ w = omega arith in
        digits_are (suc k) w p h ∙ sym (all_limits (suc k) w p)
    go false e ih =
        let l = ltb-false (10 ^ suc k - 1) w e in
        ih (omega (arith, one-le-pow (suc k) 10 (omega arith))) ∙ rw e (sym (add-zero (limits k w)))

pub six_limits : (w a b c d e : ℕ) → w < 1000000 → a ≡ pick (ltb 9 w) 1 0 → b ≡ pick (ltb 99 w) 1 0 → c ≡ pick (ltb 999 w) 1 0 → d ≡ pick (ltb 9999 w) 1 0 → e ≡ pick (ltb 99999 w) 1 0 → 1 + a + b + c + d + e ≡ length (decimal w)
unfolding limits
six_limits w a b c d e h p q r s t = rw (p, q, r, s, t) (sym (limits_are 5 w h))

-- ---- n in its columns

picked : (x y : Number) (b : Bool) (n : ℕ) → pick b x y ≡ Is n → b ≡ true → x ≡ Is n
unfolding pick
picked x y b n h e = rw e at h

other_picked : (x y : Number) (b : Bool) (n : ℕ) → pick b x y ≡ Is n → b ≡ false → y ≡ Is n
unfolding pick
other_picked x y b n h e = rw e at h

passed : (c : ℕ) (s : List ℕ) (n : ℕ) → number_in (c ∷ s) ≡ Is n → is_blank c ≡ true → number_in s ≡ Is n
unfolding number_in justified pick
passed c s n h e = rw e at h

kept : (c : ℕ) (s : List ℕ) (n : ℕ) → number_in (c ∷ s) ≡ Is n → is_blank c ≡ false → numeral (c ∷ s) ≡ Is n
unfolding number_in justified pick
kept c s n h e = rw e at h

digit_is : (c : ℕ) → is_digit c ≡ true → (48 ≤ c) × (c ≤ 57)
unfolding is_digit
digit_is c h = (leb-true 48 c (and_left (leb 48 c) (leb c 57) h), leb-true c 57 (and_right (leb 48 c) (leb c 57) h))

same_number : (m n : ℕ) → Is m ≡ Is n → m ≡ n
same_number m n e = cc

not_bad : (n : ℕ) (s t : List ℕ) → Bad ≡ Is n → s ≡ t
not_bad n s t h = cc

-- one digit more
decimal_more : (a c : ℕ) → 1 ≤ a → 48 ≤ c → c ≤ 57 → decimal (a * 10 + (c - 48)) ≡ decimal a ++ (c ∷ [])
decimal_more a c h k l =
    let q : (a * 10 + (c - 48)) / 10 ≡ a = omega arith in
    let r : 48 + (a * 10 + (c - 48)) % 10 ≡ c = omega arith in
    decimal_big (a * 10 + (c - 48)) (omega arith) ∙ rw (q, r)

-- the digits of a and those that are left are the digits of n
onto : (s : List ℕ) (a n : ℕ) → digits_from a s ≡ Is n → 1 ≤ a → decimal n ≡ decimal a ++ s
unfolding digits_from
onto [] a n e h = rw (append-nil (decimal a)) (ap decimal (sym (same_number a n e)))
onto (c ∷ s) a n e h = go (is_digit c) refl (onto s (a * 10 + (c - 48)) n)
  where
    go : (b : Bool) → is_digit c ≡ b → (digits_from (a * 10 + (c - 48)) s ≡ Is n → 1 ≤ a * 10 + (c - 48) → decimal n ≡ decimal (a * 10 + (c - 48)) ++ s) → decimal n ≡ decimal a ++ (c ∷ s)
    go true q ih =
        let d = digit_is c q in
        ih (picked _ Bad (is_digit c) n e q) (omega arith) ∙ (ap (λ (l : List ℕ). l ++ s) (decimal_more a c h d.0 d.1) ∙ append_snoc (decimal a) c s)
    go false q ih = not_bad n _ _ (other_picked (digits_from (a * 10 + (c - 48)) s) Bad (is_digit c) n e q)

first_digit : (c : ℕ) (s : List ℕ) (n : ℕ) → digits_from 0 (c ∷ s) ≡ Is n → (c ≡ 48 → ⊥) → decimal n ≡ c ∷ s
unfolding digits_from
first_digit c s n e z = go (is_digit c) refl
  where
    go : (b : Bool) → is_digit c ≡ b → decimal n ≡ c ∷ s
    go true q =
        let d = digit_is c q in
        let a : ℕ = 0 * 10 + (c - 48) in
        let v : 48 + a ≡ c = omega arith in
        onto s a n (picked _ Bad (is_digit c) n e q) (omega arith) ∙ rw (decimal_small a (omega arith), v)
    go false q = not_bad n _ _ (other_picked (digits_from (0 * 10 + (c - 48)) s) Bad (is_digit c) n e q)

zero_alone_lem : (s : List ℕ) (n : ℕ) → zero_alone s ≡ Is n → decimal n ≡ 48 ∷ s
unfolding zero_alone
zero_alone_lem [] n e = ap decimal (sym (same_number 0 n e)) ∙ decimal_small 0 (omega arith)
zero_alone_lem (c ∷ s) n e = not_bad n _ _ e

numeral_is : (c : ℕ) (s : List ℕ) (n : ℕ) → numeral (c ∷ s) ≡ Is n → decimal n ≡ c ∷ s
unfolding numeral
numeral_is c s n e = go (eqb c 48) refl
  where
    go : (b : Bool) → eqb c 48 ≡ b → decimal n ≡ c ∷ s
    go true q = zero_alone_lem s n (picked _ (digits_from 0 (c ∷ s)) (eqb c 48) n e q) ∙ rw (eqb-true c 48 q)
    go false q = first_digit c s n (other_picked (zero_alone s) _ (eqb c 48) n e q) (eqb-false c 48 q)

-- a text ends with another
pub record Ends (s t : List ℕ) : Type 0 where
  pub head : List ℕ
  pub whole : s ≡ head ++ t

pub itself : (s : List ℕ) → Ends s s
itself s = record { head = []; whole = refl }

no_number : (n : ℕ) → number_in [] ≡ Is n → ⊥
unfolding number_in justified numeral
no_number n e = let z : ◌≡◌ {A = ℕ} 0 1 = cc in omega arith

-- blanks, then the digits of n
number_ends : (s : List ℕ) (n : ℕ) → number_in s ≡ Is n → Ends s (decimal n)
number_ends [] n e = absurd (no_number n e)
number_ends (c ∷ s) n e = go (is_blank c) refl (number_ends s n)
  where
    go : (b : Bool) → is_blank c ≡ b → (number_in s ≡ Is n → Ends s (decimal n)) → Ends (c ∷ s) (decimal n)
    go true q ih = let t = ih (passed c s n e q) in record { head = c ∷ t.head; whole = ap (λ (l : List ℕ). c ∷ l) t.whole }
    go false q ih = record { head = []; whole = sym (numeral_is c s n (kept c s n e q)) }

-- ---- the digits of its parts

decimal_parts : (d n : ℕ) → 10 ^ d ≤ n → decimal n ≡ decimal (n / 10 ^ d) ++ places d n
unfolding places
decimal_parts zero n h = let q : n / 1 ≡ n = omega arith in rw (q, append-nil (decimal n))
decimal_parts (suc d) n h =
    let a : 10 * 10 ^ d ≤ n = rw (pow-succ' 10 d) at h in
    let o = one-le-pow d 10 (omega arith) in
    let q : n / 10 / 10 ^ d ≡ n / 10 ^ suc d = div-div-eq-div-mul n 10 (10 ^ d) ∙ rw (pow-succ' 10 d) in
    decimal_big n (omega arith) ∙ (ap (λ (l : List ℕ). l ++ ((48 + n % 10) ∷ [])) (decimal_parts d (n / 10) (omega arith)) ∙ rw (q, append_assoc))

pub parts_length : (d n : ℕ) → 10 ^ d ≤ n → length (decimal n) ≡ length (decimal (n / 10 ^ d)) + d
parts_length d n h = ap length (decimal_parts d n h) ∙ simp (length-append, length_places)

-- the last d digits are those of the remainder
pub places_mod : (d n : ℕ) → places d (n % 10 ^ d) ≡ places d n
unfolding places
places_mod zero n = refl
places_mod (suc d) n =
    let p : ℕ = 10 ^ d in
    let x : ℕ = p * (n / 10 / p) in
    let e : n % 10 ^ suc d ≡ n - 10 * x = rw (pow-succ' 10 d) (mod-eq-sub-mul-div n (10 * p) ∙ rw (← div-div-eq-div-mul n 10 p, mul_assoc)) in
    let f = div-add-mod (n / 10) p in
    let a : n % 10 ^ suc d / 10 ≡ n / 10 % p = omega arith in
    let b : n % 10 ^ suc d % 10 ≡ n % 10 = omega arith in
    rw (a, b, places_mod d (n / 10))

-- ---- the columns of its parts

cut_out : (s x w f t : List ℕ) (m d k : ℕ) → s ≡ (x ++ w) ++ (f ++ t) → length s ≡ m + length t → length f ≡ d → k ≡ length w → (take k (drop (m - d - k) s) ≡ w) × (take d (drop (m - d) s) ≡ f)
cut_out s x w f t m d k e l i j =
    let n : m + length t ≡ length x + length w + (length f + length t) = sym l ∙ (ap length e ∙ simp length-append) in
    let p : m - d ≡ length (x ++ w) = omega (arith, length-append x w) in
    let q : length x ≡ m - d - k = omega arith in
    let g : s ≡ x ++ (w ++ (f ++ t)) = e ∙ append_assoc x w (f ++ t) in (
      ap (λ (l : List ℕ). take k (drop (m - d - k) l)) g ∙ (ap (take k) (drop_at x (w ++ (f ++ t)) (m - d - k) q) ∙ take_at w (f ++ t) k (sym j)),
      ap (λ (l : List ℕ). take d (drop (m - d) l)) e ∙ (ap (take d) (drop_at (x ++ w) (f ++ t) (m - d) (sym p)) ∙ take_at f t d i),
    )

regroup : (s t u v x y w f : List ℕ) → t ++ v ≡ s → t ≡ x ++ u → u ≡ (y ++ w) ++ f → s ≡ ((x ++ y) ++ w) ++ (f ++ v)
regroup s t u v x y w f a b c = sym a ∙ rw (b, c) (simp append_assoc)

-- n in the first m columns: its last d digits, and the last k of those before them
pub digits_in_lem : (s : List ℕ) (m d n : ℕ) (w : List ℕ) (k : ℕ) → m ≤ length s → number_in (take m s) ≡ Is n → 10 ^ d ≤ n → Ends (decimal (n / 10 ^ d)) w → k ≡ length w → (take k (drop (m - d - k) s) ≡ w) × (take d (drop (m - d) s) ≡ places d n)
digits_in_lem s m d n w k l e h b j =
    let a = number_ends (take m s) n e in
    let t : List ℕ = drop m s in
    let g : decimal n ≡ (b.head ++ w) ++ places d n = decimal_parts d n h ∙ rw b.whole in
    cut_out s (a.head ++ b.head) w (places d n) t m d k (regroup s (take m s) (decimal n) t a.head b.head w (places d n) (take-append-drop m s) a.whole g) (omega (arith, length-drop m s)) (length_places d n) j

-- ---- in units

sub_mul : (a b m : ℕ) → (a - b) * m ≡ a * m - b * m
sub_mul a b m = mul_comm (a - b) m ∙ (mul-sub m a b ∙ rw (mul_comm m a, mul_comm m b))

module _ (n d : ℕ) (h : d ≤ 8) where
  scale : 10 ^ 8 ≡ 10 ^ d * 10 ^ (8 - d)
  scale = let e : d + (8 - d) ≡ 8 = omega arith in rw (← pow-add 10 d (8 - d), e)

  some : 0 < 10 ^ (8 - d)
  some = one-le-pow (8 - d) 10 (omega arith)

  pub whole_units : n * 10 ^ (8 - d) / 100000000 ≡ n / 10 ^ d
  whole_units = ap (λ (k : ℕ). n * 10 ^ (8 - d) / k) scale ∙ mul-div-mul_right n (10 ^ d) some

  -- what is left of a dollar, by value
  pub fraction_units : n * 10 ^ (8 - d) % 100000000 ≡ n % 10 ^ d * 10 ^ (8 - d)
  fraction_units =
      let m : ℕ = 10 ^ (8 - d) in
      let k : ℕ = 10 ^ d in
      ap (λ (j : ℕ). n * m % j) scale ∙ (mod-eq-sub-div-mul (n * m) (k * m) ∙ rw (mul-div-mul_right n k some, ← mul_assoc (n / k) k m, mod-eq-sub-div-mul n k) (sym (sub_mul n (n / k * k) m)))

  pub zero_fraction : n * 10 ^ (8 - d) % 100000000 ≡ 0 → n % 10 ^ d ≡ 0
  zero_fraction e = go (n % 10 ^ d) (sym fraction_units ∙ e)
    where
      go : (f : ℕ) → f * 10 ^ (8 - d) ≡ 0 → f ≡ 0
      go zero q = refl
      go (suc f) q = absurd (omega (arith, mul-pos {m = suc f} {n = 10 ^ (8 - d)} (omega arith) some))

  pub nonzero_fraction : (n * 10 ^ (8 - d) % 100000000 ≡ 0 → ⊥) → n % 10 ^ d ≡ 0 → ⊥
  nonzero_fraction z e = z (fraction_units ∙ rw e (zero-mul (10 ^ (8 - d))))

  -- a whole part below a million, and one from 1 up
  pub whole_below : n < 10 ^ (6 + d) → n / 10 ^ d < 1000000
  whole_below l = (div-lt_iff_lt-mul {k = 10 ^ d} {x = n} {y = 1000000} (one-le-pow d 10 (omega arith))).1 (rw (pow-add 10 6 d) at l)

  pub whole_from : (n / 10 ^ d ≡ 0 → ⊥) → 10 ^ d ≤ n
  whole_from z = omega (arith, (le-div_iff_mul-le {k = 10 ^ d} {x = 1} {y = n} (one-le-pow d 10 (omega arith))).0 (omega arith))
