-- The letters that a tail takes stay lawful, and its networks explain them. Assumes nothing.
use Prim.Native.Nat.{ℕ, ◌+◌, ◌≤◌, ◌<◌}
use native.Mathlib.Omega.{arith}
use mathlib.Core.Path.{◌≡◌, refl, sym, ap, ◌∙◌}
use mathlib.Core.Bool.{Bool, true, false, ◌&&◌, not}
use mathlib.Core.List.{List}
use lib.ListN.{drop}
use lib.Dec.{eqb, ltb}
use borrow.Author.Tests.{eqb-false, ltb-true, not-true}
use Rattle.std.specs.Prelude.{Option, Some, None}
use Rattle.text.specs.Bytes.{bytes}
use Rattle.text.specs.Pick.{pick}
use Rattle.text.specs.Reading.{starts}
use Rattle.text.proofs.Texts.{and_left, and_right}
use Rattle.rules.specs.declared.Letters.{Letters}
use Rattle.rules.specs.declared.Side.{Side}
use Rattle.print_price.specs.Sound.{Sound}
use Rattle.read_price.specs.declared.Digits.{Digits}
use Rattle.read_price.specs.Digits.{digits_at}
use Rattle.read_price.proofs.Bounds.{digits_below}
use Rattle.read_price.proofs.Text.{digits_some, price_sound, price_some}
use Rattle.read_price.specs.declared.PriceRead.{PriceRead}
use Rattle.read_conditions.specs.declared.Taken.{Taken}
use Rattle.read_conditions.specs.Tail.{plus_cash, plus_average, plus_stopped, plus_seller, plus_rule, plus_previous, side_with, further, takes_cash, cash_at, takes_average, average_at, takes_stopped, stopped_at, seller_days, seller_by, seller_at, takes_rule, rule_at, previous_in, previous_by, previous_at, after_price_at, at_end_at, tail_at}
use Rattle.read_conditions.proofs.Steps.{previous_found}
use Rattle.read_conditions.proofs.Standing.{Bare, zero_no, cash_keeps, average_keeps, stopped_keeps, seller_keeps, rule_keeps}

unfoldable pub one : Bool → ℕ
one true = 1
one false = 0

-- how many letters a side has
unfoldable pub letter_count : Letters → ℕ
letter_count x = one x.o + one x.s + one x.l + one x.n + one x.m + one x.c + one x.k + one x.b + one x.t + one x.r + one x.j + one x.g

-- at most four letters, all counted; at most one of M, K and R; G not on network A, J not on network B; days and previous last where they are asked
pub record Lawful (st : Taken) : Type 0 where
  pub counted : st.count ≡ letter_count st.side.letters
  pub four : st.count ≤ 4
  pub m_k : (st.side.letters.m && st.side.letters.k) ≡ false
  pub m_r : (st.side.letters.m && st.side.letters.r) ≡ false
  pub k_r : (st.side.letters.k && st.side.letters.r) ≡ false
  pub on_a : st.a ≡ true → st.side.letters.g ≡ false
  pub on_b : st.b ≡ true → st.side.letters.j ≡ false
  pub days : st.side.letters.r ≡ true → (1 ≤ st.side.days) × (st.side.days < 1000)
  pub previous : st.side.letters.g ≡ true → Sound st.side.previous × (1 ≤ st.side.previous.n)

never : (b : Bool) → b ≡ false → b ≡ true → ⊥
never b e f = let z : ◌≡◌ {A = Bool} false true = sym e ∙ f in let y : ◌≡◌ {A = ℕ} 0 1 = cc in omega arith

and_no : (a b : Bool) → a ≡ false → (a && b) ≡ false
and_no a b e = rw e

-- a state with no letter of the tail
pub bare_lawful : (st : Taken) → Bare st.side.letters → st.count ≡ letter_count st.side.letters → st.count ≤ 4 → Lawful st
bare_lawful st o e h = record {
  counted = e;
  four = h;
  m_k = and_false st.side.letters.m st.side.letters.k o.no_k;
  m_r = and_false st.side.letters.m st.side.letters.r o.no_r;
  k_r = and_no st.side.letters.k st.side.letters.r o.no_k;
  on_a = λ q. o.no_g;
  on_b = λ q. o.no_j;
  days = λ q. absurd (never st.side.letters.r o.no_r q);
  previous = λ q. absurd (never st.side.letters.g o.no_g q);
}
  where
    and_false : (a b : Bool) → b ≡ false → (a && b) ≡ false
    and_false true b f = f
    and_false false b f = refl

-- a step by the test t
lawful_step : (t : Bool) (y st : Taken) → (t ≡ true → Lawful y) → Lawful st → Lawful (pick t y st)
unfolding pick
lawful_step true y st h l = h refl
lawful_step false y st h l = l

-- one letter more: as many, and what the others say of it
module _ (st : Taken) (l : Lawful st) where
  few : (t : Bool) → (ltb st.count 4 && t) ≡ true → st.count < 4
  few t h = ltb-true st.count 4 (and_left (ltb st.count 4) t h)

  more_lawful : (x : Side) (n : ℕ) (a b : Bool) → st.count < 4 → letter_count st.side.letters + 1 ≡ letter_count x.letters
      → (x.letters.m && x.letters.k) ≡ false → (x.letters.m && x.letters.r) ≡ false → (x.letters.k && x.letters.r) ≡ false
      → (a ≡ true → x.letters.g ≡ false) → (b ≡ true → x.letters.j ≡ false)
      → (x.letters.r ≡ true → (1 ≤ x.days) × (x.days < 1000)) → (x.letters.g ≡ true → Sound x.previous × (1 ≤ x.previous.n)) → Lawful (further st x n a b)
  unfolding further
  more_lawful x n a b h e m_k m_r k_r on_a on_b days previous =
      record { counted = omega (arith, l.counted); four = omega arith; m_k = m_k; m_r = m_r; k_r = k_r; on_a = on_a; on_b = on_b; days = days; previous = previous }

module _ (s : List ℕ) (st : Taken) (l : Lawful st) where
  cash_lawful : st.side.letters.k ≡ false → st.side.letters.r ≡ false → Lawful (cash_at s st)
  unfolding cash_at takes_cash side_with plus_cash letter_count one
  cash_lawful k r = lawful_step (takes_cash s st) _ st (λ h.
      let m = not-true st.side.letters.m (and_left (not st.side.letters.m) _ (and_right (ltb st.count 4) _ h)) in
      more_lawful st l _ 2 st.a st.b (few st l _ h) (omega (arith, ap one k)) (and_no st.side.letters.m true m) l.m_r r l.on_a l.on_b l.days l.previous) l

  average_lawful : st.side.letters.b ≡ false → Lawful (average_at s st)
  unfolding average_at takes_average side_with plus_average letter_count one
  average_lawful k = lawful_step (takes_average s st) _ st (λ h. more_lawful st l _ 2 st.a st.b (few st l _ h) (omega (arith, ap one k)) l.m_k l.m_r l.k_r l.on_a l.on_b l.days l.previous) l

  stopped_lawful : st.side.letters.t ≡ false → Lawful (stopped_at s st)
  unfolding stopped_at takes_stopped side_with plus_stopped letter_count one
  stopped_lawful k = lawful_step (takes_stopped s st) _ st (λ h. more_lawful st l _ 1 st.a st.b (few st l _ h) (omega (arith, ap one k)) l.m_k l.m_r l.k_r l.on_a l.on_b l.days l.previous) l

  rule_lawful : st.side.letters.j ≡ false → Lawful (rule_at s st)
  unfolding rule_at takes_rule side_with plus_rule letter_count one
  rule_lawful k = lawful_step (takes_rule s st) _ st (λ h. more_lawful st l _ 7 st.a false (few st l _ h) (omega (arith, ap one k)) l.m_k l.m_r l.k_r l.on_a (λ q. absurd (never false refl q)) l.days l.previous) l

-- ---- seller: the days are from 1 to 999

seller_days_lem : (s : List ℕ) → 1 ≤ (seller_days s).count → (1 ≤ (seller_days s).value) × ((seller_days s).value < 1000)
unfolding seller_days pick
seller_days_lem s h = go (starts (bytes "SELLER") s) (starts (bytes "0") (drop 6 s)) refl h
  where
    go : (a b : Bool) → starts (bytes "0") (drop 6 s) ≡ b
        → 1 ≤ (pick a (pick b (record { count = 0; value = 0 }) (digits_at 3 (drop 6 s))) (record { count = 0; value = 0 })).count
        → (1 ≤ (pick a (pick b (record { count = 0; value = 0 }) (digits_at 3 (drop 6 s))) (record { count = 0; value = 0 })).value) × ((pick a (pick b (record { count = 0; value = 0 }) (digits_at 3 (drop 6 s))) (record { count = 0; value = 0 })).value < 1000)
    go true true f l = absurd (omega arith)
    go true false f l = (digits_some 3 (drop 6 s) (digits_at 3 (drop 6 s)) refl (zero_no (drop 6 s) f) l, digits_below 3 (drop 6 s) (digits_at 3 (drop 6 s)) refl)
    go false b f l = absurd (omega arith)

module _ (s : List ℕ) (st : Taken) (l : Lawful st) where
  by_seller_lawful : st.count < 4 → st.side.letters.m ≡ false → st.side.letters.k ≡ false → st.side.letters.r ≡ false → (d : Digits) → d ≡ seller_days (drop st.used s) → Lawful (seller_by st d)
  unfolding seller_by side_with plus_seller letter_count one pick
  by_seller_lawful h m k r d e = go (eqb d.count 0) refl
    where
      go : (b : Bool) → eqb d.count 0 ≡ b → Lawful (pick b st (further st (side_with st.side (plus_seller st.side.letters) d.value st.side.previous) (6 + d.count) st.a st.b))
      go true q = l
      go false q =
          let n : 1 ≤ d.count = omega (arith, eqb-false d.count 0 q) in
          let y : (1 ≤ d.value) × (d.value < 1000) = rw e (seller_days_lem (drop st.used s) (rw e at n)) in
          more_lawful st l _ (6 + d.count) st.a st.b h (omega (arith, ap one r)) l.m_k (and_no st.side.letters.m true m) (and_no st.side.letters.k true k) l.on_a l.on_b (λ z. y) l.previous

  seller_lawful : st.side.letters.r ≡ false → Lawful (seller_at s st)
  unfolding seller_at
  seller_lawful r = lawful_step (ltb st.count 4 && (not st.side.letters.m && not st.side.letters.k)) _ st (λ h.
      let g = and_right (ltb st.count 4) _ h in
      by_seller_lawful (few st l _ h) (not-true st.side.letters.m (and_left (not st.side.letters.m) _ g)) (not-true st.side.letters.k (and_right (not st.side.letters.m) _ g)) r (seller_days (drop st.used s)) refl) l

  by_previous_lawful : st.count < 4 → st.side.letters.g ≡ false → (x : Option PriceRead) → previous_in (drop st.used s) ≡ x → Lawful (previous_by st x)
  unfolding previous_by side_with plus_previous letter_count one
  by_previous_lawful h g None e = l
  by_previous_lawful h g (Some p) e =
      let f = (previous_found (drop st.used s) p e).price in
      more_lawful st l _ (13 + p.used) false st.b h (omega (arith, ap one g)) l.m_k l.m_r l.k_r (λ q. absurd (never false refl q)) l.on_b l.days (λ z. (price_sound _ p f, price_some _ p f))

  last_lawful : st.side.letters.g ≡ false → Lawful (previous_at s st)
  unfolding previous_at
  last_lawful g = lawful_step (ltb st.count 4 && st.b) _ st (λ h. by_previous_lawful (few st l _ h) g (previous_in (drop st.used s)) refl) l

-- THE LETTERS STAY LAWFUL
module _ (s : List ℕ) (st : Taken) (o : Bare st.side.letters) (l : Lawful st) where
  pub tail_lawful : Lawful (tail_at s st)
  unfolding tail_at at_end_at after_price_at side_with plus_cash plus_average plus_stopped plus_seller plus_rule
  tail_lawful =
      let v = cash_at s st in
      let w = average_at s v in
      let x = stopped_at s w in
      let y = seller_at s x in
      let z = rule_at s y in
      let keep : (f : Side → Bool) → ((y : Side) → f (side_with y (plus_cash y.letters) y.days y.previous) ≡ f y) → ((y : Side) → f (side_with y (plus_average y.letters) y.days y.previous) ≡ f y) → ((y : Side) → f (side_with y (plus_stopped y.letters) y.days y.previous) ≡ f y) → f x.side ≡ f st.side
      = λ f h j k. stopped_keeps f s w (k w.side) ∙ (average_keeps f s v (j v.side) ∙ cash_keeps f s st (h st.side)) in
      let t = average_keeps (λ q. q.letters.t) s v refl ∙ (cash_keeps (λ q. q.letters.t) s st refl ∙ o.no_t) in
      let b = cash_keeps (λ q. q.letters.b) s st refl ∙ o.no_b in
      let r = keep (λ q. q.letters.r) (λ q. refl) (λ q. refl) (λ q. refl) ∙ o.no_r in
      let j = seller_keeps (λ q. q.letters.j) s x (λ n. refl) ∙ (keep (λ q. q.letters.j) (λ q. refl) (λ q. refl) (λ q. refl) ∙ o.no_j) in
      let g = rule_keeps (λ q. q.letters.g) s y refl ∙ (seller_keeps (λ q. q.letters.g) s x (λ n. refl) ∙ (keep (λ q. q.letters.g) (λ q. refl) (λ q. refl) (λ q. refl) ∙ o.no_g)) in
      last_lawful s z (rule_lawful s y (seller_lawful s x (stopped_lawful s w (average_lawful s v (cash_lawful s st l o.no_k o.no_r) b) t) r) j) g
