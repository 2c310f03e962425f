-- A tail's days are below 1,000 and its previous last is within its values, where they were before. Assumes nothing.
use Prim.Native.Nat.{ℕ, ◌+◌, ◌^◌, ◌<◌}
use native.Mathlib.Omega.{arith}
use mathlib.Core.Path.{◌≡◌, refl, sym, ◌∙◌, subst}
use mathlib.Core.Bool.{Bool, true, false}
use mathlib.Core.List.{List}
use lib.Dec.{eqb}
use lib.ListN.{drop}
use Rattle.std.specs.Prelude.{Option, Some, None}
use Rattle.text.specs.Bytes.{bytes}
use Rattle.text.specs.Pick.{pick}
use Rattle.text.specs.Reading.{starts}
use Rattle.print_price.specs.Sound.{Sound}
use Rattle.read_price.specs.Digits.{digits_at}
use Rattle.read_price.proofs.Bounds.{digits_below}
use Rattle.read_price.proofs.Text.{price_sound}
use Rattle.read_price.specs.declared.PriceRead.{PriceRead}
use Rattle.rules.specs.declared.Side.{Side}
use Rattle.read_conditions.specs.declared.Taken.{Taken}
use Rattle.read_conditions.specs.Tail.{plus_cash, plus_average, plus_stopped, plus_seller, side_with, further, cash_at, average_at, stopped_at, seller_days, seller_by, seller_at, rule_at, previous_in, previous_by, previous_at, after_price_at, at_end_at, tail_at}
use Rattle.read_conditions.proofs.Steps.{previous_found}
use Rattle.read_conditions.proofs.Standing.{cash_keeps, average_keeps, stopped_keeps, seller_keeps, rule_keeps}
use Rattle.read_conditions.proofs.Kept.{previous_keeps}

-- a step by the test t
step : (P : Side → Type 0) (t : Bool) (y st : Taken) → P y.side → P st.side → P (pick t y st).side
unfolding pick
step P true y st h k = h
step P false y st h k = k

-- ---- the days

few_days : (s : List ℕ) → (seller_days s).value < 10 ^ 3
unfolding seller_days pick
few_days s = go (starts (bytes "SELLER") s) (starts (bytes "0") (drop 6 s))
  where
    go : (a b : Bool) → (pick a (pick b (record { count = 0; value = 0 }) (digits_at 3 (drop 6 s))) (record { count = 0; value = 0 })).value < 10 ^ 3
    go true true = omega arith
    go true false = digits_below 3 (drop 6 s) (digits_at 3 (drop 6 s)) refl
    go false b = omega arith

seller_days_lem : (s : List ℕ) (st : Taken) → st.side.days < 10 ^ 3 → (seller_at s st).side.days < 10 ^ 3
unfolding seller_at seller_by further side_with
seller_days_lem s st h =
    step (λ x. x.days < 10 ^ 3) _ (seller_by st (seller_days (drop st.used s))) st
    (step (λ x. x.days < 10 ^ 3) (eqb (seller_days (drop st.used s)).count 0) st (further st (side_with st.side (plus_seller st.side.letters) (seller_days (drop st.used s)).value st.side.previous) (6 + (seller_days (drop st.used s)).count) st.a st.b) h (few_days (drop st.used s)))
    h

module _ (s : List ℕ) (st : Taken) where
  v : Taken
  v = cash_at s st

  w : Taken
  w = average_at s v

  x : Taken
  x = stopped_at s w

  y : Taken
  y = seller_at s x

  z : Taken
  z = rule_at s y

  after_price : {A : Type 0} (f : Side → A) → ((y : Side) → f (side_with y (plus_cash y.letters) y.days y.previous) ≡ f y) → ((y : Side) → f (side_with y (plus_average y.letters) y.days y.previous) ≡ f y) → ((y : Side) → f (side_with y (plus_stopped y.letters) y.days y.previous) ≡ f y) → f x.side ≡ f st.side
  unfolding v w x
  after_price f h j k = stopped_keeps f s w (k w.side) ∙ (average_keeps f s v (j v.side) ∙ cash_keeps f s st (h st.side))

  pub tail_days : st.side.days < 10 ^ 3 → (tail_at s st).side.days < 10 ^ 3
  unfolding tail_at at_end_at after_price_at side_with v w x y z
  tail_days h =
      let few : x.side.days < 10 ^ 3 = omega (arith, after_price (λ q. q.days) (λ q. refl) (λ q. refl) (λ q. refl), h) in
      let rest : (previous_at s z).side.days ≡ y.side.days = previous_keeps (λ q. q.days) s z (λ p. refl) ∙ rule_keeps (λ q. q.days) s y refl in
      omega (arith, rest, seller_days_lem s x few)

  -- ---- the previous last

  by_previous : (st : Taken) (x : Option PriceRead) → previous_in (drop st.used s) ≡ x → Sound st.side.previous → Sound (previous_by st x).side.previous
  unfolding previous_by further side_with
  by_previous st None e h = h
  by_previous st (Some p) e h = price_sound _ p (previous_found (drop st.used s) p e).price

  pub tail_previous : Sound st.side.previous → Sound (tail_at s st).side.previous
  unfolding tail_at at_end_at after_price_at previous_at side_with v w x y z
  tail_previous h =
      let kept : z.side.previous ≡ st.side.previous = rule_keeps (λ q. q.previous) s y refl ∙ (seller_keeps (λ q. q.previous) s x (λ n. refl) ∙ after_price (λ q. q.previous) (λ q. refl) (λ q. refl) (λ q. refl)) in
      let k : Sound z.side.previous = subst Sound (sym kept) h in
      step (λ q. Sound q.previous) _ (previous_by z (previous_in (drop z.used s))) z (by_previous z (previous_in (drop z.used s)) refl k) k
