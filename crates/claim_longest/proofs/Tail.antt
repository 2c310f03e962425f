-- The conditions of a side, taken from a tape on which they stand: all of them at least. Assumes nothing.
use Prim.Native.Nat.{ℕ, ◌+◌, ◌-◌, ◌^◌, ◌≤◌, ◌<◌}
use native.Mathlib.Omega.{arith}
use mathlib.Core.Path.{◌≡◌, refl, sym, ap, ◌∙◌}
use mathlib.Core.Bool.{Bool, true, false, ◌&&◌, not}
use mathlib.Core.List.{List, [], ◌∷◌, ◌++◌, append_assoc}
use lib.Dec.{eqb, ltb}
use lib.ListN.{length, drop, length-append}
use lib.Seq.{drop-drop, drop-append_seam}
use Rattle.std.specs.Prelude.{Option, Some, None}
use Rattle.print_conditions.proofs.TailBack.{pair_ends}
use Rattle.text.specs.Bytes.{bytes}
use Rattle.text.specs.Pick.{pick, opt}
use Rattle.text.specs.Decimal.{decimal, places}
use Rattle.text.proofs.Decimal.{decimal_places, length_decimal, some_digits}
use Rattle.text.specs.Reading.{starts, heads, is_digit}
use Rattle.text.proofs.Reading.{starts_append}
use Rattle.text.proofs.Tests.{is_lt, is_ne}
use Rattle.text.proofs.Texts.{and_right}
use Rattle.rules.specs.Price.{price_text, units}
use Rattle.rules.specs.Conditions.{seller_text, previous_text}
use Rattle.rules.specs.declared.Price.{Price}
use Rattle.rules.specs.declared.Side.{Side}
use Rattle.text.proofs.Booleans.{false_true, eqb_flip}
use Rattle.print_price.specs.Sound.{Sound}
use Rattle.line_owed.specs.Shown.{one}
use Rattle.read_price.specs.declared.Digits.{Digits}
use Rattle.read_price.specs.declared.PriceRead.{PriceRead}
use Rattle.read_price.specs.Digits.{digits_onto, digits_at, zero_first}
use Rattle.read_price.proofs.Bounds.{digits_counted}
use Rattle.read_price.specs.Price.{price_at}
use Rattle.read_price.proofs.PriceBack.{onto_stop, onto_places, decimal_below, decimal_first, price_again}
use Rattle.read_conditions.specs.declared.Taken.{Taken}
use Rattle.read_conditions.specs.Tail.{plus_cash, plus_average, plus_stopped, plus_seller, plus_rule, side_with, further, takes_cash, cash_at, takes_average, average_at, takes_stopped, stopped_at, seller_days, seller_by, seller_at, takes_rule, rule_at, closed_by, previous_in, previous_by, previous_at, after_price_at, at_end_at, tail_at}
use Rattle.rules.specs.declared.PriceForm.TheVariants.{Full}

-- ---- what is left of a tail, from each condition on, before the rest R

abbrev pub from_previous : Bool → Price → List ℕ → List ℕ
from_previous g q R = opt g (previous_text q) ++ R

abbrev pub from_rule : Bool → Bool → Price → List ℕ → List ℕ
from_rule j g q R = opt j (bytes "RULE127") ++ from_previous g q R

abbrev pub from_seller : Bool → ℕ → Bool → Bool → Price → List ℕ → List ℕ
from_seller r d j g q R = opt r (seller_text d) ++ from_rule j g q R

abbrev pub from_stopped : Bool → Bool → ℕ → Bool → Bool → Price → List ℕ → List ℕ
from_stopped t r d j g q R = opt t (bytes "t") ++ from_seller r d j g q R

abbrev pub from_average : Bool → Bool → Bool → ℕ → Bool → Bool → Price → List ℕ → List ℕ
from_average b t r d j g q R = opt b (bytes ",b") ++ from_stopped t r d j g q R

-- ---- SELLER and days, as one test

unfoldable pub takes_seller : List ℕ → Taken → Bool
takes_seller s st = ltb st.count 4 && (not st.side.letters.m && (not st.side.letters.k && not (eqb (seller_days (drop st.used s)).count 0)))

unfoldable pub sold_by : Taken → Digits → Taken
sold_by st d = further st (side_with st.side (plus_seller st.side.letters) d.value st.side.previous) (6 + d.count) st.a st.b

two_tests : {A : Type 0} (n m k z : Bool) (y x : A) → pick (n && (m && k)) (pick z x y) x ≡ pick (n && (m && (k && not z))) y x
unfolding pick
two_tests true true true true y x = refl
two_tests true true true false y x = refl
two_tests true true false z y x = refl
two_tests true false k z y x = refl
two_tests false m k z y x = refl

pub seller_as : (s : List ℕ) (st : Taken) → seller_at s st ≡ pick (takes_seller s st) (sold_by st (seller_days (drop st.used s))) st
unfolding seller_at seller_by takes_seller sold_by
seller_as s st = two_tests (ltb st.count 4) (not st.side.letters.m) (not st.side.letters.k) (eqb (seller_days (drop st.used s)).count 0) _ st

-- ---- each step goes forward

picked_on : (b : Bool) (x y : Taken) (n : ℕ) → n ≤ x.used → n ≤ y.used → n ≤ (pick b x y).used
unfolding pick
picked_on true x y n h k = h
picked_on false x y n h k = k

further_on : (st : Taken) (x : Side) (n : ℕ) (a b : Bool) → st.used ≤ (further st x n a b).used
unfolding further
further_on st x n a b = omega arith

module _ (s : List ℕ) (st : Taken) where
  cash_on : st.used ≤ (cash_at s st).used
  unfolding cash_at
  cash_on = picked_on (takes_cash s st) _ st st.used (further_on st _ 2 _ _) (omega arith)

  average_on : st.used ≤ (average_at s st).used
  unfolding average_at
  average_on = picked_on (takes_average s st) _ st st.used (further_on st _ 2 _ _) (omega arith)

  stopped_on : st.used ≤ (stopped_at s st).used
  unfolding stopped_at
  stopped_on = picked_on (takes_stopped s st) _ st st.used (further_on st _ 1 _ _) (omega arith)

  seller_on : st.used ≤ (seller_at s st).used
  unfolding sold_by
  seller_on = rw (seller_as s st) (picked_on (takes_seller s st) _ st st.used (further_on st _ _ _ _) (omega arith))

  rule_on : st.used ≤ (rule_at s st).used
  unfolding rule_at
  rule_on = picked_on (takes_rule s st) _ st st.used (further_on st _ 7 _ _) (omega arith)

  previous_by_on : (p : Option PriceRead) → st.used ≤ (previous_by st p).used
  unfolding previous_by
  previous_by_on (Some p) = further_on st _ _ _ _
  previous_by_on None = omega arith

  pub previous_on : st.used ≤ (previous_at s st).used
  unfolding previous_at
  previous_on = picked_on (ltb st.count 4 && st.b) _ st st.used (previous_by_on _) (omega arith)

-- ---- the bytes that are left of a tail, from each condition on

abbrev pub size_previous : Bool → Price → ℕ
size_previous g q = length (opt g (previous_text q))

abbrev pub size_rule : Bool → Bool → Price → ℕ
size_rule j g q = length (opt j (bytes "RULE127")) + size_previous g q

abbrev pub size_seller : Bool → ℕ → Bool → Bool → Price → ℕ
size_seller r d j g q = length (opt r (seller_text d)) + size_rule j g q

abbrev pub size_stopped : Bool → Bool → ℕ → Bool → Bool → Price → ℕ
size_stopped t r d j g q = length (opt t (bytes "t")) + size_seller r d j g q

abbrev pub size_average : Bool → Bool → Bool → ℕ → Bool → Bool → Price → ℕ
size_average b t r d j g q = length (opt b (bytes ",b")) + size_stopped t r d j g q

-- ---- a condition's text stands behind a tail only where the tail is at its end

module _ (d : ℕ) (q : Price) (R : List ℕ) where
  clear_rule : (g : Bool) → starts (bytes "RULE127") (from_previous g q R) ≡ true → size_previous g q ≡ 0
  unfolding opt previous_text starts
  clear_rule true h = absurd (false_true h)
  clear_rule false h = refl

  clear_seller : (j g : Bool) → starts (bytes "SELLER") (from_rule j g q R) ≡ true → size_rule j g q ≡ 0
  unfolding opt previous_text starts
  clear_seller true g h = absurd (false_true h)
  clear_seller false true h = absurd (false_true h)
  clear_seller false false h = refl

  clear_stopped : (r j g : Bool) → starts (bytes "t") (from_seller r d j g q R) ≡ true → size_seller r d j g q ≡ 0
  unfolding opt previous_text seller_text starts
  clear_stopped true j g h = absurd (false_true h)
  clear_stopped false true g h = absurd (false_true h)
  clear_stopped false false true h = absurd (false_true h)
  clear_stopped false false false h = refl

  clear_average : (t r j g : Bool) → starts (bytes ",b") (from_stopped t r d j g q R) ≡ true → size_stopped t r d j g q ≡ 0
  unfolding opt previous_text seller_text starts
  clear_average true r j g h = absurd (false_true h)
  clear_average false true j g h = absurd (false_true h)
  clear_average false false true g h = absurd (false_true h)
  clear_average false false false true h = absurd (false_true h)
  clear_average false false false false h = refl

  clear_cash : (b t r j g : Bool) → starts (bytes ",c") (from_average b t r d j g q R) ≡ true → size_average b t r d j g q ≡ 0
  unfolding opt previous_text seller_text starts
  clear_cash true t r j g h = absurd (false_true h)
  clear_cash false true r j g h = absurd (false_true h)
  clear_cash false false true j g h = absurd (false_true h)
  clear_cash false false false true g h = absurd (false_true h)
  clear_cash false false false false true h = absurd (false_true h)
  clear_cash false false false false false h = refl

-- ---- one step: as the side has it, or beyond the whole tail

pub data Step (after given : Taken) (target : ℕ) : Type 0 where
  on : after ≡ given → Step after given target
  over : target ≤ after.used → Step after given target

const_step : (P X D : List ℕ) (f takes : Bool) (plus st : Taken) (size : ℕ) → D ≡ opt f P ++ X → (f ≡ true → starts P D ≡ true → takes ≡ true) → (takes ≡ true → starts P D ≡ true) → (starts P X ≡ true → size ≡ 0) → st.used ≤ plus.used
    → Step (pick takes plus st) (pick f plus st) (st.used + (length (opt f P) + size))
unfolding opt pick
const_step P X D true takes plus st size e there back clear m = on (rw (there refl (rw e (starts_append P X))))
const_step P X D false true plus st size e there back clear m = over (omega (clear (ap (starts P) (sym e) ∙ back refl), m, arith))
const_step P X D false false plus st size e there back clear m = on refl

-- what is left behind a condition
pub dropped : (s P X : List ℕ) (n : ℕ) (f : Bool) → drop n s ≡ opt f P ++ X → drop (n + length (opt f P)) s ≡ X
dropped s P X n f h = sym (drop-drop (length (opt f P)) n s) ∙ ap (drop (length (opt f P))) h ∙ drop-append_seam (opt f P) X

module _ (s : List ℕ) (st : Taken) where
  pub cash_yes : st.count < 4 → st.side.letters.m ≡ false → starts (bytes ",c") (drop st.used s) ≡ true → takes_cash s st ≡ true
  unfolding takes_cash
  cash_yes n m h = rw (sym (is_lt st.count 4 n), m, h)

  pub cash_back : takes_cash s st ≡ true → starts (bytes ",c") (drop st.used s) ≡ true
  unfolding takes_cash
  cash_back h = and_right (not st.side.letters.m) _ (and_right (ltb st.count 4) _ h)

  pub average_yes : st.count < 4 → starts (bytes ",b") (drop st.used s) ≡ true → takes_average s st ≡ true
  unfolding takes_average
  average_yes n h = rw (sym (is_lt st.count 4 n), h)

  pub average_back : takes_average s st ≡ true → starts (bytes ",b") (drop st.used s) ≡ true
  unfolding takes_average
  average_back h = and_right (ltb st.count 4) _ h

  pub stopped_yes : st.count < 4 → starts (bytes "t") (drop st.used s) ≡ true → takes_stopped s st ≡ true
  unfolding takes_stopped
  stopped_yes n h = rw (sym (is_lt st.count 4 n), h)

  pub stopped_back : takes_stopped s st ≡ true → starts (bytes "t") (drop st.used s) ≡ true
  unfolding takes_stopped
  stopped_back h = and_right (ltb st.count 4) _ h

  pub rule_yes : st.count < 4 → st.a ≡ true → starts (bytes "RULE127") (drop st.used s) ≡ true → takes_rule s st ≡ true
  unfolding takes_rule
  rule_yes n a h = rw (sym (is_lt st.count 4 n), a, h)

  pub rule_back : takes_rule s st ≡ true → starts (bytes "RULE127") (drop st.used s) ≡ true
  unfolding takes_rule
  rule_back h = and_right st.a _ (and_right (ltb st.count 4) _ h)

  -- the state with the condition taken
  abbrev pub with_cash : Taken
  with_cash = further st (side_with st.side (plus_cash st.side.letters) st.side.days st.side.previous) 2 st.a st.b

  abbrev pub with_average : Taken
  with_average = further st (side_with st.side (plus_average st.side.letters) st.side.days st.side.previous) 2 st.a st.b

  abbrev pub with_stopped : Taken
  with_stopped = further st (side_with st.side (plus_stopped st.side.letters) st.side.days st.side.previous) 1 st.a st.b

  abbrev pub with_rule : Taken
  with_rule = further st (side_with st.side (plus_rule st.side.letters) st.side.days st.side.previous) 7 st.a false

  module _ (f : Bool) (X : List ℕ) (size : ℕ) (n : f ≡ true → st.count < 4) where
    cash_step : drop st.used s ≡ opt f (bytes ",c") ++ X → (f ≡ true → st.side.letters.m ≡ false) → (starts (bytes ",c") X ≡ true → size ≡ 0) → Step (cash_at s st) (pick f with_cash st) (st.used + (length (opt f (bytes ",c")) + size))
    unfolding cash_at
    cash_step e m clear = const_step (bytes ",c") X (drop st.used s) f (takes_cash s st) with_cash st size e (λ q h. cash_yes (n q) (m q) h) cash_back clear (further_on st _ 2 _ _)

    average_step : drop st.used s ≡ opt f (bytes ",b") ++ X → (starts (bytes ",b") X ≡ true → size ≡ 0) → Step (average_at s st) (pick f with_average st) (st.used + (length (opt f (bytes ",b")) + size))
    unfolding average_at
    average_step e clear = const_step (bytes ",b") X (drop st.used s) f (takes_average s st) with_average st size e (λ q h. average_yes (n q) h) average_back clear (further_on st _ 2 _ _)

    stopped_step : drop st.used s ≡ opt f (bytes "t") ++ X → (starts (bytes "t") X ≡ true → size ≡ 0) → Step (stopped_at s st) (pick f with_stopped st) (st.used + (length (opt f (bytes "t")) + size))
    unfolding stopped_at
    stopped_step e clear = const_step (bytes "t") X (drop st.used s) f (takes_stopped s st) with_stopped st size e (λ q h. stopped_yes (n q) h) stopped_back clear (further_on st _ 1 _ _)

    rule_step : drop st.used s ≡ opt f (bytes "RULE127") ++ X → (f ≡ true → st.a ≡ true) → (starts (bytes "RULE127") X ≡ true → size ≡ 0) → Step (rule_at s st) (pick f with_rule st) (st.used + (length (opt f (bytes "RULE127")) + size))
    unfolding rule_at
    rule_step e a clear = const_step (bytes "RULE127") X (drop st.used s) f (takes_rule s st) with_rule st size e (λ q h. rule_yes (n q) (a q) h) rule_back clear (further_on st _ 7 _ _)

-- ---- SELLER and days

zero_no : (s : List ℕ) → zero_first s ≡ false → starts (bytes "0") s ≡ false
unfolding zero_first starts
zero_no [] h = refl
zero_no (c ∷ s) h = ap (λ b. b && true) (eqb_flip c 48 h)

-- the days that are read: as many digits at least, and exactly these where no digit follows
pub record DaysAgain (d : ℕ) (X : List ℕ) : Type 0 where
  pub got : Digits
  pub read : seller_days (seller_text d ++ X) ≡ got
  pub long : length (decimal d) ≤ got.count
  pub exact : heads is_digit X ≡ false → got ≡ record { count = length (decimal d); value = d }

pub days_again : (d : ℕ) (X : List ℕ) → 1 ≤ d → d < 10 ^ 3 → DaysAgain d X
unfolding seller_days seller_text starts pick
days_again d X o h =
    let l = length (decimal d) in
    let short : l ≤ 3 = length_decimal 2 d h in
    let e : 3 ≡ 3 - l + l = omega (short, arith) in
    let g = onto_places l (3 - l) d 0 0 X (decimal_below d) in
    let w : digits_at 3 (decimal d ++ X) ≡ digits_onto (3 - l) d l X =
    ap (λ t. digits_onto 3 0 0 (t ++ X)) (sym (decimal_places d)) ∙ ap (λ m. digits_onto m 0 0 (places l d ++ X)) e ∙ g ∙ alike (omega arith) (omega arith) in
    record {
      got = digits_onto (3 - l) d l X;
      read = rw (zero_no (decimal d ++ X) (decimal_first d o X)) w;
      long = (digits_counted (3 - l) d l X (decimal_below d)).from;
      exact = λ n. onto_stop (3 - l) d l X n;
    }
  where
    alike : {x y x' y' : ℕ} → x ≡ x' → y ≡ y' → digits_onto (3 - length (decimal d)) x y X ≡ digits_onto (3 - length (decimal d)) x' y' X
    alike p q = cc

-- a digit behind a tail stands only where the tail is at its end
clear_digit : (q : Price) (R : List ℕ) (j g : Bool) → heads is_digit (from_rule j g q R) ≡ true → size_rule j g q ≡ 0
unfolding opt previous_text is_digit
clear_digit q R true g h = absurd (false_true h)
clear_digit q R false true h = absurd (false_true h)
clear_digit q R false false h = refl

no_seller : (s : List ℕ) → starts (bytes "SELLER") s ≡ false → (seller_days s).count ≡ 0
unfolding seller_days pick
no_seller s h = rw h

module _ (s : List ℕ) (st : Taken) where
  pub seller_yes : st.count < 4 → st.side.letters.m ≡ false → st.side.letters.k ≡ false → 1 ≤ (seller_days (drop st.used s)).count → takes_seller s st ≡ true
  unfolding takes_seller
  seller_yes n m k h = rw (sym (is_lt st.count 4 n), m, k, sym (is_ne (seller_days (drop st.used s)).count 0 (λ e. omega (e, h, arith))))

  pub seller_back : takes_seller s st ≡ true → starts (bytes "SELLER") (drop st.used s) ≡ true
  unfolding takes_seller
  seller_back h = go (starts (bytes "SELLER") (drop st.used s)) refl
    where
      e : not (eqb (seller_days (drop st.used s)).count 0) ≡ true
      e = and_right (not st.side.letters.k) _ (and_right (not st.side.letters.m) _ (and_right (ltb st.count 4) _ h))

      go : (b : Bool) → starts (bytes "SELLER") (drop st.used s) ≡ b → b ≡ true
      go true q = refl
      go false q = sym (ap (λ n. not (eqb n 0)) (no_seller (drop st.used s) q)) ∙ e

  abbrev pub with_seller : ℕ → Taken
  with_seller d = sold_by st (record { count = length (decimal d); value = d })

  module _ (d : ℕ) (j g : Bool) (q : Price) (R : List ℕ) where
    seller_ends : (b : Bool) → heads is_digit (from_rule j g q R) ≡ b → (a : DaysAgain d (from_rule j g q R)) → Step (pick true (sold_by st a.got) st) (with_seller d) (st.used + (length (bytes "SELLER" ++ decimal d) + size_rule j g q))
    unfolding pick sold_by further
    seller_ends true w a = over (omega (clear_digit q R j g w, a.long, arith))
    seller_ends false w a = on (rw (a.exact w))

    seller_absent : drop st.used s ≡ from_rule j g q R → (b : Bool) → takes_seller s st ≡ b → Step (pick b (sold_by st (seller_days (drop st.used s))) st) st (st.used + size_rule j g q)
    unfolding pick sold_by further
    seller_absent e true y = over (omega (clear_seller d q R j g (ap (starts (bytes "SELLER")) (sym e) ∙ seller_back y), arith))
    seller_absent e false y = on refl

    seller_there : drop st.used s ≡ seller_text d ++ from_rule j g q R → 1 ≤ d → d < 10 ^ 3 → st.count < 4 → st.side.letters.m ≡ false → st.side.letters.k ≡ false
        → Step (seller_at s st) (with_seller d) (st.used + (length (seller_text d) + size_rule j g q))
    unfolding seller_text
    seller_there e o h n m k =
        let a = days_again d (from_rule j g q R) o h in
        let f : seller_days (drop st.used s) ≡ a.got = ap seller_days e ∙ a.read in
        let y = seller_yes n m k (rw f (omega (a.long, some_digits d, arith))) in
        rw (seller_as s st, y, f) (seller_ends (heads is_digit (from_rule j g q R)) refl a)

    seller_not : drop st.used s ≡ from_rule j g q R → Step (seller_at s st) st (st.used + size_rule j g q)
    seller_not e = rw (seller_as s st) (seller_absent e (takes_seller s st) refl)

-- ---- the previous last

pub record PreviousAgain (q : Price) (R : List ℕ) : Type 0 where
  pub got : PriceRead
  pub read : previous_in (previous_text q ++ R) ≡ Some got
  pub exact : 13 + got.used ≡ length (previous_text q)
  pub value : units got.price ≡ units q

pub previous_again : (q : Price) (R : List ℕ) → Sound q → 1 ≤ q.n → PreviousAgain q R
unfolding previous_in previous_text closed_by starts pick
previous_again q R h o =
    let t = price_text Full q in
    let a = price_again q h o (bytes ">>" ++ R) in
    let x = a.exact (pair_ends R) in
    let e : ((bytes ">>PREV.LAST" ++ t) ++ bytes ">>") ++ R ≡ bytes ">>PREV.LAST" ++ (t ++ (bytes ">>" ++ R)) = append_assoc (bytes ">>PREV.LAST" ++ t) (bytes ">>") R in
    let f : drop a.got.used (t ++ (bytes ">>" ++ R)) ≡ bytes ">>" ++ R = ap (λ n. drop n (t ++ (bytes ">>" ++ R))) x.0 ∙ drop-append_seam t (bytes ">>" ++ R) in
    record {
      got = a.got;
      read = ap (λ z. pick (starts (bytes ">>PREV.LAST") z) (closed_by (drop 11 z) (price_at (drop 11 z))) None) e ∙ rw (a.read, f);
      exact = omega (x.0, length-append (bytes ">>PREV.LAST" ++ t) (bytes ">>"), length-append (bytes ">>PREV.LAST") t, arith);
      value = x.1;
    }

module _ (s : List ℕ) (st : Taken) where
  abbrev pub with_previous : PriceRead → Taken
  with_previous p = previous_by st (Some p)

  pub previous_there : (q : Price) (R : List ℕ) → drop st.used s ≡ previous_text q ++ R → (a : PreviousAgain q R) → st.count < 4 → st.b ≡ true → previous_at s st ≡ with_previous a.got
  unfolding previous_at pick
  previous_there q R e a n b = rw (sym (is_lt st.count 4 n), b, e, a.read)

previous_reached : (st : Taken) (q : Price) (R : List ℕ) (a : PreviousAgain q R) → st.used + length (previous_text q) ≤ (previous_by st (Some a.got)).used
unfolding previous_by further
previous_reached st q R a = omega (a.exact, arith)

-- ---- all of them

pub used_is : (f : Bool) (P : List ℕ) (st : Taken) (x : Side) (n : ℕ) (a b : Bool) → length P ≡ n → (pick f (further st x n a b) st).used ≡ st.used + length (opt f P)
unfolding pick opt further
used_is true P st x n a b e = ap (λ k. st.used + k) (sym e)
used_is false P st x n a b e = omega arith

pub count_is : (f : Bool) (st : Taken) (x : Side) (n : ℕ) (a b : Bool) → (pick f (further st x n a b) st).count ≡ st.count + one f
unfolding pick further
count_is true st x n a b = refl
count_is false st x n a b = omega arith

-- what the rest of a line's letters asks: the conditions of a side from SELLER on, and those before it
pub record May (st : Taken) (ahead : ℕ) (r : Bool) (d : ℕ) (j g : Bool) (q : Price) : Type 0 where
  pub few : st.count + (ahead + (one r + (one j + one g))) ≤ 4
  pub days : r ≡ true → (1 ≤ d) × (d < 10 ^ 3)
  pub no_next : r ≡ true → st.side.letters.m ≡ false
  pub no_cash : r ≡ true → st.side.letters.k ≡ false
  pub rule_on_a : j ≡ true → st.a ≡ true
  pub previous_on_b : g ≡ true → st.b ≡ true
  pub apart : (j && g) ≡ false
  pub sound : g ≡ true → Sound q
  pub some : g ≡ true → 1 ≤ q.n

pub room : (f : Bool) (st : Taken) (more : ℕ) → st.count + (one f + more) ≤ 4 → f ≡ true → st.count < 4
unfolding pick
room true st more h z = omega (h, arith)
room false st more h z = absurd (false_true z)

pub dropped_all : (s P X : List ℕ) (n : ℕ) → drop n s ≡ P ++ X → drop (n + length P) s ≡ X
dropped_all s P X n h = sym (drop-drop (length P) n s) ∙ ap (drop (length P)) h ∙ drop-append_seam P X

module _ (st : Taken) (d : ℕ) where
  abbrev pub sold : Taken
  sold = sold_by st (record { count = length (decimal d); value = d })

  pub seller_used : sold.used ≡ st.used + length (seller_text d)
  unfolding sold_by further seller_text
  seller_used = omega (length-append (bytes "SELLER") (decimal d), arith)

  seller_room : (j g : Bool) → st.count + (0 + (one true + (one j + one g))) ≤ 4 → sold.count + (one j + one g) ≤ 4
  unfolding sold_by further pick
  seller_room j g h = omega (h, arith)

  pub seller_a : st.a ≡ true → sold.a ≡ true
  unfolding sold_by further
  seller_a h = h

  pub seller_b : st.b ≡ true → sold.b ≡ true
  unfolding sold_by further
  seller_b h = h

module _ (s : List ℕ) where
  covers_previous : (st : Taken) (g : Bool) (q : Price) (R : List ℕ) → drop st.used s ≡ from_previous g q R → st.count + one g ≤ 4 → (g ≡ true → st.b ≡ true) → (g ≡ true → Sound q) → (g ≡ true → 1 ≤ q.n) → st.used + size_previous g q ≤ (previous_at s st).used
  unfolding opt pick
  covers_previous st true q R e n b h o =
      let a = previous_again q R (h refl) (o refl) in
      rw (previous_there s st q R e a (omega (n, arith)) (b refl)) (previous_reached st q R a)
  covers_previous st false q R e n b h o = omega (previous_on s st, arith)

  rule_keeps : (st : Taken) (j g : Bool) → (j && g) ≡ false → (g ≡ true → st.b ≡ true) → g ≡ true → (pick j (with_rule s st) st).b ≡ true
  unfolding pick
  rule_keeps st true g x b z = absurd (false_true (sym x ∙ z))
  rule_keeps st false g x b z = b z

  -- from RULE127 on
  covers_rule : (st : Taken) (j g : Bool) (q : Price) (R : List ℕ) → drop st.used s ≡ from_rule j g q R → st.count + (one j + one g) ≤ 4 → (j ≡ true → st.a ≡ true) → (g ≡ true → st.b ≡ true) → (j && g) ≡ false → (g ≡ true → Sound q) → (g ≡ true → 1 ≤ q.n) → st.used + size_rule j g q ≤ (previous_at s (rule_at s st)).used
  covers_rule st j g q R e n a b x h o = go (rule_step s st j (from_previous g q R) (size_previous g q) (λ z. room j st (one g) n z) e a (clear_rule 0 q R g))
    where
      go : Step (rule_at s st) (pick j (with_rule s st) st) (st.used + (length (opt j (bytes "RULE127")) + size_previous g q)) → st.used + size_rule j g q ≤ (previous_at s (rule_at s st)).used
      go (over l) = omega (l, previous_on s (rule_at s st), arith)
      go (on w) =
          let u = used_is j (bytes "RULE127") st (side_with st.side (plus_rule st.side.letters) st.side.days st.side.previous) 7 st.a false refl in
          let c = count_is j st (side_with st.side (plus_rule st.side.letters) st.side.days st.side.previous) 7 st.a false in
          let l = covers_previous (pick j (with_rule s st) st) g q R (ap (λ k. drop k s) u ∙ dropped s (bytes "RULE127") (from_previous g q R) st.used j e) (omega (c, n, arith)) (rule_keeps st j g x b) h o in
          rw w (omega (l, u, arith))

  seller_covered : (st : Taken) (d : ℕ) (j g : Bool) (q : Price) (R : List ℕ) → drop st.used s ≡ seller_text d ++ from_rule j g q R → May st 0 true d j g q → Step (seller_at s st) (with_seller s st d) (st.used + (length (seller_text d) + size_rule j g q)) → st.used + (length (seller_text d) + size_rule j g q) ≤ (previous_at s (rule_at s (seller_at s st))).used
  seller_covered st d j g q R e m (over l) = omega (l, rule_on s (seller_at s st), previous_on s (rule_at s (seller_at s st)), arith)
  seller_covered st d j g q R e m (on w) =
      let u = seller_used st d in
      let l = covers_rule (with_seller s st d) j g q R (ap (λ k. drop k s) u ∙ dropped_all s (seller_text d) (from_rule j g q R) st.used e) (seller_room st d j g m.few) (λ z. seller_a st d (m.rule_on_a z)) (λ z. seller_b st d (m.previous_on_b z)) m.apart m.sound m.some in
      rw w (omega (l, u, arith))

  seller_passed : (st : Taken) (d : ℕ) (j g : Bool) (q : Price) (R : List ℕ) → drop st.used s ≡ from_rule j g q R → May st 0 false d j g q → Step (seller_at s st) st (st.used + size_rule j g q) → st.used + size_rule j g q ≤ (previous_at s (rule_at s (seller_at s st))).used
  unfolding pick
  seller_passed st d j g q R e m (over l) = omega (l, rule_on s (seller_at s st), previous_on s (rule_at s (seller_at s st)), arith)
  seller_passed st d j g q R e m (on w) = rw w (covers_rule st j g q R e (omega (m.few, arith)) m.rule_on_a m.previous_on_b m.apart m.sound m.some)

  -- from SELLER on
  covers_seller : (st : Taken) (r : Bool) (d : ℕ) (j g : Bool) (q : Price) (R : List ℕ) → drop st.used s ≡ from_seller r d j g q R → May st 0 r d j g q → st.used + size_seller r d j g q ≤ (at_end_at s st).used
  unfolding at_end_at opt pick
  covers_seller st true d j g q R e m = seller_covered st d j g q R e m (seller_there s st d j g q R e (m.days refl).0 (m.days refl).1 (omega (m.few, arith)) (m.no_next refl) (m.no_cash refl))
  covers_seller st false d j g q R e m = omega (seller_passed st d j g q R e m (seller_not s st d j g q R e), arith)

  end_on : (st : Taken) → st.used ≤ (at_end_at s st).used
  unfolding at_end_at
  end_on st = omega (seller_on s st, rule_on s (seller_at s st), previous_on s (rule_at s (seller_at s st)), arith)

  stopped_may : (st : Taken) (t r : Bool) (d : ℕ) (j g : Bool) (q : Price) → May st (one t) r d j g q → May (pick t (with_stopped s st) st) 0 r d j g q
  unfolding pick further side_with plus_stopped
  stopped_may st true r d j g q m = record { few = omega (m.few, arith); days = m.days; no_next = m.no_next; no_cash = m.no_cash; rule_on_a = m.rule_on_a; previous_on_b = m.previous_on_b; apart = m.apart; sound = m.sound; some = m.some }
  stopped_may st false r d j g q m = m

  average_may : (st : Taken) (b t r : Bool) (d : ℕ) (j g : Bool) (q : Price) → May st (one b + one t) r d j g q → May (pick b (with_average s st) st) (one t) r d j g q
  unfolding pick further side_with plus_average
  average_may st true t r d j g q m = record { few = omega (m.few, arith); days = m.days; no_next = m.no_next; no_cash = m.no_cash; rule_on_a = m.rule_on_a; previous_on_b = m.previous_on_b; apart = m.apart; sound = m.sound; some = m.some }
  average_may st false t r d j g q m = record { few = omega (m.few, arith); days = m.days; no_next = m.no_next; no_cash = m.no_cash; rule_on_a = m.rule_on_a; previous_on_b = m.previous_on_b; apart = m.apart; sound = m.sound; some = m.some }

  cash_may : (st : Taken) (k b t r : Bool) (d : ℕ) (j g : Bool) (q : Price) → May st (one k + (one b + one t)) r d j g q → (k && r) ≡ false → May (pick k (with_cash s st) st) (one b + one t) r d j g q
  unfolding pick further side_with plus_cash
  cash_may st true b t r d j g q m x = record { few = omega (m.few, arith); days = m.days; no_next = m.no_next; no_cash = λ z. absurd (false_true (sym x ∙ z)); rule_on_a = m.rule_on_a; previous_on_b = m.previous_on_b; apart = m.apart; sound = m.sound; some = m.some }
  cash_may st false b t r d j g q m x = record { few = omega (m.few, arith); days = m.days; no_next = m.no_next; no_cash = m.no_cash; rule_on_a = m.rule_on_a; previous_on_b = m.previous_on_b; apart = m.apart; sound = m.sound; some = m.some }

  -- from t on
  covers_stopped : (st : Taken) (t r : Bool) (d : ℕ) (j g : Bool) (q : Price) (R : List ℕ) → drop st.used s ≡ from_stopped t r d j g q R → May st (one t) r d j g q → st.used + size_stopped t r d j g q ≤ (at_end_at s (stopped_at s st)).used
  covers_stopped st t r d j g q R e m = go (stopped_step s st t (from_seller r d j g q R) (size_seller r d j g q) (room t st _ m.few) e (clear_stopped d q R r j g))
    where
      go : Step (stopped_at s st) (pick t (with_stopped s st) st) (st.used + (length (opt t (bytes "t")) + size_seller r d j g q)) → st.used + size_stopped t r d j g q ≤ (at_end_at s (stopped_at s st)).used
      go (over l) = omega (l, end_on (stopped_at s st), arith)
      go (on w) =
          let u = used_is t (bytes "t") st (side_with st.side (plus_stopped st.side.letters) st.side.days st.side.previous) 1 st.a st.b refl in
          let l = covers_seller (pick t (with_stopped s st) st) r d j g q R (ap (λ k. drop k s) u ∙ dropped s (bytes "t") (from_seller r d j g q R) st.used t e) (stopped_may st t r d j g q m) in
          rw w (omega (l, u, arith))

  -- from ,b on
  covers_average : (st : Taken) (b t r : Bool) (d : ℕ) (j g : Bool) (q : Price) (R : List ℕ) → drop st.used s ≡ from_average b t r d j g q R → May st (one b + one t) r d j g q → st.used + size_average b t r d j g q ≤ (at_end_at s (stopped_at s (average_at s st))).used
  covers_average st b t r d j g q R e m = go (average_step s st b (from_stopped t r d j g q R) (size_stopped t r d j g q) (λ z. room b st (one t + (one r + (one j + one g))) (omega (m.few, arith)) z) e (clear_average d q R t r j g))
    where
      go : Step (average_at s st) (pick b (with_average s st) st) (st.used + (length (opt b (bytes ",b")) + size_stopped t r d j g q)) → st.used + size_average b t r d j g q ≤ (at_end_at s (stopped_at s (average_at s st))).used
      go (over l) = omega (l, stopped_on s (average_at s st), end_on (stopped_at s (average_at s st)), arith)
      go (on w) =
          let u = used_is b (bytes ",b") st (side_with st.side (plus_average st.side.letters) st.side.days st.side.previous) 2 st.a st.b refl in
          let l = covers_stopped (pick b (with_average s st) st) t r d j g q R (ap (λ k. drop k s) u ∙ dropped s (bytes ",b") (from_stopped t r d j g q R) st.used b e) (average_may st b t r d j g q m) in
          rw w (omega (l, u, arith))

  -- THE WHOLE TAIL, AT LEAST
  pub covers_tail : (st : Taken) (k b t r : Bool) (d : ℕ) (j g : Bool) (q : Price) (R : List ℕ) → drop st.used s ≡ opt k (bytes ",c") ++ from_average b t r d j g q R → May st (one k + (one b + one t)) r d j g q → (k ≡ true → st.side.letters.m ≡ false) → (k && r) ≡ false
      → st.used + (length (opt k (bytes ",c")) + size_average b t r d j g q) ≤ (tail_at s st).used
  unfolding tail_at after_price_at
  covers_tail st k b t r d j g q R e m n x = go (cash_step s st k (from_average b t r d j g q R) (size_average b t r d j g q) (λ z. room k st (one b + one t + (one r + (one j + one g))) (omega (m.few, arith)) z) e n (clear_cash d q R b t r j g))
    where
      go : Step (cash_at s st) (pick k (with_cash s st) st) (st.used + (length (opt k (bytes ",c")) + size_average b t r d j g q)) → st.used + (length (opt k (bytes ",c")) + size_average b t r d j g q) ≤ (at_end_at s (stopped_at s (average_at s (cash_at s st)))).used
      go (over l) = omega (l, average_on s (cash_at s st), stopped_on s (average_at s (cash_at s st)), end_on (stopped_at s (average_at s (cash_at s st))), arith)
      go (on w) =
          let u = used_is k (bytes ",c") st (side_with st.side (plus_cash st.side.letters) st.side.days st.side.previous) 2 st.a st.b refl in
          let l = covers_average (pick k (with_cash s st) st) b t r d j g q R (ap (λ i. drop i s) u ∙ dropped s (bytes ",c") (from_average b t r d j g q R) st.used k e) (cash_may st k b t r d j g q m x) in
          rw w (omega (l, u, arith))

  pub tail_forward : (st : Taken) → st.used ≤ (tail_at s st).used
  unfolding tail_at after_price_at
  tail_forward st = omega (cash_on s st, average_on s (cash_at s st), stopped_on s (average_at s (cash_at s st)), end_on (stopped_at s (average_at s (cash_at s st))), arith)
