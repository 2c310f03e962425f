-- What a tail leaves as it was: the letters before the price, volume and price; a network that still explains the print did before. Assumes nothing.
use Prim.Native.Nat.{ℕ, ◌+◌}
use native.Mathlib.Omega.{arith}
use mathlib.Core.Path.{◌≡◌, refl, sym, ◌∙◌}
use mathlib.Core.Bool.{Bool, true, false, ◌&&◌, ◌||◌}
use mathlib.Core.List.{List}
use lib.ListN.{drop}
use lib.Dec.{eqb, ltb}
use Rattle.std.specs.Prelude.{Option, Some, None}
use Rattle.text.specs.Pick.{pick}
use Rattle.text.proofs.Texts.{and_left, and_right}
use Rattle.text.proofs.Booleans.{or_first}
use Rattle.rules.specs.declared.Letters.{Letters}
use Rattle.rules.specs.declared.Price.{Price}
use Rattle.rules.specs.declared.Side.{Side}
use Rattle.read_price.specs.declared.Digits.{Digits}
use Rattle.read_price.specs.declared.PriceRead.{PriceRead}
use Rattle.read_conditions.specs.declared.Taken.{Taken}
use Rattle.read_conditions.specs.Tail.{plus_cash, plus_average, plus_stopped, plus_seller, plus_rule, plus_previous, side_with, further, takes_cash, cash_at, takes_average, average_at, takes_stopped, stopped_at, seller_days, seller_by, seller_at, takes_rule, rule_at, previous_in, previous_by, previous_at, after_price_at, at_end_at, tail_at}
use Rattle.read_conditions.proofs.Standing.{kept, cash_keeps, average_keeps, stopped_keeps, seller_keeps, rule_keeps}

-- ---- of the side

module _ {A : Type 0} (f : Side → A) where
  by_previous_keeps : (st : Taken) → ((p : Price) → f (side_with st.side (plus_previous st.side.letters) st.side.days p) ≡ f st.side) → (x : Option PriceRead) → f (previous_by st x).side ≡ f st.side
  unfolding previous_by further
  by_previous_keeps st h None = refl
  by_previous_keeps st h (Some p) = h p.price

  pub previous_keeps : (s : List ℕ) (st : Taken) → ((p : Price) → f (side_with st.side (plus_previous st.side.letters) st.side.days p) ≡ f st.side) → f (previous_at s st).side ≡ f st.side
  unfolding previous_at
  previous_keeps s st h = kept f s st _ (previous_by st (previous_in (drop st.used s))) (by_previous_keeps st h (previous_in (drop st.used s)))

  -- no letter of the tail, with its days or previous last, is seen by f
  pub record Apart : Type 0 where
    pub cash : (y : Side) → f (side_with y (plus_cash y.letters) y.days y.previous) ≡ f y
    pub average : (y : Side) → f (side_with y (plus_average y.letters) y.days y.previous) ≡ f y
    pub stopped : (y : Side) → f (side_with y (plus_stopped y.letters) y.days y.previous) ≡ f y
    pub seller : (y : Side) (n : ℕ) → f (side_with y (plus_seller y.letters) n y.previous) ≡ f y
    pub rule : (y : Side) → f (side_with y (plus_rule y.letters) y.days y.previous) ≡ f y
    pub last : (y : Side) (p : Price) → f (side_with y (plus_previous y.letters) y.days p) ≡ f y

  pub tail_keeps : (s : List ℕ) (st : Taken) → Apart → f (tail_at s st).side ≡ f st.side
  unfolding tail_at at_end_at after_price_at
  tail_keeps s st h =
      let v = cash_at s st in
      let w = average_at s v in
      let x = stopped_at s w in
      let y = seller_at s x in
      let z = rule_at s y in
      previous_keeps s z (h.last z.side)
      ∙ (rule_keeps f s y (h.rule y.side)
      ∙ (seller_keeps f s x (h.seller x.side)
      ∙ (stopped_keeps f s w (h.stopped w.side)
      ∙ (average_keeps f s v (h.average v.side)
      ∙ cash_keeps f s st (h.cash st.side)))))

module _ (s : List ℕ) (st : Taken) where
  pub tail_volume : (tail_at s st).side.volume ≡ st.side.volume
  unfolding side_with
  tail_volume = tail_keeps (λ x. x.volume) s st (record { cash = λ y. refl; average = λ y. refl; stopped = λ y. refl; seller = λ y n. refl; rule = λ y. refl; last = λ y p. refl })

  pub tail_price : (tail_at s st).side.price ≡ st.side.price
  unfolding side_with
  tail_price = tail_keeps (λ x. x.price) s st (record { cash = λ y. refl; average = λ y. refl; stopped = λ y. refl; seller = λ y n. refl; rule = λ y. refl; last = λ y p. refl })

  -- a letter that no condition of the tail shows
  letter : (f : Letters → Bool) → ((x : Letters) → f (plus_cash x) ≡ f x) → ((x : Letters) → f (plus_average x) ≡ f x) → ((x : Letters) → f (plus_stopped x) ≡ f x) → ((x : Letters) → f (plus_seller x) ≡ f x) → ((x : Letters) → f (plus_rule x) ≡ f x) → ((x : Letters) → f (plus_previous x) ≡ f x) → f (tail_at s st).side.letters ≡ f st.side.letters
  unfolding side_with
  letter f a b c d e g = tail_keeps (λ x. f x.letters) s st (record { cash = λ y. a y.letters; average = λ y. b y.letters; stopped = λ y. c y.letters; seller = λ y n. d y.letters; rule = λ y. e y.letters; last = λ y p. g y.letters })

  pub tail_o : (tail_at s st).side.letters.o ≡ st.side.letters.o
  unfolding plus_cash plus_average plus_stopped plus_seller plus_rule plus_previous
  tail_o = letter (λ x. x.o) (λ x. refl) (λ x. refl) (λ x. refl) (λ x. refl) (λ x. refl) (λ x. refl)

  pub tail_s : (tail_at s st).side.letters.s ≡ st.side.letters.s
  unfolding plus_cash plus_average plus_stopped plus_seller plus_rule plus_previous
  tail_s = letter (λ x. x.s) (λ x. refl) (λ x. refl) (λ x. refl) (λ x. refl) (λ x. refl) (λ x. refl)

  pub tail_l : (tail_at s st).side.letters.l ≡ st.side.letters.l
  unfolding plus_cash plus_average plus_stopped plus_seller plus_rule plus_previous
  tail_l = letter (λ x. x.l) (λ x. refl) (λ x. refl) (λ x. refl) (λ x. refl) (λ x. refl) (λ x. refl)

  pub tail_n : (tail_at s st).side.letters.n ≡ st.side.letters.n
  unfolding plus_cash plus_average plus_stopped plus_seller plus_rule plus_previous
  tail_n = letter (λ x. x.n) (λ x. refl) (λ x. refl) (λ x. refl) (λ x. refl) (λ x. refl) (λ x. refl)

  pub tail_m : (tail_at s st).side.letters.m ≡ st.side.letters.m
  unfolding plus_cash plus_average plus_stopped plus_seller plus_rule plus_previous
  tail_m = letter (λ x. x.m) (λ x. refl) (λ x. refl) (λ x. refl) (λ x. refl) (λ x. refl) (λ x. refl)

  pub tail_c : (tail_at s st).side.letters.c ≡ st.side.letters.c
  unfolding plus_cash plus_average plus_stopped plus_seller plus_rule plus_previous
  tail_c = letter (λ x. x.c) (λ x. refl) (λ x. refl) (λ x. refl) (λ x. refl) (λ x. refl) (λ x. refl)

-- ---- of the networks

pub record Explained (st next : Taken) : Type 0 where
  pub a_was : next.a ≡ true → st.a ≡ true
  pub b_was : next.b ≡ true → st.b ≡ true
  pub some : (st.a || st.b) ≡ true → (next.a || next.b) ≡ true

alike : (st next : Taken) → next.a ≡ st.a → next.b ≡ st.b → Explained st next
alike st next e f = record { a_was = λ h. sym e ∙ h; b_was = λ h. sym f ∙ h; some = λ h. rw (e, f) h }

both : (st x y : Taken) → Explained st x → Explained x y → Explained st y
both st x y h k = record { a_was = λ q. h.a_was (k.a_was q); b_was = λ q. h.b_was (k.b_was q); some = λ q. k.some (h.some q) }

chosen : (t : Bool) (st y : Taken) → (t ≡ true → Explained st y) → Explained st (pick t y st)
unfolding pick
chosen true st y h = h refl
chosen false st y h = alike st st refl refl

never : false ≡ true → ⊥
never e = let z : ◌≡◌ {A = ℕ} 0 1 = cc in omega arith

module _ (s : List ℕ) (st : Taken) where
  cash_explained : Explained st (cash_at s st)
  unfolding cash_at further
  cash_explained = chosen (takes_cash s st) st _ (λ h. alike st _ refl refl)

  average_explained : Explained st (average_at s st)
  unfolding average_at further
  average_explained = chosen (takes_average s st) st _ (λ h. alike st _ refl refl)

  stopped_explained : Explained st (stopped_at s st)
  unfolding stopped_at further
  stopped_explained = chosen (takes_stopped s st) st _ (λ h. alike st _ refl refl)

  by_seller_explained : (d : Digits) → Explained st (seller_by st d)
  unfolding seller_by further pick
  by_seller_explained d = go (eqb d.count 0)
    where
      go : (b : Bool) → Explained st (pick b st (further st (side_with st.side (plus_seller st.side.letters) d.value st.side.previous) (6 + d.count) st.a st.b))
      go true = alike st st refl refl
      go false = alike st _ refl refl

  seller_explained : Explained st (seller_at s st)
  unfolding seller_at
  seller_explained = chosen _ st _ (λ h. by_seller_explained (seller_days (drop st.used s)))

  rule_explained : Explained st (rule_at s st)
  unfolding rule_at takes_rule further
  rule_explained = chosen (takes_rule s st) st _ (λ h. record { a_was = λ q. q; b_was = λ q. absurd (never q); some = λ q. or_first st.a false (and_left st.a _ (and_right (ltb st.count 4) _ h)) })

  by_previous_explained : st.b ≡ true → (x : Option PriceRead) → Explained st (previous_by st x)
  unfolding previous_by further
  by_previous_explained h None = alike st st refl refl
  by_previous_explained h (Some p) = record { a_was = λ q. absurd (never q); b_was = λ q. q; some = λ q. h }

  previous_explained : Explained st (previous_at s st)
  unfolding previous_at
  previous_explained = chosen (ltb st.count 4 && st.b) st _ (λ h. by_previous_explained (and_right (ltb st.count 4) st.b h) (previous_in (drop st.used s)))

-- A NETWORK THAT EXPLAINS the print did before, and some network still does
pub tail_explained : (s : List ℕ) (st : Taken) → Explained st (tail_at s st)
unfolding tail_at at_end_at after_price_at
tail_explained s st =
    let v = cash_at s st in
    let w = average_at s v in
    let x = stopped_at s w in
    let y = seller_at s x in
    let z = rule_at s y in
    both st v (previous_at s z) (cash_explained s st) (both v w (previous_at s z) (average_explained s v) (both w x (previous_at s z) (stopped_explained s w) (both x y (previous_at s z) (seller_explained s x) (both y z (previous_at s z) (rule_explained s y) (previous_explained s z)))))
