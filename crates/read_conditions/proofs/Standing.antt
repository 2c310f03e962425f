-- What a tail takes is what stands there: the text of its conditions. Assumes nothing.
use Prim.Native.Nat.{ℕ, ◌+◌, ◌-◌, ◌≤◌}
use native.Mathlib.Nat.{sub_self}
use native.Mathlib.Omega.{arith}
use mathlib.Core.Path.{◌≡◌, refl, sym, ap, ◌∙◌}
use mathlib.Core.Bool.{Bool, true, false, ◌||◌, not}
use mathlib.Core.List.{List, [], ◌∷◌, ◌++◌, append_assoc, append-nil}
use lib.ListN.{length, take, drop, length-drop}
use lib.Seq.{take-add, drop-drop}
use lib.Dec.{eqb, ltb}
use borrow.Author.Tests.{eqb-true, eqb-false}
use Rattle.std.specs.Prelude.{Option, Some, None}
use Rattle.text.specs.Bytes.{bytes}
use Rattle.text.specs.Pick.{pick, opt}
use Rattle.text.specs.Decimal.{decimal}
use Rattle.text.specs.Reading.{starts}
use Rattle.text.proofs.Texts.{and_right}
use Rattle.text.proofs.Booleans.{or_true}
use Rattle.text.proofs.Parts.{starts_front, starts_within}
use Rattle.rules.specs.Price.{price_text}
use Rattle.rules.specs.Conditions.{after_price, seller_text, previous_text, at_end}
use Rattle.rules.specs.Side.{tail_text}
use Rattle.rules.specs.declared.Letters.{Letters}
use Rattle.rules.specs.declared.Side.{Side}
use Rattle.read_price.specs.declared.Digits.{Digits}
use Rattle.read_price.specs.declared.PriceRead.{PriceRead}
use Rattle.read_price.specs.Digits.{digits_at, zero_first}
use Rattle.read_price.proofs.Text.{digits_decimal, price_text_lem}
use Rattle.read_conditions.specs.declared.Taken.{Taken}
use Rattle.read_conditions.specs.Tail.{plus_cash, plus_average, plus_stopped, plus_seller, plus_rule, plus_previous, side_with, further, takes_cash, cash_at, takes_average, average_at, takes_stopped, stopped_at, seller_days, seller_by, seller_at, takes_rule, rule_at, previous_in, previous_by, previous_at, after_price_at, at_end_at, tail_at}
use Rattle.read_conditions.proofs.Steps.{seller_found, previous_found, previous_length}
use Rattle.rules.specs.declared.PriceForm.TheVariants.{Full}

-- ---- texts in the part s from u on

-- n bytes at u are the text p
pub record Stands (s : List ℕ) (u n : ℕ) (p : List ℕ) : Type 0 where
  pub room : u + n ≤ length s
  pub text : take n (drop u s) ≡ p

-- the bytes from u to those that st has used are the text
pub record Reads (s : List ℕ) (u : ℕ) (st : Taken) (text : List ℕ) : Type 0 where
  pub from : u ≤ st.used
  pub within : st.used ≤ length s
  pub is : take (st.used - u) (drop u s) ≡ text

grown : (s : List ℕ) (u n : ℕ) (st next : Taken) (text p : List ℕ) → Reads s u st text → Stands s st.used n p → next.used ≡ st.used + n → Reads s u next (text ++ p)
grown s u n st next text p r h e =
    let f = r.from in
    let a : next.used - u ≡ st.used - u + n = omega (arith, e, r.from) in
    let b : u + (st.used - u) ≡ st.used = omega (arith, r.from) in
    record {
      from = omega (arith, e, r.from);
      within = omega (arith, e, h.room);
      is = rw (a, take-add (st.used - u) n (drop u s), drop-drop (st.used - u) u s, b, r.is, h.text);
    }

starting : (s : List ℕ) (st : Taken) → st.used ≤ length s → Reads s st.used st []
starting s st h = record { from = omega arith; within = h; is = rw (sub_self st.used) }

standing : (s p : List ℕ) (u : ℕ) → starts p (drop u s) ≡ true → 1 ≤ length p → Stands s u (length p) p
standing s p u h n = record { room = omega (arith, starts_within p (drop u s) h, length-drop u s); text = starts_front p (drop u s) h }

-- a step by the test t; the text of a side is T before it, and N after it
module _ (s : List ℕ) (u : ℕ) (st : Taken) (T N : Side → List ℕ) (x : Side) (n : ℕ) (p : List ℕ) (a b : Bool) where
  stepped : (t : Bool) → (t ≡ true → Stands s st.used n p) → N x ≡ T st.side ++ p → N st.side ≡ T st.side → Reads s u st (T st.side) → Reads s u (pick t (further st x n a b) st) (N (pick t (further st x n a b) st).side)
  unfolding pick further
  stepped true h e f r = rw e (grown s u n st (record { side = x; used = st.used + n; count = st.count + 1; a = a; b = b }) (T st.side) p r (h refl) refl)
  stepped false h e f r = rw f r

none_more : (t : List ℕ) (b : Bool) (p : List ℕ) → b ≡ false → t ++ opt b p ≡ t
unfolding opt
none_more t b p e = rw (e, append-nil)

-- ---- the texts one after the other

unfoldable pub cash_text : Side → List ℕ
cash_text x = opt (x.letters.c || x.letters.k) (bytes ",c")

unfoldable pub average_text : Side → List ℕ
average_text x = cash_text x ++ opt x.letters.b (bytes ",b")

unfoldable pub stopped_text : Side → List ℕ
stopped_text x = average_text x ++ opt x.letters.t (bytes "t")

unfoldable pub days_text : Side → List ℕ
days_text x = stopped_text x ++ opt x.letters.r (seller_text x.days)

unfoldable pub rule_text : Side → List ℕ
rule_text x = days_text x ++ opt x.letters.j (bytes "RULE127")

unfoldable pub last_text : Side → List ℕ
last_text x = rule_text x ++ opt x.letters.g (previous_text x.previous)

last_is : (x : Side) → last_text x ≡ tail_text x
unfolding last_text rule_text days_text stopped_text average_text cash_text tail_text after_price at_end
last_is x = simp append_assoc

-- no letter of the tail is taken yet
pub record Bare (x : Letters) : Type 0 where
  pub no_c : x.c ≡ false
  pub no_k : x.k ≡ false
  pub no_b : x.b ≡ false
  pub no_t : x.t ≡ false
  pub no_r : x.r ≡ false
  pub no_j : x.j ≡ false
  pub no_g : x.g ≡ false

module _ (s : List ℕ) (u : ℕ) (st : Taken) where
  cash_stands : takes_cash s st ≡ true → Stands s st.used 2 (bytes ",c")
  unfolding takes_cash
  cash_stands h = standing s (bytes ",c") st.used (and_right (not st.side.letters.m) _ (and_right (ltb st.count 4) _ h)) (omega arith)

  cash_reads : st.side.letters.c ≡ false → st.side.letters.k ≡ false → Reads s u st [] → Reads s u (cash_at s st) (cash_text (cash_at s st).side)
  unfolding cash_at cash_text side_with plus_cash opt
  cash_reads c k r = stepped s u st (λ x. []) cash_text (side_with st.side (plus_cash st.side.letters) st.side.days st.side.previous) 2 (bytes ",c") st.a st.b (takes_cash s st) cash_stands (ap (λ b. opt b (bytes ",c")) (or_true st.side.letters.c)) (ap (λ b. opt b (bytes ",c")) (both st.side.letters.c st.side.letters.k c k)) r
    where
      both : (b d : Bool) → b ≡ false → d ≡ false → (b || d) ≡ false
      both b d e f = rw (e, f)

  average_stands : takes_average s st ≡ true → Stands s st.used 2 (bytes ",b")
  unfolding takes_average
  average_stands h = standing s (bytes ",b") st.used (and_right (ltb st.count 4) _ h) (omega arith)

  average_reads : st.side.letters.b ≡ false → Reads s u st (cash_text st.side) → Reads s u (average_at s st) (average_text (average_at s st).side)
  unfolding average_at average_text cash_text side_with plus_average opt
  average_reads b r = stepped s u st cash_text average_text (side_with st.side (plus_average st.side.letters) st.side.days st.side.previous) 2 (bytes ",b") st.a st.b (takes_average s st) average_stands refl (none_more (cash_text st.side) st.side.letters.b (bytes ",b") b) r

  stopped_stands : takes_stopped s st ≡ true → Stands s st.used 1 (bytes "t")
  unfolding takes_stopped
  stopped_stands h = standing s (bytes "t") st.used (and_right (ltb st.count 4) _ h) (omega arith)

  stopped_reads : st.side.letters.t ≡ false → Reads s u st (average_text st.side) → Reads s u (stopped_at s st) (stopped_text (stopped_at s st).side)
  unfolding stopped_at stopped_text average_text cash_text side_with plus_stopped opt
  stopped_reads b r = stepped s u st average_text stopped_text (side_with st.side (plus_stopped st.side.letters) st.side.days st.side.previous) 1 (bytes "t") st.a st.b (takes_stopped s st) stopped_stands refl (none_more (average_text st.side) st.side.letters.t (bytes "t") b) r

  rule_stands : takes_rule s st ≡ true → Stands s st.used 7 (bytes "RULE127")
  unfolding takes_rule
  rule_stands h = standing s (bytes "RULE127") st.used (and_right st.a _ (and_right (ltb st.count 4) _ h)) (omega arith)

  rule_reads : st.side.letters.j ≡ false → Reads s u st (days_text st.side) → Reads s u (rule_at s st) (rule_text (rule_at s st).side)
  unfolding rule_at rule_text days_text stopped_text average_text cash_text side_with plus_rule opt
  rule_reads b r = stepped s u st days_text rule_text (side_with st.side (plus_rule st.side.letters) st.side.days st.side.previous) 7 (bytes "RULE127") st.a false (takes_rule s st) rule_stands refl (none_more (days_text st.side) st.side.letters.j (bytes "RULE127") b) r

  -- a step that goes on to y, or stays
  chosen : (N : Side → List ℕ) (t : Bool) (y : Taken) → Reads s u y (N y.side) → Reads s u st (N st.side) → Reads s u (pick t y st) (N (pick t y st).side)
  unfolding pick
  chosen N true y h k = h
  chosen N false y h k = k

-- ---- seller

pub zero_no : (s : List ℕ) → starts (bytes "0") s ≡ false → zero_first s ≡ false
unfolding starts zero_first
zero_no [] h = refl
zero_no (c ∷ s) h = go (eqb c 48) refl
  where
    go : (b : Bool) → eqb c 48 ≡ b → eqb c 48 ≡ false
    go true e = let z : ◌≡◌ {A = Bool} true false = rw (eqb-true c 48 e) at h in absurd (let y : ◌≡◌ {A = ℕ} 0 1 = cc in omega arith)
    go false e = e

seller_text_lem : (s : List ℕ) → 1 ≤ (seller_days s).count → take (6 + (seller_days s).count) s ≡ seller_text (seller_days s).value
unfolding seller_days seller_text pick
seller_text_lem s h = go (starts (bytes "SELLER") s) (starts (bytes "0") (drop 6 s)) refl refl h
  where
    go : (a b : Bool) → starts (bytes "SELLER") s ≡ a → starts (bytes "0") (drop 6 s) ≡ b
        → 1 ≤ (pick a (pick b (record { count = 0; value = 0 }) (digits_at 3 (drop 6 s))) (record { count = 0; value = 0 })).count
        → take (6 + (pick a (pick b (record { count = 0; value = 0 }) (digits_at 3 (drop 6 s))) (record { count = 0; value = 0 })).count) s ≡ bytes "SELLER" ++ decimal (pick a (pick b (record { count = 0; value = 0 }) (digits_at 3 (drop 6 s))) (record { count = 0; value = 0 })).value
    go true true e f l = absurd (omega arith)
    go true false e f l =
        take-add 6 (digits_at 3 (drop 6 s)).count s ∙ rw (starts_front (bytes "SELLER") s e, digits_decimal 3 (drop 6 s) (digits_at 3 (drop 6 s)) refl (zero_no (drop 6 s) f) l)
    go false b e f l = absurd (omega arith)

module _ (s : List ℕ) (u : ℕ) (st : Taken) (b : st.side.letters.r ≡ false) (r : Reads s u st (stopped_text st.side)) where
  stays_seller : Reads s u st (days_text st.side)
  unfolding days_text
  stays_seller = rw (none_more (stopped_text st.side) st.side.letters.r (seller_text st.side.days) b) r

  by_seller : (d : Digits) → d ≡ seller_days (drop st.used s) → Reads s u (seller_by st d) (days_text (seller_by st d).side)
  unfolding seller_by further days_text stopped_text average_text cash_text side_with plus_seller opt pick
  by_seller d e = go (eqb d.count 0) refl
    where
      at : 1 ≤ d.count → Stands s st.used (6 + d.count) (seller_text d.value)
      at n =
          let o : 1 ≤ (seller_days (drop st.used s)).count = rw e at n in
          record {
            room = rw e (omega (arith, (seller_found (drop st.used s)).stands o, length-drop st.used s));
            text = rw e (seller_text_lem (drop st.used s) o);
          }

      new : Taken
      new = further st (side_with st.side (plus_seller st.side.letters) d.value st.side.previous) (6 + d.count) st.a st.b

      go : (c : Bool) → eqb d.count 0 ≡ c → Reads s u (pick c st new) (days_text (pick c st new).side)
      go true q = stays_seller
      go false q = grown s u (6 + d.count) st new (stopped_text st.side) (seller_text d.value) r (at (omega (arith, eqb-false d.count 0 q))) refl

  seller_reads : Reads s u (seller_at s st) (days_text (seller_at s st).side)
  unfolding seller_at
  seller_reads = chosen s u st days_text _ (seller_by st (seller_days (drop st.used s))) (by_seller (seller_days (drop st.used s)) refl) stays_seller

-- ---- previous last

previous_text_lem : (s : List ℕ) (p : PriceRead) → previous_in s ≡ Some p → take (13 + p.used) s ≡ previous_text p.price
unfolding previous_text
previous_text_lem s p h =
    let f = previous_found s p h in
    let n : 13 + p.used ≡ 11 + (p.used + 2) = omega arith in
    rw (n, take-add 11 (p.used + 2) s, take-add p.used 2 (drop 11 s), starts_front (bytes ">>PREV.LAST") s f.opens, price_text_lem (drop 11 s) p f.price, starts_front (bytes ">>") (drop p.used (drop 11 s)) f.closes)
    (sym (append_assoc (bytes ">>PREV.LAST") (price_text Full p.price) (bytes ">>")))

module _ (s : List ℕ) (u : ℕ) (st : Taken) (b : st.side.letters.g ≡ false) (r : Reads s u st (rule_text st.side)) where
  stays_last : Reads s u st (last_text st.side)
  unfolding last_text
  stays_last = rw (none_more (rule_text st.side) st.side.letters.g (previous_text st.side.previous) b) r

  by_last : (x : Option PriceRead) → previous_in (drop st.used s) ≡ x → Reads s u (previous_by st x) (last_text (previous_by st x).side)
  unfolding previous_by further last_text rule_text days_text stopped_text average_text cash_text side_with plus_previous opt
  by_last None e = stays_last
  by_last (Some p) e =
      grown s u (13 + p.used) st (further st (side_with st.side (plus_previous st.side.letters) st.side.days p.price) (13 + p.used) false st.b) (rule_text st.side) (previous_text p.price) r
      (record {
        room = omega (arith, previous_length (drop st.used s) p e, length-drop st.used s);
        text = previous_text_lem (drop st.used s) p e;
      })
      refl

  last_reads : Reads s u (previous_at s st) (last_text (previous_at s st).side)
  unfolding previous_at
  last_reads = chosen s u st last_text _ (previous_by st (previous_in (drop st.used s))) (by_last (previous_in (drop st.used s)) refl) stays_last

-- ---- letters that a step leaves as they were

module _ {A : Type 0} (f : Side → A) (s : List ℕ) (st : Taken) where
  pub kept : (t : Bool) (y : Taken) → f y.side ≡ f st.side → f (pick t y st).side ≡ f st.side
  unfolding pick
  kept true y h = h
  kept false y h = refl

  pub cash_keeps : f (side_with st.side (plus_cash st.side.letters) st.side.days st.side.previous) ≡ f st.side → f (cash_at s st).side ≡ f st.side
  unfolding cash_at further
  cash_keeps h = kept (takes_cash s st) _ h

  pub average_keeps : f (side_with st.side (plus_average st.side.letters) st.side.days st.side.previous) ≡ f st.side → f (average_at s st).side ≡ f st.side
  unfolding average_at further
  average_keeps h = kept (takes_average s st) _ h

  pub stopped_keeps : f (side_with st.side (plus_stopped st.side.letters) st.side.days st.side.previous) ≡ f st.side → f (stopped_at s st).side ≡ f st.side
  unfolding stopped_at further
  stopped_keeps h = kept (takes_stopped s st) _ h

  by_seller_keeps : ((n : ℕ) → f (side_with st.side (plus_seller st.side.letters) n st.side.previous) ≡ f st.side) → (d : Digits) → f (seller_by st d).side ≡ f st.side
  unfolding seller_by further pick
  by_seller_keeps h d = go (eqb d.count 0)
    where
      go : (b : Bool) → f (pick b st (further st (side_with st.side (plus_seller st.side.letters) d.value st.side.previous) (6 + d.count) st.a st.b)).side ≡ f st.side
      go true = refl
      go false = h d.value

  pub seller_keeps : ((n : ℕ) → f (side_with st.side (plus_seller st.side.letters) n st.side.previous) ≡ f st.side) → f (seller_at s st).side ≡ f st.side
  unfolding seller_at
  seller_keeps h = kept _ (seller_by st (seller_days (drop st.used s))) (by_seller_keeps h (seller_days (drop st.used s)))

  pub rule_keeps : f (side_with st.side (plus_rule st.side.letters) st.side.days st.side.previous) ≡ f st.side → f (rule_at s st).side ≡ f st.side
  unfolding rule_at further
  rule_keeps h = kept (takes_rule s st) _ h

-- ---- the whole tail

module _ (s : List ℕ) (st : Taken) (o : Bare st.side.letters) where
  after_reads : (u : ℕ) → Reads s u st [] → Reads s u (after_price_at s st) (stopped_text (after_price_at s st).side)
  unfolding after_price_at side_with plus_cash plus_average
  after_reads u r =
      let x = cash_at s st in
      let y = average_at s x in
      stopped_reads s u y (average_keeps (λ z. z.letters.t) s x refl ∙ (cash_keeps (λ z. z.letters.t) s st refl ∙ o.no_t))
      (average_reads s u x (cash_keeps (λ z. z.letters.b) s st refl ∙ o.no_b)
      (cash_reads s u st o.no_c o.no_k r))

  after_keeps : (f : Side → Bool) → ((y : Side) → f (side_with y (plus_cash y.letters) y.days y.previous) ≡ f y) → ((y : Side) → f (side_with y (plus_average y.letters) y.days y.previous) ≡ f y) → ((y : Side) → f (side_with y (plus_stopped y.letters) y.days y.previous) ≡ f y) → f (after_price_at s st).side ≡ f st.side
  unfolding after_price_at
  after_keeps f h k l =
      let x = cash_at s st in
      let y = average_at s x in
      stopped_keeps f s y (l y.side) ∙ (average_keeps f s x (k x.side) ∙ cash_keeps f s st (h st.side))

  tail_reads : (u : ℕ) → Reads s u st [] → Reads s u (tail_at s st) (tail_text (tail_at s st).side)
  unfolding tail_at at_end_at side_with plus_cash plus_average plus_stopped plus_seller plus_rule
  tail_reads u r =
      let w = after_price_at s st in
      let x = seller_at s w in
      let y = rule_at s x in
      let no_r : w.side.letters.r ≡ false = after_keeps (λ z. z.letters.r) (λ z. refl) (λ z. refl) (λ z. refl) ∙ o.no_r in
      let no_j : w.side.letters.j ≡ false = after_keeps (λ z. z.letters.j) (λ z. refl) (λ z. refl) (λ z. refl) ∙ o.no_j in
      let no_g : w.side.letters.g ≡ false = after_keeps (λ z. z.letters.g) (λ z. refl) (λ z. refl) (λ z. refl) ∙ o.no_g in
      let g = last_reads s u y
      (rule_keeps (λ z. z.letters.g) s x refl ∙ (seller_keeps (λ z. z.letters.g) s w (λ n. refl) ∙ no_g))
      (rule_reads s u x (seller_keeps (λ z. z.letters.j) s w (λ n. refl) ∙ no_j)
      (seller_reads s u w no_r (after_reads u r))) in
      rw (← last_is (previous_at s y).side) g

  -- WHAT A TAIL TAKES is the text of its conditions
  pub tail_text_lem : st.used ≤ length s → take ((tail_at s st).used - st.used) (drop st.used s) ≡ tail_text (tail_at s st).side
  tail_text_lem h = (tail_reads st.used (starting s st h)).is

  pub tail_from : st.used ≤ length s → st.used ≤ (tail_at s st).used
  tail_from h = (tail_reads st.used (starting s st h)).from

  pub tail_within : st.used ≤ length s → (tail_at s st).used ≤ length s
  tail_within h = (tail_reads st.used (starting s st h)).within
