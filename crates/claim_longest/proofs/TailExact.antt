-- The conditions of a side, taken from a tape on which they stand and end: exactly these, or a previous last more. Assumes nothing.
use Prim.Native.Nat.{ℕ, ◌+◌, ◌^◌, ◌≤◌, ◌<◌}
use native.Mathlib.Omega.{arith}
use mathlib.Core.Path.{◌≡◌, refl, sym, ap, ◌∙◌, subst}
use mathlib.Core.Bool.{Bool, true, false, ◌&&◌}
use mathlib.Core.List.{List, ◌++◌}
use lib.Dec.{ltb}
use lib.ListN.{length, drop, length-append}
use Rattle.std.specs.Prelude.{Option, Some, None}
use Rattle.text.specs.Bytes.{bytes}
use Rattle.text.specs.Pick.{pick, opt}
use Rattle.text.specs.Decimal.{decimal}
use Rattle.text.proofs.Decimal.{some_digits}
use Rattle.text.specs.Reading.{starts, heads, is_digit}
use Rattle.text.proofs.Reading.{starts_append}
use Rattle.text.proofs.Booleans.{and_off, false_true}
use Rattle.rules.specs.Conditions.{seller_text, previous_text}
use Rattle.rules.specs.declared.Letters.{Letters}
use Rattle.rules.specs.declared.Price.{Price}
use Rattle.print_price.specs.Sound.{Sound}
use Rattle.line_owed.specs.Shown.{one}
use Rattle.read_price.specs.declared.PriceRead.{PriceRead}
use Rattle.read_price.specs.Price.{price_at}
use Rattle.read_conditions.specs.declared.Taken.{Taken}
use Rattle.read_conditions.specs.Tail.{plus_cash, plus_average, plus_stopped, plus_seller, plus_rule, plus_previous, side_with, further, takes_cash, cash_at, takes_average, average_at, takes_stopped, stopped_at, seller_days, seller_at, takes_rule, rule_at, closed_by, previous_in, previous_by, previous_at, after_price_at, at_end_at, tail_at}
use Rattle.claim_longest.proofs.Tail.{takes_seller, sold_by, seller_as, from_previous, from_rule, from_seller, from_stopped, from_average, dropped, room, days_again, previous_again, cash_yes, average_yes, stopped_yes, rule_yes, seller_yes, previous_there, cash_back, average_back, stopped_back, rule_back, seller_back, with_cash, with_average, with_stopped, with_rule, with_seller, with_previous}

-- no condition but a previous last stands here, and no digit
pub record Ended (R : List ℕ) : Type 0 where
  pub digit : heads is_digit R ≡ false
  pub cash : starts (bytes ",c") R ≡ false
  pub average : starts (bytes ",b") R ≡ false
  pub stopped : starts (bytes "t") R ≡ false
  pub seller : starts (bytes "SELLER") R ≡ false
  pub rule : starts (bytes "RULE127") R ≡ false

pub ended_pair : (s : List ℕ) → Ended (bytes ">>" ++ s)
unfolding is_digit starts
ended_pair s = record { digit = refl; cash = refl; average = refl; stopped = refl; seller = refl; rule = refl }

pub ended_was : (s : List ℕ) → Ended (bytes "WAS." ++ s)
unfolding is_digit starts
ended_was s = record { digit = refl; cash = refl; average = refl; stopped = refl; seller = refl; rule = refl }

-- ---- nothing of another kind stands there

module _ (d : ℕ) (q : Price) (R : List ℕ) where
  no_rule : (g : Bool) → (g ≡ false → Ended R) → starts (bytes "RULE127") (from_previous g q R) ≡ false
  unfolding opt previous_text starts
  no_rule true z = refl
  no_rule false z = (z refl).rule

  no_seller : (j g : Bool) → (g ≡ false → Ended R) → starts (bytes "SELLER") (from_rule j g q R) ≡ false
  unfolding opt previous_text starts
  no_seller true g z = refl
  no_seller false true z = refl
  no_seller false false z = (z refl).seller

  no_digit : (j g : Bool) → (g ≡ false → Ended R) → heads is_digit (from_rule j g q R) ≡ false
  unfolding opt previous_text is_digit
  no_digit true g z = refl
  no_digit false true z = refl
  no_digit false false z = (z refl).digit

  no_stopped : (r j g : Bool) → (g ≡ false → Ended R) → starts (bytes "t") (from_seller r d j g q R) ≡ false
  unfolding opt previous_text seller_text starts
  no_stopped true j g z = refl
  no_stopped false true g z = refl
  no_stopped false false true z = refl
  no_stopped false false false z = (z refl).stopped

  no_average : (t r j g : Bool) → (g ≡ false → Ended R) → starts (bytes ",b") (from_stopped t r d j g q R) ≡ false
  unfolding opt previous_text seller_text starts
  no_average true r j g z = refl
  no_average false true j g z = refl
  no_average false false true g z = refl
  no_average false false false true z = refl
  no_average false false false false z = (z refl).average

  no_cash : (b t r j g : Bool) → (g ≡ false → Ended R) → starts (bytes ",c") (from_average b t r d j g q R) ≡ false
  unfolding opt previous_text seller_text starts
  no_cash true t r j g z = refl
  no_cash false true r j g z = refl
  no_cash false false true j g z = refl
  no_cash false false false true g z = refl
  no_cash false false false false true z = refl
  no_cash false false false false false z = (z refl).cash

-- ---- one step exactly

exactly : (P X D : List ℕ) (f takes : Bool) (plus st : Taken) → D ≡ opt f P ++ X → (f ≡ true → starts P D ≡ true → takes ≡ true) → (takes ≡ true → starts P D ≡ true) → starts P X ≡ false → pick takes plus st ≡ pick f plus st
unfolding opt pick
exactly P X D true takes plus st e there back none = rw (there refl (rw e (starts_append P X)))
exactly P X D false true plus st e there back none = absurd (false_true (sym none ∙ ap (starts P) (sym e) ∙ back refl))
exactly P X D false false plus st e there back none = refl

module _ (s : List ℕ) (st : Taken) (f : Bool) (X : List ℕ) (n : f ≡ true → st.count < 4) where
  cash_exactly : drop st.used s ≡ opt f (bytes ",c") ++ X → (f ≡ true → st.side.letters.m ≡ false) → starts (bytes ",c") X ≡ false → cash_at s st ≡ pick f (with_cash s st) st
  unfolding cash_at
  cash_exactly e m none = exactly (bytes ",c") X (drop st.used s) f (takes_cash s st) (with_cash s st) st e (λ q h. cash_yes s st (n q) (m q) h) (cash_back s st) none

  average_exactly : drop st.used s ≡ opt f (bytes ",b") ++ X → starts (bytes ",b") X ≡ false → average_at s st ≡ pick f (with_average s st) st
  unfolding average_at
  average_exactly e none = exactly (bytes ",b") X (drop st.used s) f (takes_average s st) (with_average s st) st e (λ q h. average_yes s st (n q) h) (average_back s st) none

  stopped_exactly : drop st.used s ≡ opt f (bytes "t") ++ X → starts (bytes "t") X ≡ false → stopped_at s st ≡ pick f (with_stopped s st) st
  unfolding stopped_at
  stopped_exactly e none = exactly (bytes "t") X (drop st.used s) f (takes_stopped s st) (with_stopped s st) st e (λ q h. stopped_yes s st (n q) h) (stopped_back s st) none

  rule_exactly : drop st.used s ≡ opt f (bytes "RULE127") ++ X → (f ≡ true → st.a ≡ true) → starts (bytes "RULE127") X ≡ false → rule_at s st ≡ pick f (with_rule s st) st
  unfolding rule_at
  rule_exactly e a none = exactly (bytes "RULE127") X (drop st.used s) f (takes_rule s st) (with_rule s st) st e (λ q h. rule_yes s st (n q) (a q) h) (rule_back s st) none

module _ (s : List ℕ) (st : Taken) (d : ℕ) (X : List ℕ) where
  seller_missing : (b : Bool) → takes_seller s st ≡ b → drop st.used s ≡ X → starts (bytes "SELLER") X ≡ false → pick b (sold_by st (seller_days (drop st.used s))) st ≡ st
  unfolding pick
  seller_missing true y e none = absurd (false_true (sym none ∙ ap (starts (bytes "SELLER")) (sym e) ∙ seller_back s st y))
  seller_missing false y e none = refl

  seller_exactly : (r : Bool) → drop st.used s ≡ opt r (seller_text d) ++ X → (r ≡ true → (1 ≤ d) × (d < 10 ^ 3)) → (r ≡ true → st.count < 4) → (r ≡ true → st.side.letters.m ≡ false) → (r ≡ true → st.side.letters.k ≡ false) → starts (bytes "SELLER") X ≡ false → heads is_digit X ≡ false → seller_at s st ≡ pick r (with_seller s st d) st
  unfolding opt pick
  seller_exactly true e o n m k none dig =
      let a = days_again d X (o refl).0 (o refl).1 in
      let f : seller_days (drop st.used s) ≡ a.got = ap seller_days e ∙ a.read in
      let y = seller_yes s st (n refl) (m refl) (k refl) (rw f (omega (a.long, some_digits d, arith))) in
      rw (seller_as s st, y, f, a.exact dig)
  seller_exactly false e o n m k none dig = seller_as s st ∙ seller_missing (takes_seller s st) refl e none

-- ---- the state after each step

-- letters with one of them set
abbrev set_k : Bool → Letters → Letters
set_k f x = record { o = x.o; s = x.s; l = x.l; n = x.n; m = x.m; c = x.c; k = f; b = x.b; t = x.t; r = x.r; j = x.j; g = x.g }

abbrev set_b : Bool → Letters → Letters
set_b f x = record { o = x.o; s = x.s; l = x.l; n = x.n; m = x.m; c = x.c; k = x.k; b = f; t = x.t; r = x.r; j = x.j; g = x.g }

abbrev set_t : Bool → Letters → Letters
set_t f x = record { o = x.o; s = x.s; l = x.l; n = x.n; m = x.m; c = x.c; k = x.k; b = x.b; t = f; r = x.r; j = x.j; g = x.g }

abbrev set_r : Bool → Letters → Letters
set_r f x = record { o = x.o; s = x.s; l = x.l; n = x.n; m = x.m; c = x.c; k = x.k; b = x.b; t = x.t; r = f; j = x.j; g = x.g }

abbrev set_j : Bool → Letters → Letters
set_j f x = record { o = x.o; s = x.s; l = x.l; n = x.n; m = x.m; c = x.c; k = x.k; b = x.b; t = x.t; r = x.r; j = f; g = x.g }

abbrev pub set_g : Bool → Letters → Letters
set_g f x = record { o = x.o; s = x.s; l = x.l; n = x.n; m = x.m; c = x.c; k = x.k; b = x.b; t = x.t; r = x.r; j = x.j; g = f }

pub record Is (st : Taken) (u n : ℕ) (x : Letters) (a b : Bool) : Type 0 where
  pub used_at : st.used ≡ u
  pub counted : st.count ≡ n
  pub letters_are : st.side.letters ≡ x
  pub a_is : st.a ≡ a
  pub b_is : st.b ≡ b

plus_zero : (n m : ℕ) → n ≡ m → n ≡ m + 0
plus_zero n m h = omega (h, arith)

module _ (s : List ℕ) (st : Taken) (u n : ℕ) (x : Letters) (a b : Bool) (i : Is st u n x a b) where
  cash_is : (f : Bool) → x.k ≡ false → Is (pick f (with_cash s st) st) (u + length (opt f (bytes ",c"))) (n + one f) (set_k f x) a b
  unfolding pick opt further side_with plus_cash
  cash_is true z = record { used_at = ap (λ k. k + 2) i.used_at; counted = ap (λ k. k + 1) i.counted; letters_are = ap (set_k true) i.letters_are; a_is = i.a_is; b_is = i.b_is }
  cash_is false z = record { used_at = plus_zero _ _ i.used_at; counted = plus_zero _ _ i.counted; letters_are = i.letters_are ∙ ap (λ f. set_k f x) z; a_is = i.a_is; b_is = i.b_is }

  average_is : (f : Bool) → x.b ≡ false → Is (pick f (with_average s st) st) (u + length (opt f (bytes ",b"))) (n + one f) (set_b f x) a b
  unfolding pick opt further side_with plus_average
  average_is true z = record { used_at = ap (λ k. k + 2) i.used_at; counted = ap (λ k. k + 1) i.counted; letters_are = ap (set_b true) i.letters_are; a_is = i.a_is; b_is = i.b_is }
  average_is false z = record { used_at = plus_zero _ _ i.used_at; counted = plus_zero _ _ i.counted; letters_are = i.letters_are ∙ ap (λ f. set_b f x) z; a_is = i.a_is; b_is = i.b_is }

  stopped_is : (f : Bool) → x.t ≡ false → Is (pick f (with_stopped s st) st) (u + length (opt f (bytes "t"))) (n + one f) (set_t f x) a b
  unfolding pick opt further side_with plus_stopped
  stopped_is true z = record { used_at = ap (λ k. k + 1) i.used_at; counted = ap (λ k. k + 1) i.counted; letters_are = ap (set_t true) i.letters_are; a_is = i.a_is; b_is = i.b_is }
  stopped_is false z = record { used_at = plus_zero _ _ i.used_at; counted = plus_zero _ _ i.counted; letters_are = i.letters_are ∙ ap (λ f. set_t f x) z; a_is = i.a_is; b_is = i.b_is }

  seller_is : (f : Bool) (d : ℕ) → x.r ≡ false → Is (pick f (with_seller s st d) st) (u + length (opt f (seller_text d))) (n + one f) (set_r f x) a b
  unfolding pick opt sold_by further side_with plus_seller seller_text
  seller_is true d z = record { used_at = omega (i.used_at, length-append (bytes "SELLER") (decimal d), arith); counted = ap (λ k. k + 1) i.counted; letters_are = ap (set_r true) i.letters_are; a_is = i.a_is; b_is = i.b_is }
  seller_is false d z = record { used_at = plus_zero _ _ i.used_at; counted = plus_zero _ _ i.counted; letters_are = i.letters_are ∙ ap (λ f. set_r f x) z; a_is = i.a_is; b_is = i.b_is }

  rule_is : (f : Bool) → x.j ≡ false → Is (pick f (with_rule s st) st) (u + length (opt f (bytes "RULE127"))) (n + one f) (set_j f x) a (pick f false b)
  unfolding pick opt further side_with plus_rule
  rule_is true z = record { used_at = ap (λ k. k + 7) i.used_at; counted = ap (λ k. k + 1) i.counted; letters_are = ap (set_j true) i.letters_are; a_is = i.a_is; b_is = refl }
  rule_is false z = record { used_at = plus_zero _ _ i.used_at; counted = plus_zero _ _ i.counted; letters_are = i.letters_are ∙ ap (λ f. set_j f x) z; a_is = i.a_is; b_is = i.b_is }

  previous_is : (p : PriceRead) → Is (with_previous s st p) (u + (13 + p.used)) (n + 1) (set_g true x) false b
  unfolding previous_by further side_with plus_previous
  previous_is p = record { used_at = ap (λ k. k + (13 + p.used)) i.used_at; counted = ap (λ k. k + 1) i.counted; letters_are = ap (set_g true) i.letters_are; a_is = refl; b_is = i.b_is }

-- ---- all of them

-- what the state before a side's conditions is, and what the line that shows them allows
pub record Begins (s : List ℕ) (st : Taken) (u n : ℕ) (x : Letters) (a b : Bool) (k B t r : Bool) (d : ℕ) (j g : Bool) (q : Price) (R : List ℕ) : Type 0 where
  pub is : Is st u n x a b
  pub no_k : x.k ≡ false
  pub no_b : x.b ≡ false
  pub no_t : x.t ≡ false
  pub no_r : x.r ≡ false
  pub no_j : x.j ≡ false
  pub no_g : x.g ≡ false
  pub text : drop u s ≡ opt k (bytes ",c") ++ from_average B t r d j g q R
  pub few : n + (one k + (one B + (one t + (one r + (one j + one g))))) ≤ 4
  pub days : r ≡ true → (1 ≤ d) × (d < 10 ^ 3)
  pub cash_no_next : k ≡ true → x.m ≡ false
  pub seller_no_next : r ≡ true → x.m ≡ false
  pub seller_no_cash : (k && r) ≡ false
  pub rule_on_a : j ≡ true → a ≡ true
  pub previous_on_b : g ≡ true → b ≡ true
  pub apart : (j && g) ≡ false
  pub sound : g ≡ true → Sound q
  pub some : g ≡ true → 1 ≤ q.n

-- before the previous last
abbrev pub letters_before : Letters → Bool → Bool → Bool → Bool → Bool → Letters
letters_before x k B t r j = set_j j (set_r r (set_t t (set_b B (set_k k x))))

module _ (s : List ℕ) (st : Taken) (u n : ℕ) (x : Letters) (a b : Bool) (k B t r : Bool) (d : ℕ) (j g : Bool) (q : Price) (R : List ℕ) (h : Begins s st u n x a b k B t r d j g q R) (z : g ≡ false → Ended R) where
  s1 : Taken
  s1 = pick k (with_cash s st) st

  is1 : Is s1 (u + length (opt k (bytes ",c"))) (n + one k) (set_k k x) a b
  unfolding s1
  is1 = cash_is s st u n x a b h.is k h.no_k

  at0 : drop st.used s ≡ opt k (bytes ",c") ++ from_average B t r d j g q R
  at0 = ap (λ i. drop i s) h.is.used_at ∙ h.text

  to1 : cash_at s st ≡ s1
  unfolding s1
  to1 = cash_exactly s st k (from_average B t r d j g q R) (room k st (one B + (one t + (one r + (one j + one g)))) (omega (h.few, h.is.counted, arith))) at0 (λ e. ap (λ y. y.m) h.is.letters_are ∙ h.cash_no_next e) (no_cash d q R B t r j g z)

  at1 : drop s1.used s ≡ from_average B t r d j g q R
  at1 = ap (λ i. drop i s) is1.used_at ∙ dropped s (bytes ",c") (from_average B t r d j g q R) u k h.text

  s2 : Taken
  s2 = pick B (with_average s s1) s1

  is2 : Is s2 (u + length (opt k (bytes ",c")) + length (opt B (bytes ",b"))) (n + one k + one B) (set_b B (set_k k x)) a b
  unfolding s2
  is2 = average_is s s1 _ _ (set_k k x) a b is1 B h.no_b

  to2 : average_at s s1 ≡ s2
  unfolding s2
  to2 = average_exactly s s1 B (from_stopped t r d j g q R) (room B s1 (one t + (one r + (one j + one g))) (omega (h.few, is1.counted, arith))) at1 (no_average d q R t r j g z)

  at2 : drop s2.used s ≡ from_stopped t r d j g q R
  at2 = ap (λ i. drop i s) is2.used_at ∙ dropped s (bytes ",b") (from_stopped t r d j g q R) (u + length (opt k (bytes ",c"))) B (ap (λ i. drop i s) (sym is1.used_at) ∙ at1)

  s3 : Taken
  s3 = pick t (with_stopped s s2) s2

  is3 : Is s3 (u + length (opt k (bytes ",c")) + length (opt B (bytes ",b")) + length (opt t (bytes "t"))) (n + one k + one B + one t) (set_t t (set_b B (set_k k x))) a b
  unfolding s3
  is3 = stopped_is s s2 _ _ (set_b B (set_k k x)) a b is2 t h.no_t

  to3 : stopped_at s s2 ≡ s3
  unfolding s3
  to3 = stopped_exactly s s2 t (from_seller r d j g q R) (room t s2 (one r + (one j + one g)) (omega (h.few, is2.counted, arith))) at2 (no_stopped d q R r j g z)

  at3 : drop s3.used s ≡ from_seller r d j g q R
  at3 = ap (λ i. drop i s) is3.used_at ∙ dropped s (bytes "t") (from_seller r d j g q R) (u + length (opt k (bytes ",c")) + length (opt B (bytes ",b"))) t (ap (λ i. drop i s) (sym is2.used_at) ∙ at2)

  s4 : Taken
  s4 = pick r (with_seller s s3 d) s3

  is4 : Is s4 (u + length (opt k (bytes ",c")) + length (opt B (bytes ",b")) + length (opt t (bytes "t")) + length (opt r (seller_text d))) (n + one k + one B + one t + one r) (set_r r (set_t t (set_b B (set_k k x)))) a b
  unfolding s4
  is4 = seller_is s s3 _ _ (set_t t (set_b B (set_k k x))) a b is3 r d h.no_r

  cash_off : r ≡ true → k ≡ false
  cash_off e = and_off k r h.seller_no_cash e

  to4 : seller_at s s3 ≡ s4
  unfolding s4
  to4 = seller_exactly s s3 d (from_rule j g q R) r at3 h.days (room r s3 (one j + one g) (omega (h.few, is3.counted, arith))) (λ e. ap (λ y. y.m) is3.letters_are ∙ h.seller_no_next e) (λ e. ap (λ y. y.k) is3.letters_are ∙ cash_off e) (no_seller d q R j g z) (no_digit d q R j g z)

  at4 : drop s4.used s ≡ from_rule j g q R
  at4 = ap (λ i. drop i s) is4.used_at ∙ dropped s (seller_text d) (from_rule j g q R) (u + length (opt k (bytes ",c")) + length (opt B (bytes ",b")) + length (opt t (bytes "t"))) r (ap (λ i. drop i s) (sym is3.used_at) ∙ at3)

  s5 : Taken
  s5 = pick j (with_rule s s4) s4

  is5 : Is s5 (u + length (opt k (bytes ",c")) + length (opt B (bytes ",b")) + length (opt t (bytes "t")) + length (opt r (seller_text d)) + length (opt j (bytes "RULE127"))) (n + one k + one B + one t + one r + one j) (letters_before x k B t r j) a (pick j false b)
  unfolding s5
  is5 = rule_is s s4 _ _ (set_r r (set_t t (set_b B (set_k k x)))) a b is4 j h.no_j

  to5 : rule_at s s4 ≡ s5
  unfolding s5
  to5 = rule_exactly s s4 j (from_previous g q R) (room j s4 (one g) (omega (h.few, is4.counted, arith))) at4 (λ e. is4.a_is ∙ h.rule_on_a e) (no_rule d q R g z)

  at5 : drop s5.used s ≡ from_previous g q R
  at5 = ap (λ i. drop i s) is5.used_at ∙ dropped s (bytes "RULE127") (from_previous g q R) (u + length (opt k (bytes ",c")) + length (opt B (bytes ",b")) + length (opt t (bytes "t")) + length (opt r (seller_text d))) j (ap (λ i. drop i s) (sym is4.used_at) ∙ at4)

  to_end : tail_at s st ≡ previous_at s s5
  unfolding tail_at after_price_at at_end_at
  to_end = rw (to1, to2, to3, to4, to5)

-- a side's conditions ended where they end on the tape, or a previous last behind them was taken too
pub data TailEnd (end : Taken) (size : ℕ) (x : Letters) (a b g : Bool) (R : List ℕ) : Type 0 where
  ended : end.used ≡ size → end.side.letters ≡ set_g g x → end.a ≡ pick g false a → end.b ≡ b → TailEnd end size x a b g R
  more : g ≡ false → end.side.letters ≡ set_g true x → size + 2 ≤ end.used → starts (bytes ">>PREV.LAST") R ≡ true → TailEnd end size x a b g R

is_priced : Option PriceRead → Bool
is_priced (Some p) = true
is_priced None = false

some_price : (b : Bool) (y : Option PriceRead) (p : PriceRead) → pick b y None ≡ Some p → b ≡ true
unfolding pick is_priced
some_price true y p h = refl
some_price false y p h = ap is_priced h

previous_starts : (s : List ℕ) (p : PriceRead) → previous_in s ≡ Some p → starts (bytes ">>PREV.LAST") s ≡ true
unfolding previous_in
previous_starts s p h = some_price (starts (bytes ">>PREV.LAST") s) (closed_by (drop 11 s) (price_at (drop 11 s))) p h

not_there : (s : List ℕ) (st : Taken) (R : List ℕ) (u n : ℕ) (x : Letters) (a b : Bool) → Is st u n x a b → x.g ≡ false → drop st.used s ≡ R → (y : Option PriceRead) → previous_in (drop st.used s) ≡ y → TailEnd (previous_by st y) u x a b false R
unfolding previous_by pick
not_there s st R u n x a b i z e None k = ended i.used_at (i.letters_are ∙ ap (λ f. set_g f x) z) i.a_is i.b_is
not_there s st R u n x a b i z e (Some p) k =
    let o = previous_is s st u n x a b i p in
    more refl o.letters_are (omega (o.used_at, arith)) (ap (starts (bytes ">>PREV.LAST")) (sym e) ∙ previous_starts (drop st.used s) p k)

not_taken : (s : List ℕ) (st : Taken) (R : List ℕ) (u n : ℕ) (x : Letters) (a b : Bool) → Is st u n x a b → x.g ≡ false → drop st.used s ≡ R → (f : Bool) → TailEnd (pick f (previous_by st (previous_in (drop st.used s))) st) u x a b false R
unfolding pick
not_taken s st R u n x a b i z e true = not_there s st R u n x a b i z e (previous_in (drop st.used s)) refl
not_taken s st R u n x a b i z e false = ended i.used_at (i.letters_are ∙ ap (λ f. set_g f x) z) i.a_is i.b_is

previous_off : (s : List ℕ) (st : Taken) (R : List ℕ) (u n : ℕ) (x : Letters) (a b : Bool) → Is st u n x a b → x.g ≡ false → drop st.used s ≡ R → TailEnd (previous_at s st) (u + 0) x a b false R
unfolding previous_at
previous_off s st R u n x a b i z e = subst (λ k. TailEnd (pick (ltb st.count 4 && st.b) (previous_by st (previous_in (drop st.used s))) st) k x a b false R) (omega arith) (not_taken s st R u n x a b i z e (ltb st.count 4 && st.b))

on_b : (j g b : Bool) → (j && g) ≡ false → (g ≡ true → b ≡ true) → g ≡ true → pick j false b ≡ true
unfolding pick
on_b true g b x h e = absurd (false_true (sym x ∙ e))
on_b false g b x h e = h e

previous_ends : (s : List ℕ) (st : Taken) (g : Bool) (q : Price) (R : List ℕ) (u n : ℕ) (x : Letters) (a b : Bool) → Is st u n x a b → x.g ≡ false → drop st.used s ≡ from_previous g q R → n + one g ≤ 4 → (g ≡ true → b ≡ true) → (g ≡ true → Sound q) → (g ≡ true → 1 ≤ q.n)
    → TailEnd (previous_at s st) (u + length (opt g (previous_text q))) x a b g R
unfolding opt pick
previous_ends s st true q R u n x a b i z e c h k o =
    let w = previous_again q R (k refl) (o refl) in
    let y = previous_is s st u n x a b i w.got in
    rw (previous_there s st q R e w (omega (c, i.counted, arith)) (i.b_is ∙ h refl)) (ended (omega (y.used_at, w.exact, arith)) y.letters_are y.a_is y.b_is)
previous_ends s st false q R u n x a b i z e c h k o = previous_off s st R u n x a b i z e

-- THE TAIL ENDS
pub tail_ends : (s : List ℕ) (st : Taken) (u n : ℕ) (x : Letters) (a b : Bool) (k B t r : Bool) (d : ℕ) (j g : Bool) (q : Price) (R : List ℕ) → Begins s st u n x a b k B t r d j g q R → (g ≡ false → Ended R)
    → TailEnd (tail_at s st) (u + length (opt k (bytes ",c")) + length (opt B (bytes ",b")) + length (opt t (bytes "t")) + length (opt r (seller_text d)) + length (opt j (bytes "RULE127")) + length (opt g (previous_text q))) (letters_before x k B t r j) a (pick j false b) g R
tail_ends s st u n x a b k B t r d j g q R h z =
    rw (to_end s st u n x a b k B t r d j g q R h z)
    (previous_ends s (s5 s st u n x a b k B t r d j g q R h z) g q R _ _ (letters_before x k B t r j) a (pick j false b) (is5 s st u n x a b k B t r d j g q R h z) h.no_g (at5 s st u n x a b k B t r d j g q R h z) (omega (h.few, arith)) (λ e. on_b j g b h.apart h.previous_on_b e) h.sound h.some)
