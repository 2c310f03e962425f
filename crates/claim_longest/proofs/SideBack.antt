-- A side that one line can print is read whole, at least, where it stands. Assumes nothing.
use Prim.Native.Nat.{ℕ, ◌+◌, ◌^◌, ◌≤◌, ◌<◌}
use native.Mathlib.Omega.{arith}
use mathlib.Core.Path.{◌≡◌, refl, sym, ap, ◌∙◌, subst}
use mathlib.Core.Logic.{⊎_elim}
use mathlib.Core.Bool.{Bool, true, false, ◌&&◌, ◌||◌, not}
use mathlib.Core.List.{List, [], ◌∷◌, ◌++◌, append_assoc}
use lib.Dec.{eqb, leb}
use lib.ListN.{length, drop, length-append}
use lib.Seq.{drop-drop, drop-append_seam}
use Rattle.std.specs.Prelude.{Option, Some, None, Result, Ok, Err}
use Rattle.text.specs.Bytes.{bytes}
use Rattle.text.specs.Pick.{pick, opt, among}
use Rattle.text.proofs.Texts.{and_left, and_right}
use Rattle.rules.specs.Columns.{between}
use Rattle.rules.specs.Price.{price_text}
use Rattle.rules.specs.Volume.{volume_text}
use Rattle.rules.specs.Conditions.{on_network}
use Rattle.rules.specs.Side.{tail_text}
use Rattle.rules.specs.Line.{is_unit, is_network}
use Rattle.rules.specs.declared.Letters.{Letters}
use Rattle.rules.specs.declared.Price.{Price}
use Rattle.rules.specs.declared.Side.{Side}
use Rattle.print_price.specs.Sound.{Sound}
use Rattle.name_back.specs.Cut.{one_sold}
use Rattle.line_owed.specs.Shown.{letter_count, one_delivery, showable, Showable}
use Rattle.line_owed.proofs.Shown.{some_price, sound_price, shown_previous}
use Rattle.read_price.specs.declared.PriceRead.{PriceRead}
use Rattle.read_volume.specs.declared.Volume.{Volume}
use Rattle.read_volume.specs.declared.Volume.TheVariants.{Unsaid}
use Rattle.read_volume.specs.declared.VolumeRead.{VolumeRead}
use Rattle.read_price.specs.Price.{price_at}
use Rattle.read_volume.specs.Volume.{volume_at, explains, explains_both, explained}
use Rattle.read_name.specs.Head.{letters_after}
use Rattle.read_conditions.specs.declared.Taken.{Taken}
use Rattle.read_conditions.specs.Tail.{tail_at}
use Rattle.read_side.specs.declared.SideRead.{SideRead}
use Rattle.rules.specs.declared.Refusal.TheVariants.{NoPrint}
use Rattle.read_side.specs.Side.{head_count, beside, sided_by, side_with, said_side, or_else, side_at}
use borrow.Author.Tests.{eqb-true, leb-true, not-true}
use Rattle.text.specs.Reading.{heads, is_digit, dot_digit}
use Rattle.text.proofs.Booleans.{implied, and_off, or_true, and_both, false_true, or_cases}
use Rattle.rules.specs.Conditions.{seller_text, previous_text, after_price, at_end}
use Rattle.print_price.proofs.PriceBack.{NoMore}
use Rattle.read_price.proofs.PriceBack.{PriceAgain, price_again}
use Rattle.read_volume.proofs.VolumeBack.{VolumeAgain, volume_again, volume_empty}
use Rattle.line_owed.specs.Shown.{one}
use Rattle.claim_longest.proofs.Side.{beginning, side_in, no_side}
use Rattle.claim_longest.proofs.Tail.{tail_forward, from_average, size_average, May, covers_tail}
use Rattle.claim_longest.proofs.Figures.{volume_beyond}
use Rattle.rules.specs.declared.PriceForm.TheVariants.{Full}
use Rattle.rules.specs.declared.Refusal.{Refusal}

-- ---- one unit explains and_both

both_explain : (network unit : ℕ) (x y : Volume) → explains network unit x ≡ true → explains network unit y ≡ true → explains_both network unit x y ≡ true
unfolding explains_both
both_explain network unit x y h k = rw (h, k)

module _ (network : ℕ) (x y : Volume) where
  by_hundred : explains_both network 100 x y ≡ true → explained network x y ≡ true
  unfolding explained
  by_hundred h = rw h

  by_fifty : explains_both network 50 x y ≡ true → explained network x y ≡ true
  unfolding explained
  by_fifty h = rw (h, or_true)

  by_quarter : explains_both network 25 x y ≡ true → explained network x y ≡ true
  unfolding explained
  by_quarter h = rw (h, or_true, or_true)

  by_ten : explains_both network 10 x y ≡ true → explained network x y ≡ true
  unfolding explained
  by_ten h = rw (h, or_true, or_true, or_true)

  by_one : explains_both network 1 x y ≡ true → explained network x y ≡ true
  unfolding explained
  by_one h = rw (h, or_true, or_true, or_true, or_true)

pub unit_explains : (network unit : ℕ) (x y : Volume) → is_unit unit ≡ true → explains network unit x ≡ true → explains network unit y ≡ true → explained network x y ≡ true
unfolding is_unit among
unit_explains network unit x y u h k =
    let e = both_explain network unit x y h k in
    ⊎_elim (λ q. by_one network x y (ap (λ n. explains_both network n x y) (sym (eqb-true unit 1 q)) ∙ e))
    (λ u₂. ⊎_elim (λ q. by_ten network x y (ap (λ n. explains_both network n x y) (sym (eqb-true unit 10 q)) ∙ e))
    (λ u₃. ⊎_elim (λ q. by_quarter network x y (ap (λ n. explains_both network n x y) (sym (eqb-true unit 25 q)) ∙ e))
    (λ u₄. ⊎_elim (λ q. by_fifty network x y (ap (λ n. explains_both network n x y) (sym (eqb-true unit 50 q)) ∙ e))
    (λ u₅. ⊎_elim (λ q. by_hundred network x y (ap (λ n. explains_both network n x y) (sym (eqb-true unit 100 q)) ∙ e)) (λ q. absurd (false_true q))
    (or_cases (eqb unit 100) false u₅))
    (or_cases (eqb unit 50) (eqb unit 100 || false) u₄))
    (or_cases (eqb unit 25) (eqb unit 50 || (eqb unit 100 || false)) u₃))
    (or_cases (eqb unit 10) (eqb unit 25 || (eqb unit 50 || (eqb unit 100 || false))) u₂))
    (or_cases (eqb unit 1) (eqb unit 10 || (eqb unit 25 || (eqb unit 50 || (eqb unit 100 || false)))) u)

-- ---- the conditions of a side, one after the other

pub tail_parts : (x : Side) (R : List ℕ) → x.letters.c ≡ false → tail_text x ++ R ≡ opt x.letters.k (bytes ",c") ++ from_average x.letters.b x.letters.t x.letters.r x.days x.letters.j x.letters.g x.previous R
unfolding tail_text after_price at_end
tail_parts x R c = rw c (simp append_assoc)

pub tail_size : (x : Side) → x.letters.c ≡ false → length (tail_text x) ≡ length (opt x.letters.k (bytes ",c")) + size_average x.letters.b x.letters.t x.letters.r x.days x.letters.j x.letters.g x.previous
unfolding tail_text after_price at_end
tail_size x c =
    let K = opt x.letters.k (bytes ",c") in
    let B = opt x.letters.b (bytes ",b") in
    let T = opt x.letters.t (bytes "t") in
    let D = opt x.letters.r (seller_text x.days) in
    let J = opt x.letters.j (bytes "RULE127") in
    let G = opt x.letters.g (previous_text x.previous) in
    rw c (omega (length-append ((K ++ B) ++ T) ((D ++ J) ++ G), length-append (K ++ B) T, length-append K B, length-append (D ++ J) G, length-append D J, arith))

-- a digit, or a figure dot before one, stands behind a price only where no condition does
module _ (d : ℕ) (q : Price) (R : List ℕ) where
  digit_clear : (k b t r j g : Bool) → heads is_digit (opt k (bytes ",c") ++ from_average b t r d j g q R) ≡ true → length (opt k (bytes ",c")) + size_average b t r d j g q ≡ 0
  unfolding opt seller_text previous_text is_digit
  digit_clear true b t r j g h = absurd (false_true h)
  digit_clear false true t r j g h = absurd (false_true h)
  digit_clear false false true r j g h = absurd (false_true h)
  digit_clear false false false true j g h = absurd (false_true h)
  digit_clear false false false false true g h = absurd (false_true h)
  digit_clear false false false false false true h = absurd (false_true h)
  digit_clear false false false false false false h = refl

  dot_clear : (k b t r j g : Bool) → dot_digit (opt k (bytes ",c") ++ from_average b t r d j g q R) ≡ true → length (opt k (bytes ",c")) + size_average b t r d j g q ≡ 0
  unfolding opt seller_text previous_text dot_digit is_digit
  dot_clear true b t r j g h = absurd (false_true h)
  dot_clear false true t r j g h = absurd (false_true h)
  dot_clear false false true r j g h = absurd (false_true h)
  dot_clear false false false true j g h = absurd (false_true h)
  dot_clear false false false false true g h = absurd (false_true h)
  dot_clear false false false false false true h = absurd (false_true h)
  dot_clear false false false false false false h = refl

-- ---- what one line allows

two_networks : (n : ℕ) → eqb n 65 ≡ true → eqb n 66 ≡ true → ⊥
two_networks n h k = omega (eqb-true n 65 h, eqb-true n 66 k, arith)

days_in : (d : ℕ) → (leb 1 d && leb d 999) ≡ true → (1 ≤ d) × (d < 10 ^ 3)
days_in d h = (leb-true 1 d (and_left (leb 1 d) _ h), omega (leb-true d 999 (and_right (leb 1 d) _ h), arith))

pub none_one : one false ≡ 0
unfolding pick
none_one = refl

unfoldable pub flag_of : ℕ → Bool → Bool → Bool
flag_of network a b = pick (eqb network 65) a b

module _ (network : ℕ) (x : Side) (h : Showable network x) where
  fit : (not x.letters.n && (not x.letters.c && (leb (letter_count x.letters) 4 && (one_sold x.letters && one_delivery x.letters)))) ≡ true
  unfolding showable
  fit = h.letters_fit

  pub shown_n : x.letters.n ≡ false
  shown_n = not-true x.letters.n (and_left (not x.letters.n) _ fit)

  fit₂ : (not x.letters.c && (leb (letter_count x.letters) 4 && (one_sold x.letters && one_delivery x.letters))) ≡ true
  fit₂ = and_right (not x.letters.n) _ fit

  pub shown_c : x.letters.c ≡ false
  shown_c = not-true x.letters.c (and_left (not x.letters.c) _ fit₂)

  fit₃ : (leb (letter_count x.letters) 4 && (one_sold x.letters && one_delivery x.letters)) ≡ true
  fit₃ = and_right (not x.letters.c) _ fit₂

  pub shown_few : letter_count x.letters ≤ 4
  shown_few = leb-true (letter_count x.letters) 4 (and_left (leb (letter_count x.letters) 4) _ fit₃)

  delivery : (not (x.letters.m && x.letters.k) && (not (x.letters.m && x.letters.r) && not (x.letters.k && x.letters.r))) ≡ true
  unfolding one_delivery
  delivery = and_right (one_sold x.letters) _ (and_right (leb (letter_count x.letters) 4) _ fit₃)

  pub apart_mk : (x.letters.m && x.letters.k) ≡ false
  apart_mk = not-true (x.letters.m && x.letters.k) (and_left (not (x.letters.m && x.letters.k)) _ delivery)

  pub apart_mr : (x.letters.m && x.letters.r) ≡ false
  apart_mr = not-true (x.letters.m && x.letters.r) (and_left (not (x.letters.m && x.letters.r)) _ (and_right (not (x.letters.m && x.letters.k)) _ delivery))

  pub apart_kr : (x.letters.k && x.letters.r) ≡ false
  apart_kr = not-true (x.letters.k && x.letters.r) (and_right (not (x.letters.m && x.letters.r)) _ (and_right (not (x.letters.m && x.letters.k)) _ delivery))

  pub rule_network : x.letters.j ≡ true → eqb network 65 ≡ true
  unfolding on_network
  rule_network e = implied x.letters.j (eqb network 65) e (and_left (not x.letters.j || eqb network 65) _ h.on)

  pub previous_network : x.letters.g ≡ true → eqb network 66 ≡ true
  unfolding on_network
  previous_network e = implied x.letters.g (eqb network 66) e (and_right (not x.letters.j || eqb network 65) _ h.on)

  pub apart_jg : (x.letters.j && x.letters.g) ≡ false
  apart_jg = go x.letters.j refl x.letters.g refl
    where
      go : (j : Bool) → x.letters.j ≡ j → (g : Bool) → x.letters.g ≡ g → (j && g) ≡ false
      go true e true f = absurd (two_networks network (rule_network e) (previous_network f))
      go true e false f = refl
      go false e g f = refl

  pub shown_days : x.letters.r ≡ true → (1 ≤ x.days) × (x.days < 10 ^ 3)
  unfolding between pick
  shown_days e =
      let d = ap (λ b. pick b (leb 1 x.days && leb x.days 999) (eqb x.days 0)) (sym e) ∙ h.days_fit in
      days_in x.days d

  module _ (v : Volume) (used : ℕ) (a b : Bool) (f : flag_of network a b ≡ true) where
    abbrev L : Letters
    L = letters_after x.letters.m x.letters.o x.letters.s x.letters.l

    may : (p : PriceRead) → May (beginning L v used a b p) (one x.letters.k + (one x.letters.b + one x.letters.t)) x.letters.r x.days x.letters.j x.letters.g x.previous
    unfolding letters_after head_count letter_count flag_of pick
    may p = record {
      few = omega (shown_few, ap one shown_n, ap one shown_c, none_one, arith);
      days = shown_days;
      no_next = λ e. and_off x.letters.m x.letters.r apart_mr e;
      no_cash = λ e. refl;
      rule_on_a = λ e. ap (λ t. pick t a b) (sym (rule_network e)) ∙ f;
      previous_on_b = λ e. ap (λ n. pick (eqb n 65) a b) (sym (eqb-true network 66 (previous_network e))) ∙ f;
      apart = apart_jg;
      sound = λ e. sound_price x.previous (shown_previous network x h e);
      some = λ e. some_price x.previous (shown_previous network x h e);
    }

    -- the tail is covered, whatever price was read of it
    module _ (part R : List ℕ) (k : PriceAgain (price_text Full x.price) x.price (tail_text x ++ R)) (at : drop used part ≡ price_text Full x.price ++ (tail_text x ++ R)) where
      abbrev st : Taken
      st = beginning L v used a b k.got

      forward : used + k.got.used ≤ (tail_at part st).used
      forward = tail_forward part st

      stopped_at : (m : NoMore (tail_text x ++ R)) → used + (length (price_text Full x.price) + length (tail_text x)) ≤ (tail_at part st).used
      unfolding letters_after
      stopped_at m =
          let e = (k.exact m).0 in
          let d : drop (used + k.got.used) part ≡ tail_text x ++ R = ap (λ n. drop (used + n) part) e ∙ sym (drop-drop (length (price_text Full x.price)) used part) ∙ ap (drop (length (price_text Full x.price))) at ∙ drop-append_seam (price_text Full x.price) (tail_text x ++ R) in
          let c = covers_tail part (beginning L v used a b k.got) x.letters.k x.letters.b x.letters.t x.letters.r x.days x.letters.j x.letters.g x.previous R (d ∙ tail_parts x R shown_c) (may k.got) (λ z. and_off x.letters.m x.letters.k apart_mk z) apart_kr in
          omega (c, e, tail_size x shown_c, arith)

      no_tail : length (tail_text x) ≡ 0 → used + (length (price_text Full x.price) + length (tail_text x)) ≤ (tail_at part st).used
      no_tail z = omega (z, k.long, forward, arith)

      covered : used + (length (price_text Full x.price) + length (tail_text x)) ≤ (tail_at part st).used
      covered = go (heads is_digit (tail_text x ++ R)) refl (dot_digit (tail_text x ++ R)) refl
        where
          go : (p : Bool) → heads is_digit (tail_text x ++ R) ≡ p → (q : Bool) → dot_digit (tail_text x ++ R) ≡ q → used + (length (price_text Full x.price) + length (tail_text x)) ≤ (tail_at part st).used
          go true e q f = no_tail (tail_size x shown_c ∙ digit_clear x.days x.previous R x.letters.k x.letters.b x.letters.t x.letters.r x.letters.j x.letters.g (ap (heads is_digit) (sym (tail_parts x R shown_c)) ∙ e))
          go false e true f = no_tail (tail_size x shown_c ∙ dot_clear x.days x.previous R x.letters.k x.letters.b x.letters.t x.letters.r x.letters.j x.letters.g (ap dot_digit (sym (tail_parts x R shown_c)) ∙ f))
          go false e false f = stopped_at (record { digit = e; dot = f })

on_65 : (network : ℕ) → network ≡ 65 → (a b : Bool) (v : Volume) → flag_of network a b ≡ true → explained network v v ≡ true → flag_of network (a && explained 65 v v) (b && explained 66 v v) ≡ true
unfolding flag_of pick
on_65 network q a b v f e = ap (λ n. pick (eqb n 65) (a && explained 65 v v) (b && explained 66 v v)) q ∙ and_both (ap (λ n. pick (eqb n 65) a b) (sym q) ∙ f) (ap (λ n. explained n v v) (sym q) ∙ e)

on_66 : (network : ℕ) → network ≡ 66 → (a b : Bool) (v : Volume) → flag_of network a b ≡ true → explained network v v ≡ true → flag_of network (a && explained 65 v v) (b && explained 66 v v) ≡ true
unfolding flag_of pick
on_66 network q a b v f e = ap (λ n. pick (eqb n 65) (a && explained 65 v v) (b && explained 66 v v)) q ∙ and_both (ap (λ n. pick (eqb n 65) a b) (sym q) ∙ f) (ap (λ n. explained n v v) (sym q) ∙ e)

pub still : (network : ℕ) (a b : Bool) (v : Volume) → is_network network ≡ true → flag_of network a b ≡ true → explained network v v ≡ true → flag_of network (a && explained 65 v v) (b && explained 66 v v) ≡ true
unfolding is_network among flag_of pick
still network a b v n f e =
    ⊎_elim (λ q. on_65 network (eqb-true network 65 q) a b v f e)
    (λ q. ⊎_elim (λ r. on_66 network (eqb-true network 66 r) a b v f e) (λ r. absurd (false_true r)) (or_cases (eqb network 66) false q))
    (or_cases (eqb network 65) (eqb network 66 || false) n)

one_picked : (t a b : Bool) → pick t a b ≡ true → (a || b) ≡ true
unfolding pick
one_picked true a b h = rw h
one_picked false a b h = rw h (or_true a)

pub one_flag : (network : ℕ) (a b : Bool) → flag_of network a b ≡ true → (a || b) ≡ true
unfolding flag_of
one_flag network a b h = one_picked (eqb network 65) a b h

-- the same beside another volume
with_65 : (first : Option Volume) (network : ℕ) → network ≡ 65 → (a b : Bool) (v : Volume) → flag_of network a b ≡ true → explained network (beside first v) v ≡ true → flag_of network (a && explained 65 (beside first v) v) (b && explained 66 (beside first v) v) ≡ true
unfolding flag_of pick
with_65 first network q a b v f e = ap (λ n. pick (eqb n 65) (a && explained 65 (beside first v) v) (b && explained 66 (beside first v) v)) q ∙ and_both (ap (λ n. pick (eqb n 65) a b) (sym q) ∙ f) (ap (λ n. explained n (beside first v) v) (sym q) ∙ e)

with_66 : (first : Option Volume) (network : ℕ) → network ≡ 66 → (a b : Bool) (v : Volume) → flag_of network a b ≡ true → explained network (beside first v) v ≡ true → flag_of network (a && explained 65 (beside first v) v) (b && explained 66 (beside first v) v) ≡ true
unfolding flag_of pick
with_66 first network q a b v f e = ap (λ n. pick (eqb n 65) (a && explained 65 (beside first v) v) (b && explained 66 (beside first v) v)) q ∙ and_both (ap (λ n. pick (eqb n 65) a b) (sym q) ∙ f) (ap (λ n. explained n (beside first v) v) (sym q) ∙ e)

pub still_with : (first : Option Volume) (network : ℕ) (a b : Bool) (v : Volume) → is_network network ≡ true → flag_of network a b ≡ true → explained network (beside first v) v ≡ true → flag_of network (a && explained 65 (beside first v) v) (b && explained 66 (beside first v) v) ≡ true
unfolding is_network among
still_with first network a b v n f e =
    ⊎_elim (λ q. with_65 first network (eqb-true network 65 q) a b v f e)
    (λ q. ⊎_elim (λ r. with_66 first network (eqb-true network 66 r) a b v f e) (λ r. absurd (false_true r)) (or_cases (eqb network 66) false q))
    (or_cases (eqb network 65) (eqb network 66 || false) n)

-- ---- a side is read

pub record Reaches (answer : Result SideRead Refusal) (n : ℕ) : Type 0 where
  pub got : SideRead
  pub is : answer ≡ Ok got
  pub far : n ≤ got.taken.used

pub some_not_none : (c : ℕ) (s : List ℕ) → c ∷ s ≡ [] → ⊥
some_not_none c s e = omega (ap length e, arith)

by_none : {y : Result SideRead Refusal} {n : ℕ} → Reaches y n → Reaches (or_else (Err NoPrint) y) n
unfolding or_else
by_none r = r

by_either : (z y : Result SideRead Refusal) (n : ℕ) → Reaches y n → ((g : SideRead) → z ≡ Ok g → n ≤ g.taken.used) → Reaches (or_else z y) n
unfolding or_else
by_either (Ok g) y n r k = record { got = g; is = refl; far = k g refl }
by_either (Err q) y n r k = r

said_first : (first : Option Volume) (letters : Letters) (a b : Bool) (part : List ℕ) (v : VolumeRead) {n : ℕ} → volume_at part ≡ Some v → Reaches (side_with first letters a b part v.volume v.used) n → Reaches (or_else (said_side first letters a b part (volume_at part)) (side_with first letters a b part Unsaid 0)) n
unfolding said_side or_else
said_first first letters a b part v e r = record { got = r.got; is = rw (e, r.is); far = r.far }

forward_by : (part : List ℕ) (letters : Letters) (v : Volume) (used : ℕ) (a b : Bool) (p : Option PriceRead) (y : SideRead) → sided_by part letters v used a b p ≡ Ok y → used ≤ y.taken.used
unfolding sided_by side_in
forward_by part letters v used a b None y e = absurd (no_side y e)
forward_by part letters v used a b (Some p) y e = subst (λ z. used ≤ z.taken.used) (ap side_in e) (omega (tail_forward part (beginning letters v used a b p), arith))

forward_pick : (t : Bool) (part : List ℕ) (letters : Letters) (v : Volume) (used : ℕ) (a b : Bool) (p : Option PriceRead) (y : SideRead) → pick t (sided_by part letters v used a b p) (Err NoPrint) ≡ Ok y → used ≤ y.taken.used
unfolding pick
forward_pick true part letters v used a b p y e = forward_by part letters v used a b p y e
forward_pick false part letters v used a b p y e = absurd (no_side y e)

side_forward : (first : Option Volume) (letters : Letters) (a b : Bool) (part : List ℕ) (v : Volume) (used : ℕ) (y : SideRead) → side_with first letters a b part v used ≡ Ok y → used ≤ y.taken.used
unfolding side_with
side_forward first letters a b part v used y e = forward_pick ((a && explained 65 (beside first v) v) || (b && explained 66 (beside first v) v)) part letters v used (a && explained 65 (beside first v) v) (b && explained 66 (beside first v) v) (price_at (drop used part)) y e

module _ (network unit : ℕ) (x : Side) (h : Showable network x) (u : is_unit unit ≡ true) (w : is_network network ≡ true) (a b : Bool) (f : flag_of network a b ≡ true) where
  abbrev letters : Letters
  letters = letters_after x.letters.m x.letters.o x.letters.s x.letters.l

  price_is : Sound x.price × (1 ≤ x.price.n)
  price_is = (sound_price x.price h.price_fits, some_price x.price h.price_fits)

  -- with the volume v in the first bytes
  with_reaches : (v : Volume) (used : ℕ) (part R : List ℕ) → explains network unit v ≡ true → drop used part ≡ price_text Full x.price ++ (tail_text x ++ R) → Reaches (side_with None letters a b part v used) (used + (length (price_text Full x.price) + length (tail_text x)))
  unfolding side_with beside sided_by pick
  with_reaches v used part R e d =
      let k = price_again x.price price_is.0 price_is.1 (tail_text x ++ R) in
      let y = a && explained 65 v v in
      let z = b && explained 66 v v in
      let g : flag_of network y z ≡ true = still network a b v w f (unit_explains network unit v v u e e) in
      let o : (y || z) ≡ true = one_flag network y z g in
      record {
        got = record { volume = v; taken = tail_at part (beginning letters v used y z k.got) };
        is = rw (o, d, k.read);
        far = covered network x h v used y z g part R k d;
      }

  unsaid_with : (part R : List ℕ) → unit ≡ 100 → part ≡ price_text Full x.price ++ (tail_text x ++ R) → Reaches (side_with None letters a b part Unsaid 0) (length (price_text Full x.price) + length (tail_text x))
  unfolding explains
  unsaid_with part R n e =
      let r = with_reaches Unsaid 0 part R (ap (λ k. eqb k 100) n) e in
      record { got = r.got; is = r.is; far = omega (r.far, arith) }

  -- without a volume, or with one that stands further on
  unsaid_reaches : (part R : List ℕ) → unit ≡ 100 → part ≡ price_text Full x.price ++ (tail_text x ++ R) → (y : Option VolumeRead) → volume_at part ≡ y → Reaches (or_else (said_side None letters a b part y) (side_with None letters a b part Unsaid 0)) (length (price_text Full x.price) + length (tail_text x))
  unfolding said_side
  unsaid_reaches part R n e None k = by_none (unsaid_with part R n e)
  unsaid_reaches part R n e (Some v) k =
      by_either (side_with None letters a b part v.volume v.used) (side_with None letters a b part Unsaid 0) _ (unsaid_with part R n e)
      (λ y z. omega (volume_beyond x.price x.letters.k x.letters.b x.letters.t x.letters.r x.days x.letters.j x.letters.g x.previous R v (ap volume_at (sym (e ∙ ap (λ t. price_text Full x.price ++ t) (tail_parts x R (shown_c network x h)))) ∙ k), tail_size x (shown_c network x h), side_forward None letters a b part v.volume v.used y z, arith))

  said_reaches : (R : List ℕ) → VolumeAgain network unit x.volume (price_text Full x.price ++ (tail_text x ++ R)) → Reaches (side_at None letters a b (volume_text network unit x.volume ++ (price_text Full x.price ++ (tail_text x ++ R)))) (length (volume_text network unit x.volume) + (length (price_text Full x.price) + length (tail_text x)))
  unfolding side_at
  said_reaches R k =
      let shown = volume_text network unit x.volume in
      let rest = price_text Full x.price ++ (tail_text x ++ R) in
      let r = with_reaches k.got.volume k.got.used (shown ++ rest) R k.by_unit (ap (λ n. drop n (shown ++ rest)) k.exact ∙ drop-append_seam shown rest) in
      said_first None letters a b (shown ++ rest) k.got k.read (subst (λ n. Reaches (side_with None letters a b (shown ++ rest) k.got.volume k.got.used) (n + (length (price_text Full x.price) + length (tail_text x)))) k.exact r)

  by_volume : (shown : List ℕ) → volume_text network unit x.volume ≡ shown → (R : List ℕ) → 1 ≤ x.volume → x.volume < 1000000000 → Reaches (side_at None letters a b (volume_text network unit x.volume ++ (price_text Full x.price ++ (tail_text x ++ R)))) (length (volume_text network unit x.volume) + (length (price_text Full x.price) + length (tail_text x)))
  unfolding side_at
  by_volume [] e R o l =
      let part = volume_text network unit x.volume ++ (price_text Full x.price ++ (tail_text x ++ R)) in
      let r = unsaid_reaches part R (volume_empty network unit x.volume e).0 (ap (λ v. v ++ (price_text Full x.price ++ (tail_text x ++ R))) e) (volume_at part) refl in
      record { got = r.got; is = r.is; far = omega (r.far, ap length e, arith) }
  by_volume (c ∷ shown) e R o l = said_reaches R (volume_again network unit x.volume w u o l (λ z. some_not_none c shown (sym e ∙ z)) (price_text Full x.price ++ (tail_text x ++ R)))

  -- THE SIDE, WHOLE AT LEAST
  pub side_reaches : (R : List ℕ) → 1 ≤ x.volume → x.volume < 1000000000 → Reaches (side_at None letters a b (volume_text network unit x.volume ++ (price_text Full x.price ++ (tail_text x ++ R)))) (length (volume_text network unit x.volume) + (length (price_text Full x.price) + length (tail_text x)))
  side_reaches R o l = by_volume (volume_text network unit x.volume) refl R o l
