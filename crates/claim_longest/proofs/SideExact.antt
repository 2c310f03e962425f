-- A side that one line can print, with its end behind it, is read exactly, or with a previous last more. Assumes nothing.
use Prim.Native.Nat.{ℕ, ◌+◌, ◌≤◌, ◌<◌}
use native.Mathlib.Omega.{arith}
use mathlib.Core.Path.{◌≡◌, refl, sym, ap, ◌∙◌, subst}
use mathlib.Core.Bool.{Bool, true, false, ◌&&◌, ◌||◌}
use mathlib.Core.List.{List, [], ◌∷◌, ◌++◌}
use lib.Dec.{eqb}
use lib.ListN.{length, drop}
use lib.Seq.{drop-drop, drop-append_seam}
use Rattle.std.specs.Prelude.{Option, None, Result, Ok}
use Rattle.text.specs.Bytes.{bytes}
use Rattle.text.specs.Pick.{pick, opt}
use Rattle.rules.specs.Price.{price_text}
use Rattle.rules.specs.Volume.{volume_text}
use Rattle.rules.specs.Side.{tail_text}
use Rattle.rules.specs.Line.{is_unit, is_network}
use Rattle.rules.specs.declared.Letters.{Letters}
use Rattle.rules.specs.declared.Price.{Price}
use Rattle.rules.specs.declared.Side.{Side}
use Rattle.line_owed.specs.Shown.{letter_count, Showable}
use Rattle.read_price.specs.declared.PriceRead.{PriceRead}
use Rattle.read_volume.specs.declared.Volume.{Volume}
use Rattle.read_volume.specs.declared.Volume.TheVariants.{Unsaid}
use Rattle.read_volume.specs.Volume.{volume_at, explains, explained}
use Rattle.read_name.specs.Head.{letters_after}
use Rattle.read_conditions.specs.Tail.{tail_at}
use Rattle.read_side.specs.declared.SideRead.{SideRead}
use Rattle.read_side.specs.Side.{head_count, beside, sided_by, side_with, said_side, or_else, side_at}
use borrow.Author.Tests.{eqb-true}
use Rattle.text.specs.Reading.{heads, is_digit, dot_digit}
use Rattle.text.proofs.Booleans.{and_off}
use Rattle.rules.specs.Conditions.{seller_text, previous_text}
use Rattle.print_price.proofs.PriceBack.{NoMore}
use Rattle.read_price.proofs.PriceBack.{price_again}
use Rattle.read_volume.proofs.VolumeBack.{volume_again, volume_empty}
use Rattle.line_owed.specs.Shown.{one}
use Rattle.claim_longest.proofs.Side.{beginning}
use Rattle.claim_longest.proofs.Tail.{from_average}
use Rattle.claim_longest.proofs.Figures.{unmarked, unmarked_tail, no_volume}
use Rattle.claim_longest.proofs.TailExact.{Ended, Begins, TailEnd, tail_ends, letters_before}
use Rattle.claim_longest.proofs.SideBack.{some_not_none, none_one, unit_explains, tail_parts, tail_size, still_with, one_flag, flag_of, shown_n, shown_c, shown_few, apart_mk, apart_mr, apart_kr, apart_jg, rule_network, previous_network, shown_days}
use Rattle.line_owed.proofs.Shown.{some_price, sound_price, shown_previous}
use Rattle.rules.specs.declared.PriceForm.TheVariants.{Full}
use Rattle.rules.specs.declared.Refusal.{Refusal}

-- what stands behind a side that ends: no condition, no digit, no figure dot before one, and no mark behind figures
pub record Closes (R : List ℕ) : Type 0 where
  pub ends : Ended R
  pub dot : dot_digit R ≡ false
  pub mark : unmarked R ≡ true

-- no digit and no figure dot before one behind the price
no_digit : (d : ℕ) (q : Price) (R : List ℕ) (k b t r j g : Bool) → (g ≡ false → Closes R) → heads is_digit (opt k (bytes ",c") ++ from_average b t r d j g q R) ≡ false
unfolding opt seller_text previous_text is_digit
no_digit d q R true b t r j g z = refl
no_digit d q R false true t r j g z = refl
no_digit d q R false false true r j g z = refl
no_digit d q R false false false true j g z = refl
no_digit d q R false false false false true g z = refl
no_digit d q R false false false false false true z = refl
no_digit d q R false false false false false false z = (z refl).ends.digit

no_dot : (d : ℕ) (q : Price) (R : List ℕ) (k b t r j g : Bool) → (g ≡ false → Closes R) → dot_digit (opt k (bytes ",c") ++ from_average b t r d j g q R) ≡ false
unfolding opt seller_text previous_text dot_digit is_digit
no_dot d q R true b t r j g z = refl
no_dot d q R false true t r j g z = refl
no_dot d q R false false true r j g z = refl
no_dot d q R false false false true j g z = refl
no_dot d q R false false false false true g z = refl
no_dot d q R false false false false false true z = refl
no_dot d q R false false false false false false z = (z refl).dot

-- a side read: its volume, and where its conditions ended
pub record SideEnds (answer : Result SideRead Refusal) (network unit : ℕ) (size : ℕ) (x : Side) (R : List ℕ) : Type 0 where
  pub got : SideRead
  pub is : answer ≡ Ok got
  pub by_unit : explains network unit got.volume ≡ true
  pub flags : Bool
  pub others : Bool
  pub on : flag_of network flags others ≡ true
  pub tail : TailEnd got.taken size (letters_before (letters_after x.letters.m x.letters.o x.letters.s x.letters.l) x.letters.k x.letters.b x.letters.t x.letters.r x.letters.j) flags (pick x.letters.j false others) x.letters.g R

module _ (first : Option Volume) (network unit : ℕ) (x : Side) (h : Showable network x) (u : is_unit unit ≡ true) (w : is_network network ≡ true) (a b : Bool) (f : flag_of network a b ≡ true) (R : List ℕ) (z : x.letters.g ≡ false → Closes R) where
  abbrev letters : Letters
  letters = letters_after x.letters.m x.letters.o x.letters.s x.letters.l

  no_more : NoMore (tail_text x ++ R)
  no_more =
      let c = shown_c network x h in
      record {
        digit = ap (heads is_digit) (tail_parts x R c) ∙ no_digit x.days x.previous R x.letters.k x.letters.b x.letters.t x.letters.r x.letters.j x.letters.g z;
        dot = ap dot_digit (tail_parts x R c) ∙ no_dot x.days x.previous R x.letters.k x.letters.b x.letters.t x.letters.r x.letters.j x.letters.g z;
      }

  begins : (v : Volume) (used : ℕ) (part : List ℕ) (y n : Bool) (p : PriceRead) → flag_of network y n ≡ true → drop (used + p.used) part ≡ tail_text x ++ R
      → Begins part (beginning letters v used y n p) (used + p.used) (head_count letters) letters y n x.letters.k x.letters.b x.letters.t x.letters.r x.days x.letters.j x.letters.g x.previous R
  unfolding letters_after head_count letter_count flag_of pick
  begins v used part y n p g d = record {
    is = record { used_at = refl; counted = refl; letters_are = refl; a_is = refl; b_is = refl };
    no_k = refl;
    no_b = refl;
    no_t = refl;
    no_r = refl;
    no_j = refl;
    no_g = refl;
    text = d ∙ tail_parts x R (shown_c network x h);
    few = omega (shown_few network x h, ap one (shown_n network x h), ap one (shown_c network x h), none_one, arith);
    days = shown_days network x h;
    cash_no_next = λ e. and_off x.letters.m x.letters.k (apart_mk network x h) e;
    seller_no_next = λ e. and_off x.letters.m x.letters.r (apart_mr network x h) e;
    seller_no_cash = apart_kr network x h;
    rule_on_a = λ e. ap (λ t. pick t y n) (sym (rule_network network x h e)) ∙ g;
    previous_on_b = λ e. ap (λ k. pick (eqb k 65) y n) (sym (eqb-true network 66 (previous_network network x h e))) ∙ g;
    apart = apart_jg network x h;
    sound = λ e. sound_price x.previous (shown_previous network x h e);
    some = λ e. some_price x.previous (shown_previous network x h e);
  }

  -- with the volume v in the first bytes
  with_ends : (v : Volume) (used : ℕ) (part : List ℕ) → explains network unit (beside first v) ≡ true → explains network unit v ≡ true → drop used part ≡ price_text Full x.price ++ (tail_text x ++ R)
      → SideEnds (side_with first letters a b part v used) network unit (used + (length (price_text Full x.price) + length (tail_text x))) x R
  unfolding side_with sided_by pick
  with_ends v used part c e d =
      let k = price_again x.price (sound_price x.price h.price_fits) (some_price x.price h.price_fits) (tail_text x ++ R) in
      let m = k.exact no_more in
      let y = a && explained 65 (beside first v) v in
      let n = b && explained 66 (beside first v) v in
      let g : flag_of network y n ≡ true = still_with first network a b v w f (unit_explains network unit (beside first v) v u c e) in
      let o : (y || n) ≡ true = one_flag network y n g in
      let q : drop (used + k.got.used) part ≡ tail_text x ++ R = ap (λ i. drop (used + i) part) m.0 ∙ sym (drop-drop (length (price_text Full x.price)) used part) ∙ ap (drop (length (price_text Full x.price))) d ∙ drop-append_seam (price_text Full x.price) (tail_text x ++ R) in
      let t = tail_ends part (beginning letters v used y n k.got) (used + k.got.used) (head_count letters) letters y n x.letters.k x.letters.b x.letters.t x.letters.r x.days x.letters.j x.letters.g x.previous R (begins v used part y n k.got g q) (λ i. (z i).ends) in
      record {
        got = record { volume = v; taken = tail_at part (beginning letters v used y n k.got) };
        is = rw (o, d, k.read);
        by_unit = e;
        flags = y;
        others = n;
        on = g;
        tail = subst (λ i. TailEnd (tail_at part (beginning letters v used y n k.got)) i (letters_before letters x.letters.k x.letters.b x.letters.t x.letters.r x.letters.j) y (pick x.letters.j false n) x.letters.g R) (omega (m.0, tail_size x (shown_c network x h), arith)) t;
      }

  unmarked_rest : unmarked (tail_text x ++ R) ≡ true
  unmarked_rest = ap unmarked (tail_parts x R (shown_c network x h)) ∙ unmarked_tail x.letters.k x.letters.b x.letters.t x.letters.r x.days x.letters.j x.letters.g x.previous R (λ i. (z i).mark)

  -- the volume beside it, whichever stands here
  by_shown : (shown : List ℕ) → volume_text network unit x.volume ≡ shown → 1 ≤ x.volume → x.volume < 1000000000 → ((v : Volume) → explains network unit v ≡ true → explains network unit (beside first v) ≡ true)
      → SideEnds (side_at first letters a b (volume_text network unit x.volume ++ (price_text Full x.price ++ (tail_text x ++ R)))) network unit (length (volume_text network unit x.volume) + (length (price_text Full x.price) + length (tail_text x))) x R
  unfolding side_at said_side or_else explains
  by_shown [] e o l c =
      let part = volume_text network unit x.volume ++ (price_text Full x.price ++ (tail_text x ++ R)) in
      let n = (volume_empty network unit x.volume e).0 in
      let i : explains network unit Unsaid ≡ true = ap (λ k. eqb k 100) n in
      let q : part ≡ price_text Full x.price ++ (tail_text x ++ R) = ap (λ v. v ++ (price_text Full x.price ++ (tail_text x ++ R))) e in
      let r = with_ends Unsaid 0 part (c Unsaid i) i q in
      let v : volume_at part ≡ None = ap volume_at q ∙ no_volume x.price (tail_text x ++ R) unmarked_rest in
      record { got = r.got; is = rw v r.is; by_unit = r.by_unit; flags = r.flags; others = r.others; on = r.on; tail = subst (λ k. TailEnd r.got.taken (k + (length (price_text Full x.price) + length (tail_text x))) (letters_before letters x.letters.k x.letters.b x.letters.t x.letters.r x.letters.j) r.flags (pick x.letters.j false r.others) x.letters.g R) (sym (ap length e)) r.tail }
  by_shown (s ∷ shown) e o l c =
      let v = volume_text network unit x.volume in
      let rest = price_text Full x.price ++ (tail_text x ++ R) in
      let k = volume_again network unit x.volume w u o l (λ i. some_not_none s shown (sym e ∙ i)) rest in
      let r = with_ends k.got.volume k.got.used (v ++ rest) (c k.got.volume k.by_unit) k.by_unit (ap (λ n. drop n (v ++ rest)) k.exact ∙ drop-append_seam v rest) in
      record { got = r.got; is = rw (k.read, r.is); by_unit = r.by_unit; flags = r.flags; others = r.others; on = r.on; tail = subst (λ n. TailEnd r.got.taken (n + (length (price_text Full x.price) + length (tail_text x))) (letters_before letters x.letters.k x.letters.b x.letters.t x.letters.r x.letters.j) r.flags (pick x.letters.j false r.others) x.letters.g R) k.exact r.tail }

  -- THE SIDE, EXACTLY OR WITH A PREVIOUS LAST MORE
  pub side_ends : 1 ≤ x.volume → x.volume < 1000000000 → ((v : Volume) → explains network unit v ≡ true → explains network unit (beside first v) ≡ true)
      → SideEnds (side_at first letters a b (volume_text network unit x.volume ++ (price_text Full x.price ++ (tail_text x ++ R)))) network unit (length (volume_text network unit x.volume) + (length (price_text Full x.price) + length (tail_text x))) x R
  side_ends o l c = by_shown (volume_text network unit x.volume) refl o l c
