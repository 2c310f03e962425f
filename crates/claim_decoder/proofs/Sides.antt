-- The parts of a side, decoded: conditions, price and volume. Assumes nothing.
use Prim.Native.Nat.{ℕ, ◌+◌, ◌-◌, ◌*◌, ◌/◌, ◌%◌, ◌^◌, ◌≤◌, ◌<◌}
use native.Mathlib.Nat.{mod-lt, one-le-pow, mul-lt-mul_of_pos_right}
use native.Mathlib.Omega.{arith}
use lib.Pow.{pow-add}
use native.Mathlib.Nat.{add-sub_of_le}
use mathlib.Core.Path.{◌≡◌, refl, sym, ap, ◌∙◌, subst}
use mathlib.Core.Bool.{Bool, true, false, ◌&&◌, ◌||◌, not}
use mathlib.Core.List.{List, [], ◌∷◌, ◌++◌}
use mathlib.Core.Option.{none, some}
use lib.Dec.{leb, eqb}
use borrow.Author.Tests.{leb-false, eqb-true, eqb-false, le-leb, not-false}
use Rattle.text.specs.Pick.{pick, same}
use Rattle.text.proofs.Booleans.{or_left, or_right, false_true, nonzero}
use Rattle.rules.specs.Columns.{between}
use Rattle.rules.specs.Price.{whole_part, fraction, units, form_by}
use Rattle.rules.specs.Volume.{volume_text, full_volume}
use Rattle.rules.specs.Trade as trade
use Rattle.rules.specs.Trade.{ends_in_zero, dollars, full_at, full_price, is_normal, trade_full, trade_form}
use Rattle.rules.specs.Shown.{shown_letters, conditions_of}
use Rattle.rules.specs.declared.Mode.{Mode}
use Rattle.rules.specs.declared.Price.{Price}
use Rattle.rules.specs.declared.Side.{Side}
use Rattle.rules.specs.declared.Settings.{Settings}
use Rattle.rules.specs.declared.Security.{Security}
use Rattle.print_volume.specs.Reading.{Mark, hundreds, tens, shares, mark_text, Shown, unsaid, said, shares_of, shown_of, shown_text}
use Rattle.print_volume.proofs.VolumeBack.{volume_shown, shares_back}
use Rattle.print_price.specs.Reading.{shown_whole, shown_price}
use Rattle.print_price.proofs.PriceBack.{full_price_lem}
use Rattle.print_conditions.specs.Reading.{if_there, tail_of}
use Rattle.name_back.specs.Cut.{plain, opened, sold, last, sold_of, after_of, one_sold}
use Rattle.claim_decoder.specs.Decode.{given, value_in, is_opened, is_sold, is_last, conditions_by, price_by, volume_by}
use Rattle.claim_decoder.specs.Lawful.{LawfulSide}
use Rattle.rules.specs.declared.PriceForm.TheVariants.{Full, Short}

-- ---- conditions

sold_flags : (o s l : Bool) → (not (o && s) && (not (o && l) && not (s && l))) ≡ true
    → (is_opened (pick o opened (pick s sold (pick l last plain))) ≡ o) × (is_sold (pick o opened (pick s sold (pick l last plain))) ≡ s) × (is_last (pick o opened (pick s sold (pick l last plain))) ≡ l)
unfolding pick
sold_flags true true l h = absurd (false_true h)
sold_flags true false true h = absurd (false_true h)
sold_flags true false false h = (refl, refl, refl)
sold_flags false true true h = absurd (false_true h)
sold_flags false true false h = (refl, refl, refl)
sold_flags false false true h = (refl, refl, refl)
sold_flags false false false h = (refl, refl, refl)

pub given_is : (b : Bool) (n : ℕ) → given (if_there b n) ≡ b
unfolding pick
given_is true n = refl
given_is false n = refl

value_is : (b : Bool) (n : ℕ) → (b ≡ false → n ≡ 0) → value_in (if_there b n) ≡ n
unfolding pick
value_is true n h = refl
value_is false n h = sym (h refl)

-- THE CONDITIONS ARE THOSE SHOWN
pub conditions_by_lem : (x : Side) → LawfulSide x → conditions_by (after_of x.letters) (tail_of x) ≡ conditions_of x
unfolding conditions_by after_of sold_of tail_of conditions_of shown_letters one_sold
conditions_by_lem x h =
    let f = sold_flags x.letters.o x.letters.s x.letters.l h.sold in
    rw (f.0, f.1, f.2, given_is x.letters.r x.days, given_is x.letters.g (units x.previous), value_is x.letters.r x.days h.days, value_is x.letters.g (units x.previous) h.last)

-- ---- price

-- the fraction of a price, in units
abbrev part : Price → ℕ
part p = fraction p * 10 ^ (8 - p.d)

part_small : (p : Price) → p.d ≤ 8 → part p < 100000000
unfolding fraction
part_small p h =
    let f : p.n % 10 ^ p.d < 10 ^ p.d = mod-lt p.n (one-le-pow p.d 10 (omega arith)) in
    let e : 10 ^ p.d * 10 ^ (8 - p.d) ≡ 100000000 = sym (pow-add 10 p.d (8 - p.d)) ∙ ap (λ (k : ℕ). 10 ^ k) (add-sub_of_le h) in
    subst (λ (k : ℕ). part p < k) e (mul-lt-mul_of_pos_right f (one-le-pow (8 - p.d) 10 (omega arith)))

shown_full : (p : Price) → shown_price Full p ≡ whole_part p * 100000000 + part p
unfolding shown_price shown_whole
shown_full p = refl

shown_short : (p : Price) → shown_price Short p ≡ whole_part p % 10 * 100000000 + part p
unfolding shown_price shown_whole
shown_short p = refl

-- what a price that is not full says of the last printed
record Shortened (s : Security) (w : ℕ) : Type 0 where
  same_tens : w / 10 ≡ dollars s.printed.price / 10
  some_digit : w % 10 ≡ 0 → ⊥

short_is : (s : Security) (market : ℕ) (x : Side) → full_price s market x ≡ false → Shortened s (whole_part x.price)
unfolding full_price full_at trade.tens ends_in_zero
short_is s market x h =
    let w = whole_part x.price in
    let a = or_right (eqb s.printed.price 0) _ h in
    let t = or_left (not (eqb (w / 10) (dollars s.printed.price / 10))) _ a in
    let b = or_right (not (eqb (w / 10) (dollars s.printed.price / 10))) _ a in
    let z = or_left (eqb (w % 10) 0) _ b in
    record { same_tens = eqb-true (w / 10) (dollars s.printed.price / 10) (not-false (eqb (w / 10) (dollars s.printed.price / 10)) t); some_digit = eqb-false (w % 10) 0 z }

between_yes : (n : ℕ) → 1 ≤ n → n ≤ 9 → between 1 9 n ≡ true
unfolding between
between_yes n h k = rw (le-leb 1 n h, le-leb n 9 k)

dollars_of : (w f : ℕ) → f < 100000000 → dollars (w * 100000000 + f) ≡ w
unfolding dollars
dollars_of w f h = omega arith

module _ (s : Security) (x : Side) (h : LawfulSide x) where
  abbrev p : Price
  p = x.price

  abbrev w : ℕ
  w = whole_part p

  abbrev Decoded : Bool → ℕ → Type 0
  Decoded m price = pick (not m && (between 1 9 (dollars price) && leb 10 (dollars s.printed.price))) (trade.tens (dollars s.printed.price) * 10 * 100000000 + price) price ≡ units p

  in_full : (m : Bool) → (not m && (between 1 9 w && leb 10 (dollars s.printed.price))) ≡ false → Decoded m (shown_price Full p)
  unfolding pick
  in_full m k =
      let e : dollars (shown_price Full p) ≡ w = ap dollars (shown_full p) ∙ dollars_of w (part p) (part_small p h.owed.price.decimals) in
      rw (e, k) (full_price_lem p h.owed.price.decimals)

  in_short : Shortened s w → Decoded false (shown_price Short p)
  unfolding pick trade.tens
  in_short k = go (leb 10 (dollars s.printed.price)) refl
    where
      e : dollars (shown_price Short p) ≡ w % 10
      e = ap dollars (shown_short p) ∙ dollars_of (w % 10) (part p) (part_small p h.owed.price.decimals)

      digit : between 1 9 (w % 10) ≡ true
      digit = between_yes (w % 10) (nonzero (w % 10) k.some_digit) (omega arith)

      whole : units p ≡ w * 100000000 + part p
      whole = sym (full_price_lem p h.owed.price.decimals) ∙ shown_full p

      go : (b : Bool) → leb 10 (dollars s.printed.price) ≡ b → Decoded false (shown_price Short p)
      go true q = rw (e, digit, q) (rw (shown_short p) (omega (arith, k.same_tens, whole)))
      go false q = rw (e, digit, q) (rw (shown_short p) (omega (arith, k.same_tens, whole, leb-false 10 (dollars s.printed.price) q)))

-- THE PRICE IS THE ONE SHOWN, where the premise holds
pub price_by_lem : (st : Settings) (s : Security) (market : ℕ) (x : Side) → LawfulSide x → (not (is_normal st.mode) && (between 1 9 (whole_part x.price) && leb 10 (dollars s.printed.price))) ≡ false
    → price_by st.mode s.printed.price (shown_price (trade_form st s market x) x.price) ≡ units x.price
unfolding price_by trade_form trade_full form_by pick
price_by_lem st s market x h k = go (is_normal st.mode) (full_price s market x) k (short_is s market x)
  where
    go : (m f : Bool) → (not m && (between 1 9 (whole_part x.price) && leb 10 (dollars s.printed.price))) ≡ false → (f ≡ false → Shortened s (whole_part x.price)) → Decoded s x h m (shown_price (form_by (m || f)) x.price)
    go true f k e = in_full s x h true k
    go false true k e = in_full s x h false k
    go false false k e = in_short s x h (e refl)

-- ---- volume

-- what is shown is some text
some_text : (t u : List ℕ) → same u [] ≡ false → same (t ++ u) [] ≡ false
unfolding same
some_text [] u h = h
some_text (c ∷ t) u h = refl

mark_some : (m : Mark) → same (mark_text m) [] ≡ false
unfolding mark_text same
mark_some hundreds = refl
mark_some tens = refl
mark_some shares = refl

said_some : (n : ℕ) (m : Mark) → same (shown_text (said n m)) [] ≡ false
unfolding shown_text
said_some n m = some_text (full_volume n) (mark_text m) (mark_some m)

unsaid_none : same (shown_text unsaid) [] ≡ true
unfolding shown_text same
unsaid_none = refl

-- THE VOLUME IS THE ONE SHOWN
pub volume_by_lem : (mode : Mode) (shows : Bool) (network unit v : ℕ) → volume_by mode (pick (is_normal mode || shows) (shown_of network unit v) unsaid) ≡ pick (is_normal mode || ((is_normal mode || shows) && not (same (volume_text network unit v) []))) (some v) none
unfolding pick volume_by shares_of
volume_by_lem mode shows network unit v = rw (volume_shown network unit v) (go (is_normal mode) shows (shown_of network unit v) refl (shares_back network unit v))
  where
    go : (m b : Bool) (x : Shown) → is_normal mode ≡ m → shares_of x ≡ v → volume_by mode (pick (m || b) x unsaid) ≡ pick (m || ((m || b) && not (same (shown_text x) []))) (some v) none
    go true b unsaid e f = rw e (ap some f)
    go true b (said n k) e f = ap some f
    go false true unsaid e f = rw (e, unsaid_none)
    go false true (said n k) e f = rw (said_some n k) (ap some f)
    go false false x e f = rw e
