-- A side that nothing stops, with its letters as they are shown, is one that a line can have. Assumes nothing.
use Prim.Native.Nat.{ℕ, ◌+◌, ◌^◌, ◌≤◌, ◌<◌}
use native.Mathlib.Nat.{pow-le-pow_right, one-le-pow}
use native.Mathlib.Omega.{arith}
use mathlib.Core.Path.{◌≡◌, refl, sym, ap, ◌∙◌}
use mathlib.Core.Bool.{Bool, true, false, ◌&&◌, ◌||◌, not}
use mathlib.Core.List.{List}
use lib.Dec.{eqb, leb}
use lib.ListN.{length, drop, length-take}
use borrow.Author.Tests.{leb-true, ltb-true, eqb-true}
use Rattle.text.specs.Bytes.{bytes}
use Rattle.text.specs.Pick.{pick, among}
use Rattle.text.proofs.Texts.{and_left, and_right}
use Rattle.text.proofs.Tests.{is_le}
use Rattle.text.proofs.Booleans.{false_true}
use Rattle.rules.specs.Columns.{columns, word, is_number, value_of, passes, between}
use Rattle.rules.specs.Conditions.{letters_in, lawful_letters, unrepeated, at_most_one, on_network}
use Rattle.rules.specs.Shown.{shown_letters}
use Rattle.rules.specs.Line.{is_price, previous_ranged, ranged_by, side_by, matched_by, alike, side_ranged, side_of, side_matched, volume_in, price_in, decimals_in, letters_field, days_in, previous_in, previous_decimals_in}
use Rattle.rules.specs.declared.Number.{Number}
use Rattle.rules.specs.declared.Number.TheVariants.{Blank, Bad, Is}
use Rattle.rules.specs.declared.Price.{Price}
use Rattle.rules.specs.declared.Letters.{Letters}
use Rattle.rules.specs.declared.Side.{Side}
use Rattle.print_price.specs.Sound.{Sound}
use Rattle.name_back.specs.Cut.{one_sold}
use Rattle.name_back.proofs.Letters.{at_most_one_lem, lawful_one_sold}
use Rattle.line_owed.specs.Shown.{letter_count, one_delivery, showable, Showable, shown_side}
use Rattle.line_owed.specs.Owed.{OwedSide}
use Rattle.line_owed.proofs.Below.{number_below, in_range}
use Rattle.line_owed.proofs.Count.{four}

-- ---- letters

cross : (a b c d : Bool) → (a && c) ≡ false → (a && d) ≡ false → (b && c) ≡ false → (b && d) ≡ false → ((a || b) && (c || d)) ≡ false
cross true b c d h i j k = rw (h, i)
cross false true c d h i j k = rw (j, k)
cross false false c d h i j k = refl

lean : (a b c : Bool) → (a && c) ≡ false → (b && c) ≡ false → ((a || b) && c) ≡ false
lean true b c h i = h
lean false b c h i = i

one_delivery_lem : (field : List ℕ) → lawful_letters field ≡ true → one_delivery (shown_letters (letters_in field)) ≡ true
unfolding lawful_letters one_delivery shown_letters letters_in among
one_delivery_lem field h =
    let w = word field in
    let g = bytes "NMCKR" in
    let a = and_right (at_most_one (bytes "OSL") w) (at_most_one g w) (and_right (unrepeated w) (at_most_one (bytes "OSL") w && at_most_one g w) h) in
    rw (
      cross (among 78 w) (among 77 w) (among 67 w) (among 75 w) (at_most_one_lem g w 78 67 a refl refl refl) (at_most_one_lem g w 78 75 a refl refl refl) (at_most_one_lem g w 77 67 a refl refl refl) (at_most_one_lem g w 77 75 a refl refl refl),
      lean (among 78 w) (among 77 w) (among 82 w) (at_most_one_lem g w 78 82 a refl refl refl) (at_most_one_lem g w 77 82 a refl refl refl),
      lean (among 67 w) (among 75 w) (among 82 w) (at_most_one_lem g w 67 82 a refl refl refl) (at_most_one_lem g w 75 82 a refl refl refl),
    )

one_sold_lem : (x : Letters) → one_sold x ≡ true → one_sold (shown_letters x) ≡ true
unfolding one_sold shown_letters
one_sold_lem x h = h

shows : (field : List ℕ) → length field ≤ 4 → lawful_letters field ≡ true → showable (shown_letters (letters_in field)) ≡ true
unfolding showable shown_letters
shows field l h = rw (four field l, one_sold_lem (letters_in field) (lawful_one_sold field h), one_delivery_lem field h)

-- ---- numbers

days_shown : (b : Bool) (n : Number) → value_of n < 10 ^ 3 → passes (leb 1) n ≡ true → alike b (is_number n) ≡ true → pick b (between 1 999 (value_of n)) (eqb (value_of n) 0) ≡ true
unfolding alike is_number value_of passes between pick
days_shown true Blank s p h = absurd (false_true h)
days_shown true Bad s p h = absurd (false_true h)
days_shown true (Is n) s p h = rw (p) (sym (is_le n 999 (omega (s, arith))))
days_shown false Blank s p h = refl
days_shown false Bad s p h = refl
days_shown false (Is n) s p h = absurd (false_true h)

previous_shown : (b : Bool) (m e : Number) → previous_ranged m e ≡ true → alike b (is_number m) ≡ true → alike b (is_number e) ≡ true → pick b (is_price (value_of m) (value_of e)) (eqb (value_of m) 0 && eqb (value_of e) 0) ≡ true
unfolding alike is_number value_of previous_ranged pick
previous_shown true Blank e p h k = absurd (false_true h)
previous_shown true Bad e p h k = absurd (false_true h)
previous_shown true (Is m) Blank p h k = absurd (false_true k)
previous_shown true (Is m) Bad p h k = absurd (false_true k)
previous_shown true (Is m) (Is e) p h k = p
previous_shown false Blank Blank p h k = refl
previous_shown false Blank Bad p h k = refl
previous_shown false Blank (Is e) p h k = absurd (false_true k)
previous_shown false Bad Blank p h k = refl
previous_shown false Bad Bad p h k = refl
previous_shown false Bad (Is e) p h k = absurd (false_true k)
previous_shown false (Is m) e p h k = absurd (false_true h)

on_shown : (network : ℕ) (x : Letters) → on_network network x ≡ true → on_network network (shown_letters x) ≡ true
unfolding on_network shown_letters
on_shown network x h = h

shown_volume : (v : ℕ) → leb 1 v ≡ true → v < 1000000000 → between 1 999999999 v ≡ true
unfolding between
shown_volume v h l = rw h (sym (is_le v 999999999 (omega (l, arith))))

-- 5, 10 and 11 do not stop the side
pub showable_side : (network : ℕ) (side : List ℕ) → side_ranged side ≡ true → lawful_letters (letters_field side) ≡ true → side_matched side ≡ true → on_network network (side_of side).letters ≡ true → Showable network (shown_side (side_of side))
unfolding side_ranged side_matched side_of ranged_by matched_by side_by shown_side shown_letters letters_in
showable_side network side h k m o =
    let v = value_of (volume_in side) in
    let r = and_right (leb 1 v) _ h in
    let p = is_price (value_of (price_in side)) (value_of (decimals_in side)) in
    let q = and_right p _ r in
    let a = alike (letters_in (letters_field side)).r (is_number (days_in side)) in
    let b = alike (letters_in (letters_field side)).g (is_number (previous_in side)) in
    record {
      letters_fit = shows (letters_field side) (omega (length-take 4 (drop 24 side), arith)) k;
      on = on_shown network (letters_in (letters_field side)) o;
      volume_fits = shown_volume v (and_left (leb 1 v) _ h) (number_below 9 (columns 1 9 side) (omega (length-take 9 side, arith)));
      price_fits = and_left p _ r;
      days_fit = days_shown (letters_in (letters_field side)).r (days_in side) (number_below 3 (columns 29 31 side) (omega (length-take 3 (drop 28 side), arith))) (and_left (passes (leb 1) (days_in side)) _ q) (and_left a _ m);
      previous_fits = previous_shown (letters_in (letters_field side)).g (previous_in side) (previous_decimals_in side) (and_right (passes (leb 1) (days_in side)) _ q) (and_left b _ (and_right a _ m)) (and_right b _ (and_right a _ m));
    }

-- ---- a side that a line can have is within its values

pub some_price : (p : Price) → is_price p.n p.d ≡ true → 1 ≤ p.n
unfolding is_price
some_price p h = leb-true 1 p.n (and_left (leb 1 p.n) _ h)

pub sound_price : (p : Price) → is_price p.n p.d ≡ true → Sound p
unfolding is_price
sound_price p h = let k = and_right (leb 1 p.n) _ h in record { decimals = leb-true p.d 8 (and_left (leb p.d 8) _ k); small = ltb-true p.n (10 ^ (6 + p.d)) (and_right (leb p.d 8) _ k) }

pub sound_below : (p : Price) → Sound p → p.n < 10 ^ 14
sound_below p h = omega (arith, h.small, pow-le-pow_right {n = 10} (omega arith) {i = 6 + p.d} {j = 14} (omega (arith, h.decimals)))

days_below : (b : Bool) (n : ℕ) → pick b (between 1 999 n) (eqb n 0) ≡ true → n < 1000
unfolding pick
days_below true n h = omega (arith, (in_range 1 999 n h).1)
days_below false n h = omega (arith, eqb-true n 0 h)

module _ (network : ℕ) (x : Side) (h : Showable network x) where
  pub days_none : x.letters.r ≡ false → x.days ≡ 0
  unfolding pick
  days_none e = eqb-true x.days 0 (ap (λ b. pick b (between 1 999 x.days) (eqb x.days 0)) (sym e) ∙ h.days_fit)

  -- with G a price, without it none
  pub shown_previous : x.letters.g ≡ true → is_price x.previous.n x.previous.d ≡ true
  unfolding pick
  shown_previous e = ap (λ b. pick b (is_price x.previous.n x.previous.d) (eqb x.previous.n 0 && eqb x.previous.d 0)) (sym e) ∙ h.previous_fits

  pub previous_none : x.letters.g ≡ false → (x.previous.n ≡ 0) × (x.previous.d ≡ 0)
  unfolding pick
  previous_none e =
      let k = ap (λ b. pick b (is_price x.previous.n x.previous.d) (eqb x.previous.n 0 && eqb x.previous.d 0)) (sym e) ∙ h.previous_fits in
      (eqb-true x.previous.n 0 (and_left (eqb x.previous.n 0) _ k), eqb-true x.previous.d 0 (and_right (eqb x.previous.n 0) _ k))

  pub previous_sound : Sound x.previous
  previous_sound = go x.letters.g refl
    where
      go : (b : Bool) → x.letters.g ≡ b → Sound x.previous
      go true e = sound_price x.previous (shown_previous e)
      go false e = let z = previous_none e in record { decimals = omega (arith, z.1); small = rw z.0 (one-le-pow (6 + x.previous.d) 10 (omega arith)) }

  pub shown_sold : one_sold x.letters ≡ true
  unfolding showable
  shown_sold = and_left (one_sold x.letters) _ (and_right (leb (letter_count x.letters) 4) _ (and_right (not x.letters.c) _ (and_right (not x.letters.n) _ h.letters_fit)))

  pub shown_owed : OwedSide x
  shown_owed =
      let v = in_range 1 999999999 x.volume h.volume_fits in
      record {
        some = v.0;
        volume = omega (arith, v.1);
        priced = some_price x.price h.price_fits;
        price = sound_price x.price h.price_fits;
        days = days_below x.letters.r x.days h.days_fit;
        last = sound_below x.previous previous_sound;
        decimals = previous_sound.decimals;
      }
