-- A line read all at once: its fields, in their form and within their values. Assumes nothing.
use Prim.Native.Nat.{ℕ, zero, suc, ◌+◌, ◌-◌, ◌≤◌, ◌<◌}
use native.Mathlib.Omega.{arith}
use mathlib.Core.Path.{◌≡◌, refl, sym, ap, ◌∙◌}
use mathlib.Core.Bool.{Bool, true, false, ◌&&◌, not}
use mathlib.Core.List.{List, [], ◌∷◌}
use Rattle.std.specs.Prelude.{Option, Some, IfSome}
use Rattle.std.proofs.lemmas.Option.{IfSome_then}
use lib.ListN.{length, get_or, take, drop, length-take, length-drop}
use lib.Seq.{drop-cons, drop-drop}
use lib.Dec.{leb, eqb}
use borrow.Author.Tests.{eq-eqb, ne_eqb, eqb-true, eqb-false, leb-true, le-leb, not-false}
use Rattle.text.specs.Pick.{pick, all}
use Rattle.text.specs.Reading.{is_digit}
use Rattle.text.proofs.Texts.{and_left, and_right}
use Rattle.text.proofs.Parts.{take_within, all_parts}
use Rattle.line_columns.specs.Columns.{stands, worth_of, formed, placed}
use Rattle.line_columns.proofs.Parts.{blank_part, blank_number}
use Rattle.line_columns.proofs.Numbers.{number_stands, stands_in}
use Rattle.rules.specs.declared.Letters.{Letters}
use Rattle.rules.specs.declared.Number.TheVariants.{Blank, Is}
use Rattle.rules.specs.Columns.{columns, column, is_blank, blank, justified, digits_from, zero_alone, numeral, number_in, is_number, number_or_blank, value_of, passes, between}
use Rattle.rules.specs.Conditions.{letters_formed, letters_in, lawful_letters}
use Rattle.rules.specs.Line.{is_printable, is_shaped, is_market, is_price, is_security_number, volume_in, price_in, decimals_in, letters_field, days_in, previous_in, previous_decimals_in, formed_by, ranged_by, side_by, matched_by, alike, previous_ranged, side_formed, side_ranged, side_of, side_matched, first_side, trade_formed, trade_ranged, trade_of}
use Rattle.rules.specs.Sizes.{width}
use Rattle.line_trade.specs.declared.TradeLine.{TradeLine}
use Rattle.line_letters.proofs.Letters.{lawful_none, lawful_one}
use Rattle.line_trade.specs.TradeLine.{is_good, line_in, trade_line}
use Rattle.line_trade.specs.Quick.{Placed, security_worth, volume_worth, n_worth, d_worth, short_side, quick_line, QuickValues}
use Rattle.line_trade.proofs.Printable.{printable_blank, printable_number, printable_letters, printable_market, printable_kind, one_then, part_then, part_last}

-- ---- the side

-- what the side's columns hold: blanks behind the letters
record ShortSide (part : List ℕ) (v n d : ℕ) : Type 0 where
  volume_is : volume_in part ≡ Is v
  some : 1 ≤ v
  n_is : price_in part ≡ Is n
  d_is : decimals_in part ≡ Is d
  price : is_price n d ≡ true
  letters : letters_formed (letters_field part) ≡ true
  no_r : (letters_in (letters_field part)).r ≡ false
  no_g : (letters_in (letters_field part)).g ≡ false
  rest : blank (columns 29 46 part) ≡ true

module _ (part : List ℕ) (v n d : ℕ) (h : ShortSide part v n d) where
  inner : (k j : ℕ) → j + k ≤ 18 → blank (take k (drop (28 + j) part)) ≡ true
  inner k j l = rw (← drop-drop j 28 part) (blank_part k j 18 (drop 28 part) l h.rest)

  no_days : days_in part ≡ Blank
  no_days = blank_number _ (inner 3 0 (omega arith))

  no_previous : previous_in part ≡ Blank
  no_previous = blank_number _ (inner 14 3 (omega arith))

  no_decimals : previous_decimals_in part ≡ Blank
  no_decimals = blank_number _ (inner 1 17 (omega arith))

  side_formed_lem : side_formed part ≡ true
  unfolding side_formed formed_by is_number number_or_blank
  side_formed_lem = rw (h.volume_is, h.n_is, h.d_is, no_days, no_previous, no_decimals, h.letters)

  side_ranged_lem : side_ranged part ≡ true
  unfolding side_ranged ranged_by value_of passes previous_ranged
  side_ranged_lem = rw (h.volume_is, h.n_is, h.d_is, no_days, no_previous, no_decimals, le-leb 1 _ h.some, h.price)

  side_is : side_of part ≡ short_side v n d (letters_in (letters_field part))
  unfolding side_of side_by value_of short_side
  side_is = rw (h.volume_is, h.n_is, h.d_is, no_days, no_previous, no_decimals)

  side_matched_lem : side_matched part ≡ true
  unfolding side_matched matched_by alike is_number pick
  side_matched_lem = rw (no_days, no_previous, no_decimals, h.no_r, h.no_g)

  side_printable : length part ≡ 46 → all is_printable part ≡ true
  side_printable l =
      part_then is_printable part 0 9 (printable_number _ _ h.volume_is)
      (part_then is_printable part 9 14 (printable_number _ _ h.n_is)
      (part_then is_printable part 23 1 (printable_number _ _ h.d_is)
      (part_then is_printable part 24 4 (printable_letters _ h.letters)
      (part_last is_printable part 28 18 l (printable_blank _ h.rest)))))

-- ---- the line

-- columns of the line's side are columns of the line
side_columns : (j k : ℕ) (line : List ℕ) → j + k ≤ 46 → take k (drop j (first_side line)) ≡ take k (drop (6 + j) line)
side_columns j k line h = take_within k j 46 (drop 6 line) h ∙ rw (drop-drop j 6 line)

-- what the line's columns hold
record ShortLine (line : List ℕ) : Type 0 where
  security_is : number_in (columns 2 5 line) ≡ Is (security_worth line)
  place : is_security_number (security_worth line) ≡ true
  market : is_market (column 6 line) ≡ true
  side : ShortSide (first_side line) (volume_worth line) (n_worth line) (d_worth line)
  lawful : lawful_letters (letters_field (first_side line)) ≡ true
  rest : blank (columns 53 width line) ≡ true

module _ (line : List ℕ) (l : length line ≡ width) (t : get_or line 0 0 ≡ 84) (h : ShortLine line) where
  line_printable : all is_printable line ≡ true
  line_printable =
      one_then is_printable line 0 (omega arith) (ap is_printable t ∙ printable_kind)
      (part_then is_printable line 1 4 (printable_number _ _ h.security_is)
      (one_then is_printable line 5 (omega arith) (printable_market _ h.market)
      (part_then is_printable line 6 46 (side_printable (first_side line) _ _ _ h.side (rw (length-take, length-drop) (omega arith)))
      (part_last is_printable line 52 48 l (printable_blank _ h.rest)))))

  line_shaped : is_shaped line ≡ true
  unfolding is_shaped
  line_shaped = rw (eq-eqb (length line) width l, line_printable)

  line_formed : trade_formed line ≡ true
  unfolding trade_formed is_number
  line_formed = rw (h.security_is, h.market, side_formed_lem (first_side line) _ _ _ h.side, h.rest)

  line_ranged : trade_ranged line ≡ true
  unfolding trade_ranged value_of
  line_ranged = rw (h.security_is, h.place, side_ranged_lem (first_side line) _ _ _ h.side)

  line_trade : trade_of line ≡ record { security = security_worth line; market = column 6 line; side = short_side (volume_worth line) (n_worth line) (d_worth line) (letters_in (letters_field (first_side line))); lawful = true; matched = true }
  unfolding trade_of value_of
  line_trade = rw (h.security_is, side_is (first_side line) _ _ _ h.side, h.lawful, side_matched_lem (first_side line) _ _ _ h.side)

  line_good : is_good line ≡ true
  unfolding is_good
  line_good = rw (line_shaped, eq-eqb (get_or line 0 0) 84 t, line_formed, line_ranged, line_trade)

  line_read : trade_line line ≡ Some (quick_line line (letters_in (letters_field (first_side line))))
  unfolding quick_line trade_line line_in short_side pick
  line_read = rw (line_good, line_trade)

-- ---- the fields, each as it was read

digit_alone : (c : ℕ) → 48 ≤ c → c ≤ 57 → (b : Bool) → eqb c 48 ≡ b → number_in (c ∷ []) ≡ Is (c - 48)
unfolding number_in justified is_blank numeral zero_alone digits_from is_digit pick
digit_alone c h k true e =
    let z = eqb-true c 48 e in
    rw (ne_eqb c 32 (λ q. absurd (omega arith)), e) (ap Is (omega arith))
digit_alone c h k false e = rw (ne_eqb c 32 (λ q. absurd (omega arith)), e, le-leb 48 c h, le-leb c 57 k) (ap Is (omega arith))

-- what is not 0 is within
within : (s : List ℕ) (j : ℕ) → 1 ≤ get_or s j 0 → j < length s
within [] j h = absurd (omega arith)
within (c ∷ s) zero h = omega arith
within (c ∷ s) (suc j) h = let k = within s j h in omega arith

digit_column : (s : List ℕ) (j : ℕ) → 48 ≤ get_or s j 0 → get_or s j 0 ≤ 57 → number_in (take 1 (drop j s)) ≡ Is (get_or s j 0 - 48)
digit_column s j h k = rw (drop-cons s j 0 (within s j (omega arith))) (digit_alone (get_or s j 0) h k (eqb (get_or s j 0) 48) refl)

from_one : (n d : ℕ) → is_price n d ≡ true → 1 ≤ n
unfolding is_price
from_one n d h = leb-true 1 n (and_left (leb 1 n) _ h)

security_from_one : (n : ℕ) → is_security_number n ≡ true → 1 ≤ n
unfolding is_security_number between
security_from_one n h = leb-true 1 n (and_left (leb 1 n) _ h)

values_are : (line : List ℕ) (letters : Letters) (v a n x w : ℕ) → v ≡ security_worth line → a ≡ volume_worth line → n ≡ n_worth line → x ≡ get_or line 5 0 → w ≡ get_or line 29 0
    → (record { security = v; market = x; volume = a; n = n; d = w - 48; letters = letters; days = 0; m = 0; e = 0 }) ≡ quick_line line letters
unfolding quick_line
values_are line letters v a n x w ev ea en ex ew = rw (ev, ea, en, ex, ew)

module _ (line : List ℕ) (letters : Letters) (m s q : Bool) (v a n w x : ℕ) where
  pub values_read : 48 ≤ get_or line 29 0 → get_or line 29 0 ≤ 56 → m ≡ is_market (get_or line 5 0) → not m ≡ false → v ≡ worth_of 0 (take 4 (drop 1 line)) → s ≡ is_security_number v → not s ≡ false
      → a ≡ worth_of 0 (take 9 (drop 6 line)) → 1 ≤ a → n ≡ worth_of 0 (take 14 (drop 15 line)) → w ≡ get_or line 29 0 → q ≡ is_price n (w - 48) → not q ≡ false → x ≡ get_or line 5 0
      → QuickValues line letters (record { security = v; market = x; volume = a; n = n; d = w - 48; letters = letters; days = 0; m = 0; e = 0 })
  values_read lo hi em nm ev es ns ea sa en ew eq nq ex = record {
    is = values_are line letters v a n x w ev ea en ex ew;
    place = rw (← ev) (sym es ∙ not-false s ns);
    market = sym em ∙ not-false m nm;
    some = rw (← ea) sa;
    d_is = digit_column line 29 lo (omega arith);
    price = rw (← en, ← ew) (sym eq ∙ not-false q nq);
  }

-- ---- the numbers, by their places in the tables

-- the tables have the security at column 2, the volume at column 7, n at column 16
unfoldable pub tabled : List ℕ → List ℕ → Bool
tabled fs ms = placed true 4 fs ms && (placed true 9 (drop 5 fs) (drop 5 ms) && placed true 14 (drop 14 fs) (drop 14 ms))

module _ (fs ms line : List ℕ) (f : formed fs ms (get_or (take 33 line) 0 0) (drop 1 (take 33 line)) ≡ true) (t : tabled fs ms ≡ true) where
  -- k columns from column j of the tables on
  stand_at : (j k : ℕ) → 1 + j + k ≤ 33 → placed true k (drop j fs) (drop j ms) ≡ true → stands true (take k (drop (1 + j) line)) ≡ true
  stand_at j k h p = stands_in fs ms line 33 j k f h p

  security_stands : stands true (take 4 (drop 1 line)) ≡ true
  unfolding tabled
  security_stands = stand_at 0 4 (omega arith) (and_left (placed true 4 fs ms) _ t)

  later_tables : (placed true 9 (drop 5 fs) (drop 5 ms) && placed true 14 (drop 14 fs) (drop 14 ms)) ≡ true
  unfolding tabled
  later_tables = and_right (placed true 4 fs ms) _ t

  volume_stands : stands true (take 9 (drop 6 line)) ≡ true
  volume_stands = stand_at 5 9 (omega arith) (and_left (placed true 9 (drop 5 fs) (drop 5 ms)) _ later_tables)

  n_stands : stands true (take 14 (drop 15 line)) ≡ true
  n_stands = stand_at 14 14 (omega arith) (and_right (placed true 9 (drop 5 fs) (drop 5 ms)) _ later_tables)

pub all_placed : (fs ms line : List ℕ) (f b g : Bool) → f ≡ formed fs ms (get_or (take 33 line) 0 0) (drop 1 (take 33 line)) → f ≡ true → tabled fs ms ≡ true → b ≡ blank (take 64 (drop 36 line)) → b ≡ true → g ≡ blank (take 2 (drop 34 line)) → g ≡ true → Placed line
all_placed fs ms line f b g ef f_yes t eb b_yes eg h =
    let k = sym ef ∙ f_yes in
    record {
      security = security_stands fs ms line k t;
      volume = volume_stands fs ms line k t;
      n = n_stands fs ms line k t;
      next = sym eg ∙ h;
      rest = sym eb ∙ b_yes;
    }

pub placed_told : (line : List ℕ) (a : Bool) → (a ≡ true → Placed line) → not a ≡ false → Placed line
placed_told line a h k = h (not-false a k)

-- blanks from column 35 on, of the line's side
side_rest : (line : List ℕ) → blank (take 2 (drop 34 line)) ≡ true → blank (take 64 (drop 36 line)) ≡ true → blank (take 18 (drop 28 (first_side line))) ≡ true
unfolding blank
side_rest line h k =
    rw (side_columns 28 18 line (omega arith))
    (sym (all_parts is_blank 34 2 16 line) ∙ rw (h, blank_part 16 0 64 (drop 36 line) (omega arith) k))

module _ (line : List ℕ) (x : Letters) (p : TradeLine) (at : Placed line) (o : letters_formed (take 4 (drop 30 line)) ≡ true) (w : lawful_letters (take 4 (drop 30 line)) ≡ true)
    (ex : x ≡ letters_in (take 4 (drop 30 line))) (nr : x.r ≡ false) (ng : x.g ≡ false) (v : QuickValues line x p) where
  letters_same : letters_field (first_side line) ≡ take 4 (drop 30 line)
  letters_same = side_columns 24 4 line (omega arith)

  short_side_lem : ShortSide (first_side line) (volume_worth line) (n_worth line) (d_worth line)
  short_side_lem = record {
    volume_is = ap number_in (side_columns 0 9 line (omega arith)) ∙ number_stands _ at.volume v.some;
    some = v.some;
    n_is = ap number_in (side_columns 9 14 line (omega arith)) ∙ number_stands _ at.n (from_one (n_worth line) (d_worth line) v.price);
    d_is = ap number_in (side_columns 23 1 line (omega arith)) ∙ v.d_is;
    price = v.price;
    letters = ap letters_formed letters_same ∙ o;
    no_r = rw (letters_same, ← ex) nr;
    no_g = rw (letters_same, ← ex) ng;
    rest = side_rest line at.next at.rest;
  }

  short_line : ShortLine line
  short_line = record {
    security_is = number_stands _ at.security (security_from_one (security_worth line) v.place);
    place = v.place;
    market = v.market;
    side = short_side_lem;
    lawful = ap lawful_letters letters_same ∙ w;
    rest = rw (drop-drop 16 36 line) at (blank_part 48 16 64 (drop 36 line) (omega arith) at.rest);
  }

  quick_is : length line ≡ width → get_or line 0 0 ≡ 84 → trade_line line ≡ Some p
  quick_is l t = line_read line l t short_line ∙ ap Some (sym (v.is ∙ ap (quick_line line) (ex ∙ ap letters_in (sym letters_same))))

-- one letter at most is lawful by itself
lawful_short : (field : List ℕ) → length field ≡ 4 → get_or field 1 0 ≡ 32 → lawful_letters field ≡ true
lawful_short field l h = go (eqb (get_or field 0 0) 32) refl
  where
    go : (b : Bool) → eqb (get_or field 0 0) 32 ≡ b → lawful_letters field ≡ true
    go true e = sym (lawful_none field (omega arith) (eqb-true (get_or field 0 0) 32 e))
    go false e = sym (lawful_one field (omega arith) (eqb-false (get_or field 0 0) 32 e) h)

module _ (line : List ℕ) (l : length line ≡ width) (b : Bool) (eb : b ≡ (eqb (get_or (take 4 (drop 30 line)) 1 0) 32 && letters_formed (take 4 (drop 30 line)))) (nb : not b ≡ false) where
  field_length : length (take 4 (drop 30 line)) ≡ 4
  field_length = rw (length-take, length-drop) (omega arith)

  both : (eqb (get_or (take 4 (drop 30 line)) 1 0) 32 && letters_formed (take 4 (drop 30 line))) ≡ true
  both = sym eb ∙ not-false b nb

  pub second_blank : get_or (take 4 (drop 30 line)) 1 0 ≡ 32
  second_blank = eqb-true _ 32 (and_left (eqb (get_or (take 4 (drop 30 line)) 1 0) 32) _ both)

  pub two_columns : 1 < length (take 4 (drop 30 line))
  two_columns = omega (arith, field_length)

  pub quick_read : (a : Bool) (x : Letters) (p : Option TradeLine) → (a ≡ true → Placed line) → not a ≡ false → x ≡ letters_in (take 4 (drop 30 line)) → x.r ≡ false → x.g ≡ false
      → IfSome p (QuickValues line x) → get_or line 0 0 ≡ 84 → IfSome p (λ t. trade_line line ≡ Some t)
  quick_read a x p f na ex nr nx v k =
      IfSome_then p v (λ t w. quick_is line x t (f (not-false a na)) (and_right (eqb (get_or (take 4 (drop 30 line)) 1 0) 32) _ both) (lawful_short _ field_length second_blank) ex nr nx w l k)
