-- A line in its form and within its values owes what its kind does: the one walk over the kinds. Assumes nothing.
use Prim.Native.Nat.{ℕ, zero, suc, ◌≤◌}
use native.Mathlib.Omega.{arith}
use mathlib.Core.Path.{◌≡◌, refl, ap, ◌∙◌}
use mathlib.Core.Bool.{true}
use mathlib.Core.List.{List}
use lib.Dec.{leb, eqb}
use lib.ListN.{length, drop, length-take, length-drop}
use lib.Seq.{take-take}
use borrow.Author.Tests.{leb-true, eqb-true}
use Rattle.text.specs.Pick.{among}
use Rattle.text.proofs.Texts.{and_left, and_right}
use Rattle.text.proofs.Booleans.{false_true}
use Rattle.text.proofs.Parts.{all_take, all_drop}
use Rattle.rules.specs.Sizes.{width}
use Rattle.rules.specs.Columns.{columns, column, number_in, is_number, value_of, passes, is_root}
use Rattle.rules.specs.Names.{root_field}
use Rattle.rules.specs.Conditions.{lawful_letters}
use Rattle.rules.specs.Line.{is_printable, is_shaped, is_market, is_network, is_unit, is_price, is_security_number, is_formed, is_ranged, line_of, of_kind, name_columns, first_side, second_side, volume_in, price_in, decimals_in, letters_field, days_in, previous_in, previous_decimals_in, formed_by, side_formed, ranged_by, side_ranged, side_by, side_of, side_matched, listing_formed, listing_ranged, listing_of, level_ranged, step_ranged, trade_formed, trade_ranged, trade_of, correction_formed, correction_ranged, correction_of}
use Rattle.rules.specs.declared.Number.{Number}
use Rattle.rules.specs.declared.Number.TheVariants.{Blank, Bad, Is}
use Rattle.rules.specs.declared.Parsed.{Parsed}
use Rattle.rules.specs.declared.Listing.{Listing}
use Rattle.rules.specs.declared.Trade.{Trade}
use Rattle.rules.specs.declared.Correction.{Correction}
use Rattle.rules.specs.declared.Line.{Line}
use Rattle.rules.specs.declared.Line.TheVariants.{Listed, Traded, Cancelled, Erred, Corrected}
use Rattle.rules.proofs.Fields.{few_decimals, security_number}
use Rattle.rules.proofs.ByKind.{by_kind}
use Rattle.line_owed.specs.Shown.{Enterable}
use Rattle.line_owed.specs.Owed.{OwedSide, OwedTrade, OwedCorrection, OwedListing, OwedLine, SideColumns, StandsLine, kind_of}
use Rattle.line_owed.proofs.Below.{number_below}
use Rattle.line_owed.proofs.Shown.{showable_side, some_price, sound_price}

-- ---- a side

pub side_owed : (part : List ℕ) → side_ranged part ≡ true → OwedSide (side_of part)
unfolding side_ranged ranged_by side_of side_by
side_owed part h =
    let v = value_of (volume_in part) in
    let n = value_of (price_in part) in
    let d = value_of (decimals_in part) in
    let r = and_right (leb 1 v) _ h in
    let p = and_left (is_price n d) _ r in
    record {
      some = leb-true 1 v (and_left (leb 1 v) _ h);
      volume = number_below 9 (columns 1 9 part) (omega (arith, length-take 9 part));
      priced = some_price (record { n = n; d = d }) p;
      price = sound_price (record { n = n; d = d }) p;
      days = number_below 3 (columns 29 31 part) (omega (arith, length-take 3 (drop 28 part)));
      last = number_below 14 (columns 32 45 part) (omega (arith, length-take 14 (drop 31 part)));
      decimals = few_decimals (previous_in part) (previous_decimals_in part) (and_right (passes (leb 1) (days_in part)) _ (and_right (is_price n d) _ r));
    }

number_is : (x : Number) → is_number x ≡ true → x ≡ Is (value_of x)
unfolding is_number value_of
number_is Blank h = absurd (false_true h)
number_is Bad h = absurd (false_true h)
number_is (Is n) h = refl

side_stands : (part : List ℕ) → length part ≡ 46 → side_formed part ≡ true → side_ranged part ≡ true → SideColumns part (side_of part)
unfolding side_formed formed_by side_of side_by
side_stands part l f r = record {
  size = l;
  volume_is = number_is (volume_in part) (and_left (is_number (volume_in part)) _ f);
  n_is = number_is (price_in part) (and_left (is_number (price_in part)) _ (and_right (is_number (volume_in part)) _ f));
  letters_is = refl;
  owed = side_owed part r;
}

-- ---- an S line's name

pub unit_some : (n : ℕ) → is_unit n ≡ true → 1 ≤ n
unfolding is_unit among
unit_some zero h = absurd (false_true h)
unit_some (suc n) h = omega arith

pub long : (line : List ℕ) → is_shaped line ≡ true → length line ≡ width
unfolding is_shaped
long line h = eqb-true (length line) width (and_left (eqb (length line) width) _ h)

root_columns : (line : List ℕ) → root_field (name_columns line) ≡ columns 6 11 line
root_columns line = take-take 6 19 (drop 5 line) (omega arith)

listing_enters : (line : List ℕ) → listing_formed line ≡ true → listing_ranged line ≡ true → is_shaped line ≡ true → (listing_of line).lawful ≡ true → Enterable (listing_of line).network (listing_of line).unit (name_columns line)
unfolding listing_formed listing_ranged listing_of is_shaped
listing_enters line f h s k =
    let a = and_right (is_number (number_in (columns 2 5 line))) _ f in
    let b = and_right (is_number (number_in (columns 25 27 line))) _ (and_right (is_root (columns 6 11 line)) _ a) in
    record {
      on = and_left (is_network (column 28 line)) _ b;
      trades_in = and_left (is_unit (value_of (number_in (columns 25 27 line)))) _ (and_right (is_security_number (value_of (number_in (columns 2 5 line)))) _ h);
      plain = record { root = ap is_root (root_columns line) ∙ and_left (is_root (columns 6 11 line)) _ a; lawful = k };
      sized = omega (length-take 19 (drop 5 line), length-drop 5 line, long line s, arith);
      printable = all_take is_printable 19 (drop 5 line) (all_drop is_printable 5 line (and_right (eqb (length line) width) _ s));
    }

-- ---- each kind

listing_owed : (line : List ℕ) → listing_ranged line ≡ true → OwedListing (listing_of line)
unfolding listing_ranged listing_of
listing_owed line h = let n = security_number _ (and_left (is_security_number _) _ h) in record { low = n.0; high = n.1 }

pub trade_owed : (line : List ℕ) → trade_ranged line ≡ true → OwedTrade (trade_of line)
unfolding trade_ranged trade_of
trade_owed line h =
    let n = security_number _ (and_left (is_security_number _) _ h) in
    let r = and_right (is_security_number _) _ h in
    record { low = n.0; high = n.1; side = side_owed (first_side line) r; shows = λ network k o m. showable_side network (first_side line) r k m o }

correction_owed : (line : List ℕ) → correction_ranged line ≡ true → OwedCorrection (correction_of line)
unfolding correction_ranged correction_of
correction_owed line h =
    let x = first_side line in
    let y = second_side line in
    let n = security_number _ (and_left (is_security_number _) _ h) in
    let b = and_right (is_security_number _) _ h in
    let r = and_left (side_ranged x) (side_ranged y) b in
    let q = and_right (side_ranged x) (side_ranged y) b in
    record {
      low = n.0;
      high = n.1;
      original = side_owed x r;
      correcting = side_owed y q;
      shows_original = λ network k o m. showable_side network x r (and_left (lawful_letters (letters_field x)) _ k) (and_left (side_matched x) _ m) o;
      shows_correcting = λ network k o m. showable_side network y q (and_right (lawful_letters (letters_field x)) _ k) (and_right (side_matched x) _ m) o;
    }

module _ (line : List ℕ) (size : length line ≡ width) where
  first_length : length (first_side line) ≡ 46
  first_length = omega (arith, size, length-take 46 (drop 6 line), length-drop 6 line)

  second_length : length (second_side line) ≡ 46
  second_length = omega (arith, size, length-take 46 (drop 52 line), length-drop 52 line)

  pub trade_stands : trade_formed line ≡ true → trade_ranged line ≡ true → SideColumns (first_side line) (trade_of line).side
  unfolding trade_formed trade_ranged trade_of
  trade_stands f r =
      let a = and_right (is_market (column 6 line)) _ (and_right (is_number (number_in _)) _ f) in
      side_stands (first_side line) first_length (and_left (side_formed (first_side line)) _ a) (and_right (is_security_number _) _ r)

  correction_stands : correction_formed line ≡ true → correction_ranged line ≡ true → SideColumns (first_side line) (correction_of line).original × SideColumns (second_side line) (correction_of line).correcting
  unfolding correction_formed correction_ranged correction_of
  correction_stands f r =
      let x = first_side line in
      let y = second_side line in
      let a = and_right (is_market (column 6 line)) _ (and_right (is_number (number_in _)) _ f) in
      let b = and_right (side_formed x) _ a in
      let q = and_right (is_security_number _) _ r in
      (side_stands x first_length (and_left (side_formed x) _ a) (and_left (side_ranged x) _ q), side_stands y second_length (and_left (side_formed y) _ b) (and_right (side_ranged x) _ q))

-- OF EVERY KIND
abbrev Owes : List ℕ → Parsed → Type 0
Owes line p = p.ranged ≡ true → OwedLine p.line × (length line ≡ width → p.formed ≡ true → StandsLine line p.line)

owed : (kind : ℕ) (line : List ℕ) → Owes line (of_kind kind line)
unfolding OwedLine StandsLine level_ranged step_ranged
owed kind line =
    by_kind (Owes line) kind line
    (λ k h. (tt, λ l f. tt))
    (λ k h. (listing_owed line h, λ l f. listing_enters line f h))
    (λ k h. (tt, λ l f. tt))
    (λ k h. (h, λ l f. tt))
    (λ k h. (h, λ l f. tt))
    (λ k h. (trade_owed line h, λ l f. trade_stands line l f h))
    (λ k h. (trade_owed line h, λ l f. trade_stands line l f h))
    (λ k h. (trade_owed line h, λ l f. trade_stands line l f h))
    (λ h. (correction_owed line h, λ l f. correction_stands line l f h))

pub owed_line : (line : List ℕ) → is_ranged line ≡ true → OwedLine (line_of line)
unfolding is_ranged line_of
owed_line line r = (owed (column 1 line) line r).0

pub stands_line : (line : List ℕ) → length line ≡ width → is_formed line ≡ true → is_ranged line ≡ true → StandsLine line (line_of line)
unfolding is_formed is_ranged line_of
stands_line line l f r = (owed (column 1 line) line r).1 l f

-- ---- the letter of its kind stands in column 1; any other letter than those of the kinds counts as C

pub lettered : (kind : ℕ) (line : List ℕ) → (kind_of (of_kind kind line).line ≡ 67 → ⊥) → eqb kind (kind_of (of_kind kind line).line) ≡ true
unfolding kind_of
lettered kind line =
    by_kind (λ (p : Parsed). (kind_of p.line ≡ 67 → ⊥) → eqb kind (kind_of p.line) ≡ true) kind line
    (λ k z. k)
    (λ k z. k)
    (λ k z. k)
    (λ k z. k)
    (λ k z. k)
    (λ k z. k)
    (λ k z. k)
    (λ k z. k)
    (λ z. absurd (z refl))

-- ---- what is owed of each kind, in the form of the code's needs

module _ (l : Line) (h : OwedLine l) where
  pub owed_listed : (n : Listing) → l ≡ Listed n → OwedListing n
  unfolding OwedLine
  owed_listed n e = rw e at h

  pub owed_traded : (t : Trade) → l ≡ Traded t → OwedTrade t
  unfolding OwedLine
  owed_traded t e = rw e at h

  pub owed_cancelled : (t : Trade) → l ≡ Cancelled t → OwedTrade t
  unfolding OwedLine
  owed_cancelled t e = rw e at h

  pub owed_erred : (t : Trade) → l ≡ Erred t → OwedTrade t
  unfolding OwedLine
  owed_erred t e = rw e at h

  pub owed_corrected : (c : Correction) → l ≡ Corrected c → OwedCorrection c
  unfolding OwedLine
  owed_corrected c e = rw e at h

pub ruleset owed_kinds = (owed_listed, owed_traded, owed_cancelled, owed_erred, owed_corrected)
