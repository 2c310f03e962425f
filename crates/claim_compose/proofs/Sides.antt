-- A side's columns say the side. Assumes nothing.
use Prim.Native.Nat.{ℕ, ◌^◌, ◌<◌}
use native.Mathlib.Omega.{arith}
use mathlib.Core.Path.{◌≡◌, refl, sym, ap, ◌∙◌}
use mathlib.Core.Bool.{Bool, true, false, ◌&&◌}
use lib.Dec.{leb, eqb}
use borrow.Author.Tests.{eqb-true}
use Rattle.text.specs.Pick.{pick, all}
use Rattle.text.proofs.Texts.{and_left, and_right}
use Rattle.text.proofs.Parts.{all_append}
use Rattle.rules.specs.Columns.{is_number, number_or_blank, value_of, passes, between}
use Rattle.rules.specs.Conditions.{lawful_letters}
use Rattle.rules.specs.Line.{is_printable, is_price, previous_ranged, formed_by, ranged_by, side_by, matched_by, alike, side_formed, side_ranged, side_of, side_matched, volume_in, price_in, decimals_in, letters_field, days_in, previous_in, previous_decimals_in}
use Rattle.rules.specs.declared.Number.{Number}
use Rattle.rules.specs.declared.Number.TheVariants.{Blank, Is}
use Rattle.rules.specs.declared.Price.{Price}
use Rattle.rules.specs.declared.Side.{Side}
use Rattle.claim_compose.specs.Columns.{digits_before, number_field, text_field, letters_columns, filled_if}
use Rattle.claim_compose.specs.Lines.{side_columns}
use Rattle.line_owed.specs.Shown.{Showable}
use Rattle.line_owed.specs.Owed.{OwedSide}
use Rattle.line_owed.proofs.Shown.{sound_below, shown_owed}
use Rattle.claim_compose.proofs.Fields.{number_back, filled_number, printable_number, printable_if}
use Rattle.claim_compose.proofs.Letters.{Said, letters_said}

-- a number that is there or left blank
given : Bool → ℕ → Number
given b n = pick b (Is n) Blank

-- the previous last, where it is there
unfoldable PreviousFits : Bool → ℕ → ℕ → Bool
PreviousFits b m e = pick b (is_price m e) (eqb m 0 && eqb e 0)

-- ---- what is asked of a number that may be left blank

given_formed : (b : Bool) (n : ℕ) → number_or_blank (given b n) ≡ true
unfolding given pick number_or_blank
given_formed true n = refl
given_formed false n = refl

given_matched : (b : Bool) (n : ℕ) → alike b (is_number (given b n)) ≡ true
unfolding given pick is_number alike
given_matched true n = refl
given_matched false n = refl

days_ranged : (b : Bool) (n : ℕ) → pick b (between 1 999 n) (eqb n 0) ≡ true → passes (leb 1) (given b n) ≡ true
unfolding given pick passes between
days_ranged true n h = and_left (leb 1 n) _ h
days_ranged false n h = refl

days_value : (b : Bool) (n : ℕ) → pick b (between 1 999 n) (eqb n 0) ≡ true → value_of (given b n) ≡ n
unfolding given pick value_of
days_value true n h = refl
days_value false n h = sym (eqb-true n 0 h)

previous_ranged_lem : (b : Bool) (m e : ℕ) → PreviousFits b m e ≡ true → previous_ranged (given b m) (given b e) ≡ true
unfolding PreviousFits given pick previous_ranged passes
previous_ranged_lem true m e h = h
previous_ranged_lem false m e h = refl

abbrev price_of : ℕ → ℕ → Price
price_of n d = record { n = n; d = d }

previous_value : (b : Bool) (m e : ℕ) → PreviousFits b m e ≡ true → price_of (value_of (given b m)) (value_of (given b e)) ≡ price_of m e
unfolding PreviousFits given pick value_of
previous_value true m e h = refl
previous_value false m e h = rw (eqb-true m 0 (and_left (eqb m 0) _ h), eqb-true e 0 (and_right (eqb m 0) _ h))

-- ---- the fields of a side's columns

module _ (x : Side) where
  volume_there : x.volume < 10 ^ 9 → volume_in (side_columns x) ≡ Is x.volume
  unfolding side_columns number_field digits_before letters_columns text_field filled_if
  volume_there h = number_back 8 x.volume h

  price_there : x.price.n < 10 ^ 14 → price_in (side_columns x) ≡ Is x.price.n
  unfolding side_columns number_field digits_before letters_columns text_field filled_if
  price_there h = number_back 13 x.price.n h

  decimals_there : x.price.d < 10 ^ 1 → decimals_in (side_columns x) ≡ Is x.price.d
  unfolding side_columns number_field digits_before letters_columns text_field filled_if
  decimals_there h = number_back 0 x.price.d h

  letters_there : letters_field (side_columns x) ≡ letters_columns x.letters
  unfolding side_columns number_field digits_before letters_columns text_field filled_if
  letters_there = refl

  days_there : x.days < 10 ^ 3 → days_in (side_columns x) ≡ given x.letters.r x.days
  unfolding side_columns number_field digits_before letters_columns text_field filled_if given
  days_there h = filled_number x.letters.r 2 x.days h

  previous_there : x.previous.n < 10 ^ 14 → previous_in (side_columns x) ≡ given x.letters.g x.previous.n
  unfolding side_columns number_field digits_before letters_columns text_field filled_if given
  previous_there h = filled_number x.letters.g 13 x.previous.n h

  previous_decimals_there : x.previous.d < 10 ^ 1 → previous_decimals_in (side_columns x) ≡ given x.letters.g x.previous.d
  unfolding side_columns number_field digits_before letters_columns text_field filled_if given
  previous_decimals_there h = filled_number x.letters.g 0 x.previous.d h

-- what a side's columns say
pub record SideSaid (x : Side) : Type 0 where
  pub formed : side_formed (side_columns x) ≡ true
  pub ranged : side_ranged (side_columns x) ≡ true
  pub side : side_of (side_columns x) ≡ x
  pub lawful : lawful_letters (letters_field (side_columns x)) ≡ true
  pub matched : side_matched (side_columns x) ≡ true
  pub printable : all is_printable (side_columns x) ≡ true

module _ (network : ℕ) (x : Side) (h : Showable network x) where
  said : Said x.letters
  said = letters_said x.letters h.letters_fit

  owes : OwedSide x
  owes = shown_owed network x h

  volume_is : volume_in (side_columns x) ≡ Is x.volume
  volume_is = volume_there x owes.volume

  price_is : price_in (side_columns x) ≡ Is x.price.n
  price_is = price_there x (sound_below x.price owes.price)

  decimals_is : decimals_in (side_columns x) ≡ Is x.price.d
  decimals_is = decimals_there x (omega (arith, owes.price.decimals))

  days_is : days_in (side_columns x) ≡ given x.letters.r x.days
  days_is = days_there x owes.days

  fits : PreviousFits x.letters.g x.previous.n x.previous.d ≡ true
  unfolding PreviousFits
  fits = h.previous_fits

  previous_is : previous_in (side_columns x) ≡ given x.letters.g x.previous.n
  previous_is = previous_there x owes.last

  previous_decimals_is : previous_decimals_in (side_columns x) ≡ given x.letters.g x.previous.d
  previous_decimals_is = previous_decimals_there x (omega (arith, owes.decimals))

  said_formed : side_formed (side_columns x) ≡ true
  unfolding side_formed formed_by is_number
  said_formed = rw (volume_is, price_is, decimals_is, letters_there x, said.formed, days_is, previous_is, previous_decimals_is, given_formed, given_formed, given_formed)

  said_ranged : side_ranged (side_columns x) ≡ true
  unfolding side_ranged ranged_by value_of between
  said_ranged = rw (volume_is, price_is, decimals_is, days_is, previous_is, previous_decimals_is, and_left (leb 1 x.volume) (leb x.volume 999999999) h.volume_fits, h.price_fits, days_ranged x.letters.r x.days h.days_fit, previous_ranged_lem x.letters.g x.previous.n x.previous.d fits)

  said_side : side_of (side_columns x) ≡ x
  unfolding side_of side_by value_of
  said_side = rw (volume_is, price_is, decimals_is, letters_there x, said.letters, days_is, previous_is, previous_decimals_is) (alike_side (days_value x.letters.r x.days h.days_fit) (previous_value x.letters.g x.previous.n x.previous.d fits))
    where
      alike_side : {d : ℕ} {p : Price} → d ≡ x.days → p ≡ x.previous → (record { volume = x.volume; price = x.price; letters = x.letters; days = d; previous = p }) ≡ x
      alike_side e f = rw (e, f)

  said_matched : side_matched (side_columns x) ≡ true
  unfolding side_matched matched_by
  said_matched = rw (letters_there x, said.letters, days_is, previous_is, previous_decimals_is, given_matched, given_matched, given_matched)

  said_printable : all is_printable (side_columns x) ≡ true
  unfolding side_columns
  said_printable =
      all_append is_printable _ (filled_if x.letters.g (number_field 1 x.previous.d))
      (all_append is_printable _ (filled_if x.letters.g (number_field 14 x.previous.n))
      (all_append is_printable _ (filled_if x.letters.r (number_field 3 x.days))
      (all_append is_printable _ (letters_columns x.letters)
      (all_append is_printable _ (number_field 1 x.price.d)
      (all_append is_printable _ (number_field 14 x.price.n)
      (printable_number 9 x.volume)
      (printable_number 14 x.price.n))
      (printable_number 1 x.price.d))
      said.printable)
      (printable_if x.letters.r _ (printable_number 3 x.days)))
      (printable_if x.letters.g _ (printable_number 14 x.previous.n)))
      (printable_if x.letters.g _ (printable_number 1 x.previous.d))

  pub side_said : SideSaid x
  side_said = record { formed = said_formed; ranged = said_ranged; side = said_side; lawful = ap lawful_letters (letters_there x) ∙ said.lawful; matched = said_matched; printable = said_printable }
