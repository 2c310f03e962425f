-- The T, X, E and C lines that say given sides are accepted of the security entered. Assumes nothing.
use Prim.Native.Nat.{ℕ}
use native.Mathlib.Omega.{arith}
use mathlib.Core.Path.{◌≡◌, refl}
use mathlib.Core.Bool.{true}
use mathlib.Core.List.{[], ◌∷◌}
use lib.ListN.{length}
use Rattle.text.specs.Pick.{all, among}
use Rattle.text.proofs.Parts.{all_append}
use Rattle.rules.specs.Columns.{columns, column, number_in, is_number, value_of, between}
use Rattle.rules.specs.Line.{is_printable, is_shaped, is_market, is_security_number, first_side, second_side, trade_formed, trade_ranged, trade_of, correction_formed, correction_ranged, correction_of}
use Rattle.rules.specs.declared.Number.TheVariants.{Is}
use Rattle.rules.specs.declared.Side.{Side}
use Rattle.rules.specs.declared.Trade.{Trade}
use Rattle.rules.specs.declared.Correction.{Correction}
use Rattle.rules.specs.Sizes.{width}
use Rattle.claim_compose.specs.Columns.{digits_before, number_field, text_field, letters_columns, filled_if, blanks}
use Rattle.claim_compose.specs.Lines.{side_columns, trade_line, correction_line}
use Rattle.claim_compose.proofs.Fields.{number_back, printable_number}
use Rattle.claim_compose.proofs.Sides.{SideSaid}
use Rattle.claim_compose.proofs.Listing.{blanks_printable, blanks_blank, shape}

-- what a T, X or E line says
unfoldable pub trade_as : Side → Trade
trade_as x = record { security = 1; market = 65; side = x; lawful = true; matched = true }

unfoldable pub correction_as : Side → Side → Correction
correction_as x y = record { security = 1; market = 65; original = x; correcting = y; lawful = true; matched = true }

market_printable : all is_printable (65 ∷ []) ≡ true
unfolding all is_printable between
market_printable = refl

c_printable : all is_printable (67 ∷ []) ≡ true
unfolding all is_printable between
c_printable = refl

-- ---- T, X, E

module _ (kind : ℕ) (x : Side) where
  pub trade_kind : column 1 (trade_line kind x) ≡ kind
  unfolding trade_line number_field digits_before
  trade_kind = refl

  number_there : number_in (columns 2 5 (trade_line kind x)) ≡ Is 1
  unfolding trade_line number_field digits_before side_columns letters_columns text_field filled_if blanks
  number_there = number_back 3 1 (omega arith)

  market_there : column 6 (trade_line kind x) ≡ 65
  unfolding trade_line number_field digits_before side_columns letters_columns text_field filled_if blanks
  market_there = refl

  side_there : first_side (trade_line kind x) ≡ side_columns x
  unfolding trade_line number_field digits_before side_columns letters_columns text_field filled_if blanks
  side_there = refl

  rest_there : columns 53 width (trade_line kind x) ≡ blanks 48
  unfolding trade_line number_field digits_before side_columns letters_columns text_field filled_if blanks
  rest_there = refl

  long : length (trade_line kind x) ≡ width
  unfolding trade_line number_field digits_before side_columns letters_columns text_field filled_if blanks
  long = refl

  module _ (s : SideSaid x) where
    pub trade_shaped : all is_printable (kind ∷ []) ≡ true → is_shaped (trade_line kind x) ≡ true
    unfolding is_shaped trade_line
    trade_shaped k =
        let e = all_append is_printable _ (blanks 48)
        (all_append is_printable _ (side_columns x)
        (all_append is_printable _ (65 ∷ [])
        (all_append is_printable (kind ∷ []) (number_field 4 1) k (printable_number 4 1))
        market_printable)
        s.printable)
        (blanks_printable 48) in
        shape (trade_line kind x) long e

    pub trade_formed_lem : trade_formed (trade_line kind x) ≡ true
    unfolding trade_formed is_number is_market among
    trade_formed_lem = rw (number_there, market_there, side_there, s.formed, rest_there, blanks_blank 48)

    pub trade_ranged_lem : trade_ranged (trade_line kind x) ≡ true
    unfolding trade_ranged value_of is_security_number between
    trade_ranged_lem = rw (number_there, side_there, s.ranged)

    pub trade_said : trade_of (trade_line kind x) ≡ trade_as x
    unfolding trade_of value_of trade_as
    trade_said = rw (number_there, market_there, side_there, s.side, s.lawful, s.matched)

-- ---- C

module _ (x y : Side) where
  pub correction_kind : column 1 (correction_line x y) ≡ 67
  unfolding correction_line number_field digits_before
  correction_kind = refl

  number_here : number_in (columns 2 5 (correction_line x y)) ≡ Is 1
  unfolding correction_line number_field digits_before side_columns letters_columns text_field filled_if blanks
  number_here = number_back 3 1 (omega arith)

  market_here : column 6 (correction_line x y) ≡ 65
  unfolding correction_line number_field digits_before side_columns letters_columns text_field filled_if blanks
  market_here = refl

  first_here : first_side (correction_line x y) ≡ side_columns x
  unfolding correction_line number_field digits_before side_columns letters_columns text_field filled_if blanks
  first_here = refl

  second_here : second_side (correction_line x y) ≡ side_columns y
  unfolding correction_line number_field digits_before side_columns letters_columns text_field filled_if blanks
  second_here = refl

  rest_here : columns 99 width (correction_line x y) ≡ blanks 2
  unfolding correction_line number_field digits_before side_columns letters_columns text_field filled_if blanks
  rest_here = refl

  long_here : length (correction_line x y) ≡ width
  unfolding correction_line number_field digits_before side_columns letters_columns text_field filled_if blanks
  long_here = refl

  module _ (s : SideSaid x) (r : SideSaid y) where
    pub correction_shaped : is_shaped (correction_line x y) ≡ true
    unfolding is_shaped correction_line
    correction_shaped =
        let e = all_append is_printable _ (blanks 2)
        (all_append is_printable _ (side_columns y)
        (all_append is_printable _ (side_columns x)
        (all_append is_printable _ (65 ∷ [])
        (all_append is_printable (67 ∷ []) (number_field 4 1) c_printable (printable_number 4 1))
        market_printable)
        s.printable)
        r.printable)
        (blanks_printable 2) in
        shape (correction_line x y) long_here e

    pub correction_formed_lem : correction_formed (correction_line x y) ≡ true
    unfolding correction_formed is_number is_market among
    correction_formed_lem = rw (number_here, market_here, first_here, second_here, s.formed, r.formed, rest_here, blanks_blank 2)

    pub correction_ranged_lem : correction_ranged (correction_line x y) ≡ true
    unfolding correction_ranged value_of is_security_number between
    correction_ranged_lem = rw (number_here, first_here, second_here, s.ranged, r.ranged)

    pub correction_said : correction_of (correction_line x y) ≡ correction_as x y
    unfolding correction_of value_of correction_as
    correction_said = rw (number_here, market_here, first_here, second_here, s.side, r.side, s.lawful, r.lawful, s.matched, r.matched)
