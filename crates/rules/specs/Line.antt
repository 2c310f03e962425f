-- Document 01, "Day lines": the nine kinds of line with their columns; what refusals 1, 2, 4, 5, 8, 10 and 11 ask of a line by itself. Assumes nothing.
use Rattle.std.specs.Prelude.{ℕ, ◌+◌, ◌^◌, Bool, true, ◌&&◌, not, List, [], ◌∷◌, leb, ltb, eqb, length}
use Rattle.text.specs.Bytes.{bytes}
use Rattle.text.specs.Pick.{pick, all, among}
use Rattle.rules.specs.Sizes.{width, security_places}
use Rattle.rules.specs.Columns.{columns, column, blank, number_in, is_number, number_or_blank, value_of, passes, between, is_root, is_date}
use Rattle.rules.specs.Names.{lawful_name}
use Rattle.rules.specs.Conditions.{letters_formed, letters_in, lawful_letters}
use Rattle.rules.specs.declared.Number.{Number}
use Rattle.rules.specs.declared.Number.TheVariants.{Blank, Bad, Is}
use Rattle.rules.specs.declared.Mode.{Mode}
use Rattle.rules.specs.declared.Mode.TheVariants.{Normal, Dvd, Rpo, Mpv}
use Rattle.rules.specs.declared.Letters.{Letters}
use Rattle.rules.specs.declared.Side.{Side}
use Rattle.rules.specs.declared.Listing.{Listing}
use Rattle.rules.specs.declared.Trade.{Trade}
use Rattle.rules.specs.declared.Correction.{Correction}
use Rattle.rules.specs.declared.Line.{Line}
use Rattle.rules.specs.declared.Parsed.{Parsed}
use Rattle.rules.specs.declared.Line.TheVariants.{Dated, Listed, Moded, Leveled, Stepped, Traded, Cancelled, Erred, Corrected}

-- 100 bytes of 32..126
unfoldable pub is_printable : ℕ → Bool
is_printable c = between 32 126 c

unfoldable pub is_shaped : List ℕ → Bool
is_shaped line = eqb (length line) width && all is_printable line

-- the kinds
unfoldable pub is_kind : ℕ → Bool
is_kind c = among c (bytes "DSMVPTXEC")

-- a market is one of ABWMCDTNPX
unfoldable pub is_market : ℕ → Bool
is_market c = among c (bytes "ABWMCDTNPX")

unfoldable pub is_network : ℕ → Bool
is_network c = among c (bytes "AB")

unfoldable pub is_mode : ℕ → Bool
is_mode c = among c (bytes "NDRP")

-- N, D, R or P: normal, DVD, RPO, MPV
unfoldable pub mode_of : ℕ → Mode
mode_of c = pick (eqb c 68) Dvd (pick (eqb c 82) Rpo (pick (eqb c 80) Mpv Normal))

-- ---- a side: columns 7-52 of T, X, E and of a C's original, 53-98 of its correcting trade, here counted from 1

abbrev pub volume_in : List ℕ → Number
volume_in side = number_in (columns 1 9 side)

abbrev pub price_in : List ℕ → Number
price_in side = number_in (columns 10 23 side)

abbrev pub decimals_in : List ℕ → Number
decimals_in side = number_in (columns 24 24 side)

abbrev pub letters_field : List ℕ → List ℕ
letters_field side = columns 25 28 side

abbrev pub days_in : List ℕ → Number
days_in side = number_in (columns 29 31 side)

abbrev pub previous_in : List ℕ → Number
previous_in side = number_in (columns 32 45 side)

abbrev pub previous_decimals_in : List ℕ → Number
previous_decimals_in side = number_in (columns 46 46 side)

-- only letters, days and previous last may be blank: a side's fields, each read once (volume, n, d, letters in their form, days, previous last n and d)
unfoldable pub formed_by : Number → Number → Number → Bool → Number → Number → Number → Bool
formed_by volume n d letters days m e =
    is_number volume
    && (is_number n
    && (is_number d
    && (letters
    && (number_or_blank days
    && (number_or_blank m
    && number_or_blank e)))))

unfoldable pub side_formed : List ℕ → Bool
side_formed side = formed_by (volume_in side) (price_in side) (decimals_in side) (letters_formed (letters_field side)) (days_in side) (previous_in side) (previous_decimals_in side)

-- n from 1 to below ten to the power 6 + d, d 0..8
unfoldable pub is_price : ℕ → ℕ → Bool
is_price n d = leb 1 n && (leb d 8 && ltb n (10 ^ (6 + d)))

-- n has no upper value while its d is blank
unfoldable pub previous_ranged : Number → Number → Bool
previous_ranged Blank d = passes (λ x. leb x 8) d
previous_ranged Bad d = passes (λ x. leb x 8) d
previous_ranged (Is n) Blank = leb 1 n
previous_ranged (Is n) Bad = leb 1 n
previous_ranged (Is n) (Is d) = is_price n d

-- volume from 1; days 1..999
unfoldable pub ranged_by : Number → Number → Number → Number → Number → Number → Bool
ranged_by volume n d days m e =
    leb 1 (value_of volume)
    && (is_price (value_of n) (value_of d)
    && (passes (leb 1) days
    && previous_ranged m e))

unfoldable pub side_ranged : List ℕ → Bool
side_ranged side = ranged_by (volume_in side) (price_in side) (decimals_in side) (days_in side) (previous_in side) (previous_decimals_in side)

unfoldable pub side_by : Number → Number → Number → Letters → Number → Number → Number → Side
side_by volume n d letters days m e = record {
  volume = value_of volume;
  price = record { n = value_of n; d = value_of d };
  letters = letters;
  days = value_of days;
  previous = record { n = value_of m; d = value_of e };
}

unfoldable pub side_of : List ℕ → Side
side_of side = side_by (volume_in side) (price_in side) (decimals_in side) (letters_in (letters_field side)) (days_in side) (previous_in side) (previous_decimals_in side)

-- both hold or neither
unfoldable pub alike : Bool → Bool → Bool
alike a b = pick a b (not b)

-- what refusal 11 asks: days exactly with R, previous last exactly with G, both its fields
unfoldable pub matched_by : Letters → Number → Number → Number → Bool
matched_by letters days m e =
    alike letters.r (is_number days)
    && (alike letters.g (is_number m)
    && alike letters.g (is_number e))

unfoldable pub side_matched : List ℕ → Bool
side_matched side = matched_by (letters_in (letters_field side)) (days_in side) (previous_in side) (previous_decimals_in side)

abbrev pub first_side : List ℕ → List ℕ
first_side line = columns 7 52 line

abbrev pub second_side : List ℕ → List ℕ
second_side line = columns 53 98 line

-- the name of an S line
abbrev pub name_columns : List ℕ → List ℕ
name_columns line = columns 6 24 line

-- ---- refusal 4: each field in its form

unfoldable pub date_formed : List ℕ → Bool
date_formed line = is_number (number_in (columns 2 9 line)) && blank (columns 10 width line)

unfoldable pub listing_formed : List ℕ → Bool
listing_formed line =
    is_number (number_in (columns 2 5 line))
    && (is_root (columns 6 11 line)
    && (is_number (number_in (columns 25 27 line))
    && (is_network (column 28 line)
    && (is_market (column 29 line)
    && (is_number (number_in (columns 30 30 line))
    && blank (columns 31 width line))))))

unfoldable pub mode_formed : List ℕ → Bool
mode_formed line = is_mode (column 2 line) && blank (columns 3 width line)

unfoldable pub level_formed : List ℕ → Bool
level_formed line = is_number (number_in (columns 2 7 line)) && blank (columns 8 width line)

unfoldable pub step_formed : List ℕ → Bool
step_formed line = is_number (number_in (columns 2 4 line)) && blank (columns 5 width line)

unfoldable pub trade_formed : List ℕ → Bool
trade_formed line =
    is_number (number_in (columns 2 5 line))
    && (is_market (column 6 line)
    && (side_formed (first_side line)
    && blank (columns 53 width line)))

unfoldable pub correction_formed : List ℕ → Bool
correction_formed line =
    is_number (number_in (columns 2 5 line))
    && (is_market (column 6 line)
    && (side_formed (first_side line)
    && (side_formed (second_side line)
    && blank (columns 99 width line))))

-- ---- refusal 5: each number within its values

unfoldable pub is_security_number : ℕ → Bool
is_security_number n = between 1 security_places n

-- unit 1, 10, 25, 50 or 100
unfoldable pub is_unit : ℕ → Bool
is_unit n = among n (1 ∷ 10 ∷ 25 ∷ 50 ∷ 100 ∷ [])

unfoldable pub date_ranged : List ℕ → Bool
date_ranged line = is_date (value_of (number_in (columns 2 9 line)))

unfoldable pub listing_ranged : List ℕ → Bool
listing_ranged line =
    is_security_number (value_of (number_in (columns 2 5 line)))
    && (is_unit (value_of (number_in (columns 25 27 line)))
    && leb (value_of (number_in (columns 30 30 line))) 1)

unfoldable pub level_ranged : List ℕ → Bool
level_ranged line = between 5000 100000 (value_of (number_in (columns 2 7 line)))

unfoldable pub step_ranged : List ℕ → Bool
step_ranged line = between 1 100 (value_of (number_in (columns 2 4 line)))

unfoldable pub trade_ranged : List ℕ → Bool
trade_ranged line = is_security_number (value_of (number_in (columns 2 5 line))) && side_ranged (first_side line)

unfoldable pub correction_ranged : List ℕ → Bool
correction_ranged line =
    is_security_number (value_of (number_in (columns 2 5 line)))
    && (side_ranged (first_side line)
    && side_ranged (second_side line))

-- ---- the line as a value

unfoldable pub listing_of : List ℕ → Listing
listing_of line = record {
  number = value_of (number_in (columns 2 5 line));
  unit = value_of (number_in (columns 25 27 line));
  network = column 28 line;
  market = column 29 line;
  first = value_of (number_in (columns 30 30 line));
  lawful = lawful_name (column 28 line) (name_columns line);
}

unfoldable pub trade_of : List ℕ → Trade
trade_of line = record {
  security = value_of (number_in (columns 2 5 line));
  market = column 6 line;
  side = side_of (first_side line);
  lawful = lawful_letters (letters_field (first_side line));
  matched = side_matched (first_side line);
}

unfoldable pub correction_of : List ℕ → Correction
correction_of line = record {
  security = value_of (number_in (columns 2 5 line));
  market = column 6 line;
  original = side_of (first_side line);
  correcting = side_of (second_side line);
  lawful = lawful_letters (letters_field (first_side line)) && lawful_letters (letters_field (second_side line));
  matched = side_matched (first_side line) && side_matched (second_side line);
}

-- a line as one of a kind: in its form or not, within its values or not, and its value

abbrev pub as_date : List ℕ → Parsed
as_date line = record { formed = date_formed line; ranged = date_ranged line; line = Dated (value_of (number_in (columns 2 9 line))) }

abbrev pub as_listing : List ℕ → Parsed
as_listing line = record { formed = listing_formed line; ranged = listing_ranged line; line = Listed (listing_of line) }

abbrev pub as_mode : List ℕ → Parsed
as_mode line = record { formed = mode_formed line; ranged = true; line = Moded (mode_of (column 2 line)) }

abbrev pub as_level : List ℕ → Parsed
as_level line = record { formed = level_formed line; ranged = level_ranged line; line = Leveled (value_of (number_in (columns 2 7 line))) }

abbrev pub as_step : List ℕ → Parsed
as_step line = record { formed = step_formed line; ranged = step_ranged line; line = Stepped (value_of (number_in (columns 2 4 line))) }

abbrev pub as_trade : List ℕ → Parsed
as_trade line = record { formed = trade_formed line; ranged = trade_ranged line; line = Traded (trade_of line) }

abbrev pub as_cancel : List ℕ → Parsed
as_cancel line = record { formed = trade_formed line; ranged = trade_ranged line; line = Cancelled (trade_of line) }

abbrev pub as_error : List ℕ → Parsed
as_error line = record { formed = trade_formed line; ranged = trade_ranged line; line = Erred (trade_of line) }

abbrev pub as_correction : List ℕ → Parsed
as_correction line = record { formed = correction_formed line; ranged = correction_ranged line; line = Corrected (correction_of line) }

-- by the letter in column 1: D, S, M, V, P, T, X, E; any other counts as C, since refusal 2 comes first
unfoldable pub of_kind : ℕ → List ℕ → Parsed
of_kind kind line =
    pick (eqb kind 68) (as_date line)
    (pick (eqb kind 83) (as_listing line)
    (pick (eqb kind 77) (as_mode line)
    (pick (eqb kind 86) (as_level line)
    (pick (eqb kind 80) (as_step line)
    (pick (eqb kind 84) (as_trade line)
    (pick (eqb kind 88) (as_cancel line)
    (pick (eqb kind 69) (as_error line)
    (as_correction line))))))))

unfoldable pub is_formed : List ℕ → Bool
is_formed line = (of_kind (column 1 line) line).formed

unfoldable pub is_ranged : List ℕ → Bool
is_ranged line = (of_kind (column 1 line) line).ranged

unfoldable pub line_of : List ℕ → Line
line_of line = (of_kind (column 1 line) line).line
