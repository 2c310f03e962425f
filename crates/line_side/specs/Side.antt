-- What is read of a side: its fields, its letters, and all of it. Assumes nothing.
use Rattle.std.specs.Prelude.{ℕ, Bool, true, ◌&&◌, List}
use Rattle.rules.specs.Columns.{columns}
use Rattle.rules.specs.Conditions.{letters_formed, letters_in, lawful_letters}
use Rattle.rules.specs.Line.{volume_in, price_in, decimals_in, letters_field, days_in, previous_in, previous_decimals_in, side_formed, side_ranged, side_of, side_matched}
use Rattle.line_columns.specs.Columns.{stands}
use Rattle.line_side.specs.declared.SideFields.{SideFields}
use Rattle.line_side.specs.declared.LettersRead.{LettersRead}
use Rattle.line_side.specs.declared.SideRead.{SideRead}

-- volume and n, each from 1 up or blank, in their columns
unfoldable pub amounts_stand : List ℕ → Bool
amounts_stand part = stands true (columns 1 9 part) && stands true (columns 10 23 part)

-- its numbers, and its letters
unfoldable pub side_fields : List ℕ → SideFields
side_fields part = record {
  volume = volume_in part;
  n = price_in part;
  d = decimals_in part;
  days = days_in part;
  m = previous_in part;
  e = previous_decimals_in part;
}

unfoldable pub letters_read : List ℕ → LettersRead
letters_read part = record { formed = letters_formed part; letters = letters_in part; lawful = lawful_letters part }

-- what one reading of a side's 46 columns answers
unfoldable pub side_read : List ℕ → SideRead
side_read part = record {
  formed = side_formed part;
  ranged = side_ranged part;
  side = side_of part;
  lawful = lawful_letters (letters_field part);
  matched = side_matched part;
}
