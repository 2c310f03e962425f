-- One reading of a side, from the answers of its fields. Assumes nothing.
use Prim.Native.Nat.{ℕ}
use mathlib.Core.Path.{◌≡◌, refl}
use mathlib.Core.List.{List}
use Rattle.rules.specs.Conditions.{letters_formed, letters_in, lawful_letters}
use Rattle.rules.specs.Line.{volume_in, price_in, decimals_in, letters_field, days_in, previous_in, previous_decimals_in, side_formed, side_ranged, side_of, side_matched}
use Rattle.line_side.specs.Side.{side_read}
use Rattle.rules.specs.Line.{formed_by, ranged_by, side_by, matched_by}

pub side_read_is : (part : List ℕ) → side_read part ≡ record {
  formed = formed_by (volume_in part) (price_in part) (decimals_in part) (letters_formed (letters_field part)) (days_in part) (previous_in part) (previous_decimals_in part);
  ranged = ranged_by (volume_in part) (price_in part) (decimals_in part) (days_in part) (previous_in part) (previous_decimals_in part);
  side = side_by (volume_in part) (price_in part) (decimals_in part) (letters_in (letters_field part)) (days_in part) (previous_in part) (previous_decimals_in part);
  lawful = lawful_letters (letters_field part);
  matched = matched_by (letters_in (letters_field part)) (days_in part) (previous_in part) (previous_decimals_in part);
}
unfolding side_read side_formed side_ranged side_of side_matched
side_read_is part = refl
