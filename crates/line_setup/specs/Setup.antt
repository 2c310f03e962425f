-- A D, S, M, V or P line in its form or not, within its values or not, and its value, as `of_kind` has them. Assumes nothing.
use Rattle.std.specs.Prelude.{ℕ, true, List}
use Rattle.rules.specs.Columns.{columns, column, number_in, value_of}
use Rattle.rules.specs.Line.{date_formed, date_ranged, listing_formed, listing_ranged, listing_of, mode_formed, mode_of, level_formed, level_ranged, step_formed, step_ranged}
use Rattle.rules.specs.declared.Parsed.{Parsed}
use Rattle.rules.specs.declared.Line.TheVariants.{Dated, Listed, Moded, Leveled, Stepped}

abbrev pub date_read : List ℕ → Parsed
date_read line = record { formed = date_formed line; ranged = date_ranged line; line = Dated (value_of (number_in (columns 2 9 line))) }

abbrev pub listing_read : List ℕ → Parsed
listing_read line = record { formed = listing_formed line; ranged = listing_ranged line; line = Listed (listing_of line) }

abbrev pub mode_read : List ℕ → Parsed
mode_read line = record { formed = mode_formed line; ranged = true; line = Moded (mode_of (column 2 line)) }

abbrev pub level_read : List ℕ → Parsed
level_read line = record { formed = level_formed line; ranged = level_ranged line; line = Leveled (value_of (number_in (columns 2 7 line))) }

abbrev pub step_read : List ℕ → Parsed
step_read line = record { formed = step_formed line; ranged = step_ranged line; line = Stepped (value_of (number_in (columns 2 4 line))) }
