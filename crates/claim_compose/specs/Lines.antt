-- Lines that say given values; the security has number 1. Assumes nothing.
use Rattle.std.specs.Prelude.{ℕ, ◌-◌, List, [], ◌∷◌, ◌++◌}
use Rattle.rules.specs.Sizes.{width}
use Rattle.rules.specs.declared.Mode.{Mode}
use Rattle.rules.specs.declared.Mode.TheVariants.{Normal, Dvd, Rpo, Mpv}
use Rattle.rules.specs.declared.Side.{Side}
use Rattle.claim_compose.specs.Columns.{number_field, text_field, letters_columns, filled_if, blanks}

-- the 46 columns of a side
unfoldable pub side_columns : Side → List ℕ
side_columns x =
    number_field 9 x.volume
    ++ number_field 14 x.price.n
    ++ number_field 1 x.price.d
    ++ letters_columns x.letters
    ++ filled_if x.letters.r (number_field 3 x.days)
    ++ filled_if x.letters.g (number_field 14 x.previous.n)
    ++ filled_if x.letters.g (number_field 1 x.previous.d)

-- S: number, name, unit, network, primary market A, no first-day issue
unfoldable pub listing_line : ℕ → ℕ → List ℕ → List ℕ
listing_line network unit name =
    (83 ∷ [])
    ++ number_field 4 1
    ++ text_field 19 name
    ++ number_field 3 unit
    ++ (network ∷ 65 ∷ 48 ∷ [])
    ++ blanks 70

-- T, X or E: number, market A, side
unfoldable pub trade_line : ℕ → Side → List ℕ
trade_line kind x = (kind ∷ []) ++ number_field 4 1 ++ (65 ∷ []) ++ side_columns x ++ blanks 48

-- C: number, market A, both sides
unfoldable pub correction_line : Side → Side → List ℕ
correction_line x y = (67 ∷ []) ++ number_field 4 1 ++ (65 ∷ []) ++ side_columns x ++ side_columns y ++ blanks 2

unfoldable pub mode_letter : Mode → ℕ
mode_letter Normal = 78
mode_letter Dvd = 68
mode_letter Rpo = 82
mode_letter Mpv = 80

unfoldable pub mode_line : Mode → List ℕ
mode_line m = (77 ∷ mode_letter m ∷ []) ++ blanks (width - 2)

unfoldable pub level_line : ℕ → List ℕ
level_line n = (86 ∷ []) ++ number_field 6 n ++ blanks 93
