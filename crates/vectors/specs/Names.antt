-- The names of the stored days. Assumes nothing.
use Rattle.std.specs.Prelude.{ℕ, ◌+◌, ◌/◌, ◌%◌, List, [], ◌∷◌}

-- the day file of number n below 100: its two digits, then `.day`
abbrev pub day_name : ℕ → List ℕ
day_name n = (48 + n / 10) ∷ (48 + n % 10) ∷ 46 ∷ 100 ∷ 97 ∷ 121 ∷ []
