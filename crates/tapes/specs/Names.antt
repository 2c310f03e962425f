-- The names of the stored tapes. Assumes nothing.
use Rattle.std.specs.Prelude.{ℕ, ◌+◌, ◌/◌, ◌%◌, List, [], ◌∷◌}

-- the tape of number n below 100: its two digits, then `.tape`
abbrev pub tape_name : ℕ → List ℕ
tape_name n = (48 + n / 10) ∷ (48 + n % 10) ∷ 46 ∷ 116 ∷ 97 ∷ 112 ∷ 101 ∷ []
