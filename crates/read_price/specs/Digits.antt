-- The digits at the front of a tape, as many as may be. Assumes nothing.
use Rattle.std.specs.Prelude.{ℕ, suc, zero, ◌+◌, ◌*◌, ◌-◌, Bool, List, [], ◌∷◌, eqb}
use Rattle.text.specs.Pick.{pick}
use Rattle.text.specs.Reading.{heads, is_digit}
use Rattle.read_price.specs.declared.Digits.{Digits}

-- at most k digits more, after j that are worth a
unfoldable pub digits_onto : ℕ → ℕ → ℕ → List ℕ → Digits
digits_onto zero a j s = record { count = j; value = a }
digits_onto (suc k) a j [] = record { count = j; value = a }
digits_onto (suc k) a j (c ∷ s) = pick (is_digit c) (digits_onto k (10 * a + (c - 48)) (suc j) s) (record { count = j; value = a })

-- at most k digits: how many, and their value
abbrev pub digits_at : ℕ → List ℕ → Digits
digits_at k s = digits_onto k 0 0 s

-- a figure 0 stands first
unfoldable pub zero_first : List ℕ → Bool
zero_first s = heads (λ c. eqb c 48) s
