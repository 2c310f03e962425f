-- Numbers in base ten, the lowest digit last. Assumes nothing.
use Rattle.std.specs.Prelude.{ℕ, zero, suc, ◌+◌, ◌/◌, ◌%◌, true, false, List, [], ◌∷◌, ◌++◌, ltb}

-- the last k digits of n, zeros too
unfoldable pub places : ℕ → ℕ → List ℕ
places zero n = []
places (suc k) n = places k (n / 10) ++ ((48 + n % 10) ∷ [])

-- the digits of n, looked for in k steps
unfoldable pub digits_up : ℕ → ℕ → List ℕ
digits_up zero n = []
digits_up (suc k) n = elim (ltb n 10) [ true ↦ (48 + n) ∷ [] | false ↦ digits_up k (n / 10) ++ ((48 + n % 10) ∷ []) ]

-- n without leading zeros, `0` for 0
unfoldable pub decimal : ℕ → List ℕ
decimal n = digits_up (suc n) n
