-- What is told of a refused line (document 01, "Shown facts and the whole day"): its number in columns 1-10, the refusal in 11-13, right-justified, and a line feed. Assumes nothing.
use Rattle.std.specs.Prelude.{ℕ, List, [], ◌∷◌, ◌++◌}
use Rattle.text_right.specs.Justified.{right}

unfoldable pub refusal_line : ℕ → ℕ → List ℕ
refusal_line number refusal = right 10 number ++ right 3 refusal ++ (10 ∷ [])
