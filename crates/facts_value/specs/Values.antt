-- The text of a number and of a price by value. Assumes nothing.
use Rattle.std.specs.Prelude.{ℕ, zero, suc, ◌/◌, ◌%◌, List, [], ◌++◌, eqb}
use Rattle.text.specs.Bytes.{bytes}
use Rattle.text.specs.Pick.{pick}
use Rattle.text.specs.Decimal.{places, decimal}

-- `-` is none
unfoldable pub number_text : ℕ → List ℕ
number_text n = pick (eqb n 0) (bytes "-") (decimal n)

-- the last k digits of f, without the zeros at the end
unfoldable pub trimmed : ℕ → ℕ → List ℕ
trimmed zero f = []
trimmed (suc k) f = pick (eqb (f % 10) 0) (trimmed k (f / 10)) (places (suc k) f)

-- a point and the fraction, unless it is zero
unfoldable pub point_text : ℕ → List ℕ
point_text f = pick (eqb f 0) [] (bytes "." ++ trimmed 8 f)

-- a price by value, from units of ten to the power -8 dollars
unfoldable pub value_text : ℕ → List ℕ
value_text u = decimal (u / 100000000) ++ point_text (u % 100000000)

unfoldable pub value_or_none : ℕ → List ℕ
value_or_none u = pick (eqb u 0) (bytes "-") (value_text u)
