-- Prices read back from a text. Assumes nothing.
use Rattle.std.specs.Prelude.{ℕ, suc, ◌+◌, ◌*◌, ◌-◌, ◌%◌, ◌^◌, List, [], ◌∷◌, drop}
use Rattle.text.specs.Pick.{pick}
use Rattle.text.specs.Reading.{Read, found, is_digit, number, dot_digit}
use Rattle.rules.specs.Price.{whole_part, fraction}
use Rattle.rules.specs.declared.Price.{Price}
use Rattle.rules.specs.declared.PriceForm.{PriceForm}
use Rattle.rules.specs.declared.PriceForm.TheVariants.{Full, Short}

-- ---- a price: whole part and fraction, by value in units of ten to the power -8

pub record Fraction : Type 0 where
  pub digits : ℕ
  pub count : ℕ
  pub rest : List ℕ

-- the digits at the front and how many they are
unfoldable pub fraction_at : ℕ → ℕ → List ℕ → Fraction
fraction_at a j [] = record { digits = a; count = j; rest = [] }
fraction_at a j (c ∷ s) = pick (is_digit c) (fraction_at (10 * a + (c - 48)) (suc j) s) (record { digits = a; count = j; rest = c ∷ s })

unfoldable pub scaled : Fraction → Read ℕ
scaled f = found (f.digits * 10 ^ (8 - f.count)) f.rest

unfoldable pub read_fraction : List ℕ → Read ℕ
read_fraction s = pick (dot_digit s) (scaled (fraction_at 0 0 (drop 1 s))) (found 0 s)

-- the price that the figures at the front show
unfoldable pub read_price : List ℕ → Read ℕ
read_price s =
    let w = number 0 s in
    let f = read_fraction w.rest in
    found (w.got * 10 ^ 8 + f.got) f.rest

-- what is shown of a price: the whole part in full or its units digit, and the fraction
unfoldable pub shown_whole : PriceForm → ℕ → ℕ
shown_whole Full w = w
shown_whole Short w = w % 10

unfoldable pub shown_price : PriceForm → Price → ℕ
shown_price form p = shown_whole form (whole_part p) * 10 ^ 8 + fraction p * 10 ^ (8 - p.d)
