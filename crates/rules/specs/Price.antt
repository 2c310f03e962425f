-- Document 01, "Price and conditions" (001, 3.4): prices. Assumes nothing.
use Rattle.std.specs.Prelude.{ℕ, ◌+◌, ◌-◌, ◌*◌, ◌/◌, ◌%◌, ◌^◌, Bool, List, [], ◌∷◌, ◌++◌, eqb}
use Rattle.text.specs.Bytes.{bytes}
use Rattle.text.specs.Pick.{pick}
use Rattle.text.specs.Decimal.{decimal, places}
use Rattle.rules.specs.declared.Price.{Price}
use Rattle.rules.specs.declared.PriceForm.{PriceForm}
use Rattle.rules.specs.declared.PriceForm.TheVariants.{Full, Short}

-- a price is n over ten to the power d: its whole part and its fraction
unfoldable pub whole_part : Price → ℕ
whole_part p = p.n / 10 ^ p.d

unfoldable pub fraction : Price → ℕ
fraction p = p.n % 10 ^ p.d

-- prices are compared by value: in units of ten to the power -8 dollars
unfoldable pub units : Price → ℕ
units p = p.n * 10 ^ (8 - p.d)

-- whole part without leading zeros, nothing if 0
unfoldable pub whole_text : ℕ → List ℕ
whole_text w = pick (eqb w 0) [] (decimal w)

-- then, unless the fraction is zero, figure dot and d digits
unfoldable pub fraction_text : ℕ → ℕ → List ℕ
fraction_text d f = pick (eqb f 0) [] (bytes "," ++ places d f)

-- short price: only the units digit of the whole part
unfoldable pub short_whole : ℕ → List ℕ
short_whole w = (48 + w % 10) ∷ []

-- a whole part in its form
unfoldable pub dollars_text : PriceForm → ℕ → List ℕ
dollars_text Full w = whole_text w
dollars_text Short w = short_whole w

unfoldable pub price_text : PriceForm → Price → List ℕ
price_text form p = dollars_text form (whole_part p) ++ fraction_text p.d (fraction p)

-- full price, or otherwise short
unfoldable pub form_by : Bool → PriceForm
form_by full = pick full Full Short
