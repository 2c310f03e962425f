-- A full price at the front of a tape (document 01, "Price and conditions"): at most six digits of the whole part, none where it is 0;
-- then, unless the fraction is zero, a figure dot and at most eight digits. Assumes nothing.
use Rattle.std.specs.Prelude.{ℕ, ◌+◌, ◌*◌, ◌^◌, List, eqb, drop, Option, Some, None}
use Rattle.text.specs.Pick.{pick}
use Rattle.text.specs.Reading.{heads}
use Rattle.read_price.specs.declared.Digits.{Digits}
use Rattle.read_price.specs.Digits.{digits_at, zero_first}
use Rattle.read_price.specs.declared.PriceRead.{PriceRead}

-- the digits behind a figure dot, at most eight; none without the dot
unfoldable pub fraction_at : List ℕ → Digits
fraction_at s = pick (heads (λ c. eqb c 44) s) (digits_at 8 (drop 1 s)) (record { count = 0; value = 0 })

-- a fraction of zeros is none, and then some digit of the whole part stands
unfoldable pub priced_by : Digits → Digits → Option PriceRead
priced_by w f =
    pick (eqb f.value 0)
    (pick (eqb w.count 0) None (Some (record { price = record { n = w.value; d = 0 }; used = w.count })))
    (Some (record { price = record { n = w.value * 10 ^ f.count + f.value; d = f.count }; used = w.count + (1 + f.count) }))

unfoldable pub price_at : List ℕ → Option PriceRead
price_at s = pick (zero_first s) None (priced_by (digits_at 6 s) (fraction_at (drop (digits_at 6 s).count s)))
