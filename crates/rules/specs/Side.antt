-- Document 01, "Trades by mode": the text of one side, the same for trades, corrections, cancels and errors. Assumes nothing.
use Rattle.std.specs.Prelude.{ℕ, Bool, List, ◌++◌}
use Rattle.text.specs.Pick.{opt}
use Rattle.rules.specs.Volume.{volume_text}
use Rattle.rules.specs.Price.{price_text}
use Rattle.rules.specs.Conditions.{after_name, after_price, at_end}
use Rattle.rules.specs.declared.Letters.{Letters}
use Rattle.rules.specs.declared.Side.{Side}
use Rattle.rules.specs.declared.PriceForm.{PriceForm}

-- the name and the conditions after it
unfoldable pub head_text : List ℕ → Letters → List ℕ
head_text name x = name ++ after_name x

-- the conditions after the price and at the end
unfoldable pub tail_text : Side → List ℕ
tail_text x = after_price x.letters ++ at_end x

-- order: name, volume, price, conditions
unfoldable pub side_text : List ℕ → ℕ → ℕ → PriceForm → Bool → Side → List ℕ
side_text name network unit form shows x =
    head_text name x.letters
    ++ opt shows (volume_text network unit x.volume)
    ++ price_text form x.price
    ++ tail_text x
