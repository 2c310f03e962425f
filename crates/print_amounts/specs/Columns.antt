-- What volume and price of a side are written from: the side's own columns. Assumes nothing.
use Rattle.std.specs.Prelude.{ℕ, ◌≤◌, ◌≡◌, List, length, take}
use Rattle.rules.specs.declared.Number.TheVariants.{Is}
use Rattle.rules.specs.declared.Price.{Price}
use Rattle.rules.specs.Columns.{number_in}
use Rattle.print_price.specs.Sound.{Sound}

-- the volume in the first 9 of the side's columns
pub record VolumeColumns (part : List ℕ) (volume : ℕ) : Type 0 where
  pub size : length part ≡ 46
  pub volume_is : number_in (take 9 part) ≡ Is volume
  pub some : 1 ≤ volume

-- the price in the 37 columns behind them, n in the first 14
pub record PriceColumns (columns : List ℕ) (price : Price) : Type 0 where
  pub size : length columns ≡ 37
  pub n_is : number_in (take 14 columns) ≡ Is price.n
  pub sound : Sound price
