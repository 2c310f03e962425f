-- A side whose prices are within their values, and its volume and days within their columns. Assumes nothing.
use Rattle.std.specs.Prelude.{◌^◌, ◌<◌}
use Rattle.rules.specs.declared.Side.{Side}
use Rattle.print_price.specs.Sound.{Sound}

pub record SoundSide (x : Side) : Type 0 where
  pub price_is : Sound x.price
  pub previous_is : Sound x.previous
  pub volume_is : x.volume < 10 ^ 9
  pub days_is : x.days < 10 ^ 3
