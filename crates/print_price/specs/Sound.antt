-- A price within its values. Assumes nothing.
use Rattle.std.specs.Prelude.{◌+◌, ◌^◌, ◌≤◌, ◌<◌}
use Rattle.rules.specs.declared.Price.{Price}

-- d 0..8, n below ten to the power 6 + d (document 01, "Day lines")
pub record Sound (p : Price) : Type 0 where
  pub decimals : p.d ≤ 8
  pub small : p.n < 10 ^ (6 + p.d)
