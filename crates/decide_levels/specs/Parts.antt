-- Parts of the rules of "Trades by mode", over a price's whole part or its value. Assumes nothing.
use Rattle.std.specs.Prelude.{ℕ, Bool, ◌&&◌, ◌||◌}
use Rattle.rules.specs.Price.{units}
use Rattle.rules.specs.Qualifying.{for_last}
use Rattle.rules.specs.Trade.{first_qualifying, new_high, new_low, new_range, prints_anyhow, unlike_printed, far_from_printed}
use Rattle.rules.specs.declared.Side.{Side}
use Rattle.rules.specs.declared.Settings.{Settings}
use Rattle.rules.specs.declared.Printed.{Printed}
use Rattle.rules.specs.declared.Range.{Range}
use Rattle.rules.specs.declared.Security.{Security}

-- new high or low, by value
unfoldable pub new_at : Range → ℕ → Bool
new_at r value = new_high r value || new_low r value

-- qualifying for last with a price unlike the last printed
unfoldable pub last_unlike : Printed → Side → Bool
last_unlike p x = for_last x.letters && unlike_printed p (units x.price)

-- qualifying for last and far from the last printed
unfoldable pub last_far : Settings → Printed → Side → Bool
last_far st p x = for_last x.letters && far_from_printed st p (units x.price)

-- a trade prints in RPO; in MPV
unfoldable pub prints_rpo : Settings → Security → ℕ → Side → Bool
prints_rpo st s market x = new_range s.range x || (last_unlike s.printed x || prints_anyhow st s market x)

unfoldable pub prints_mpv : Settings → Security → ℕ → Side → Bool
prints_mpv st s market x = last_far st s.printed x || (first_qualifying s.counts x.letters || prints_anyhow st s market x)
