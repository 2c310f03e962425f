-- A volume that may not be shown, as a number. Assumes nothing.
use Prim.Native.Nat.{ℕ}
use mathlib.Core.Path.{◌≡◌, refl}
use Rattle.std.specs.Prelude.{Option, Some, None, unwrap_or}
use Rattle.facts_entry.specs.Entry.{volume_in}
use Rattle.read_numbers.specs.Numbers.{volume_number}

pub volume_is : (v : Option ℕ) → unwrap_or v 0 ≡ volume_number (volume_in v)
unfolding volume_number volume_in
volume_is (Some n) = refl
volume_is None = refl
