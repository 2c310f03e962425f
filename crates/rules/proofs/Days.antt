-- Laws of a day: places entered or not, refusals one behind the other. Assumes nothing.
use Prim.Native.Nat.{ℕ}
use native.Mathlib.Omega.{arith}
use mathlib.Core.Path.{◌≡◌, refl}
use mathlib.Core.Option.{Option, none}
use mathlib.Core.Bool.{Bool, true, false}
use Rattle.text.specs.Pick.{pick}
use Rattle.rules.specs.declared.Refusal.{Refusal}
use Rattle.rules.specs.declared.Security.{Security}
use Rattle.rules.specs.Refusal.{refuse}
use Rattle.rules.specs.Day.{vacant, is_entered}

-- a place of no security
pub none_there : is_entered vacant ≡ false
unfolding is_entered vacant
none_there = refl

-- a place is entered by its issue alone
pub entered_alike : (s t : Security) → s.issue ≡ t.issue → is_entered s ≡ is_entered t
unfolding is_entered
entered_alike s t e = rw e

-- a line that is not refused passes each test
pub passed : (b : Bool) (r : Refusal) (later : Option Refusal) → refuse b r later ≡ none → (b ≡ false) × (later ≡ none)
unfolding refuse pick
passed true r later h = absurd (let z : ◌≡◌ {A = ℕ} 0 1 = cc in omega (arith, z))
passed false r later h = (refl, h)
