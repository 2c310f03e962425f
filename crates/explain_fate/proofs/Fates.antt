-- What becomes of each kind of line, in the form of the code's needs. Assumes nothing.
use Prim.Native.Nat.{ℕ, ◌-◌, ◌≤◌, ◌<◌}
use native.Mathlib.Omega.{arith}
use mathlib.Core.Path.{◌≡◌}
use mathlib.Core.List.{List}
use Rattle.rules.specs.declared.Line.{Line}
use Rattle.rules.specs.declared.Line.TheVariants.{Dated, Listed, Moded, Leveled, Stepped, Traded, Cancelled, Erred, Corrected}
use Rattle.rules.specs.declared.Security.{Security}
use Rattle.rules.specs.declared.Settings.{Settings}
use Rattle.call_table.specs.Rows.{row}
use Rattle.line_owed.specs.Owed.{OwedLine}
use Rattle.explain_fate.specs.Explained.{security_of, fate_at}
use Rattle.explain_fate.specs.declared.Fate.{Fate}

-- ---- the line's security is in the table

pub number_small : (l : Line) → OwedLine l → security_of l ≤ 512
unfolding OwedLine security_of
number_small (Dated n) h = omega arith
number_small (Listed l) h = h.high
number_small (Moded m) h = omega arith
number_small (Leveled n) h = omega arith
number_small (Stepped n) h = omega arith
number_small (Traded t) h = h.high
number_small (Cancelled t) h = h.high
number_small (Erred t) h = h.high
number_small (Corrected c) h = h.high

module _ (l : Line) (n : ℕ) (told : n ≡ security_of l) where
  pub number_fits : OwedLine l → n ≤ 512
  number_fits h = rw told (number_small l h)

  pub place_fits : (i : ℕ) → OwedLine l → i ≡ n - 1 → i < 512
  place_fits i h e = omega (arith, e, number_fits h)

  pub fate_there : (st : Settings) (table : List ℕ) (i : ℕ) (s : Security) (f : Fate) → i ≡ n - 1 → s ≡ row table i → f ≡ fate_at st s l → f ≡ fate_at st (row table (security_of l - 1)) l
  fate_there st table i s f e g h = rw (← told, ← e, ← g) h

pub ruleset places = (number_fits, place_fits, fate_there)
