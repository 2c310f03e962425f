-- No print is longer than `longest_print` bytes, in any mode. Assumes nothing.
use Prim.Native.Nat.{◌≤◌}
use native.Mathlib.Omega.{arith}
use mathlib.Core.Path.{◌≡◌, refl}
use mathlib.Core.Bool.{true}
use lib.ListN.{length}
use Rattle.rules.specs.Sizes.{longest_print}
use Rattle.rules.specs.Columns.{between}
use Rattle.rules.specs.Correction.{cancel_opening, error_opening}
use Rattle.rules.specs.Day.{Day, trade_print, cancel_print, correction_print, print_of}
use Rattle.rules.specs.declared.Line.{Line}
use Rattle.rules.specs.declared.Line.TheVariants.{Dated, Listed, Moded, Leveled, Stepped, Traded, Cancelled, Erred, Corrected}
use Rattle.line_owed.specs.Owed.{OwedLine}
use Rattle.line_owed.proofs.Below.{in_range}
use Rattle.name_text.proofs.Text.{name_most}
use Rattle.call_print.proofs.Most.{trade_most, cancel_most, correction_most, level_most, mode_most, step_most}

-- any line in its form and within its values, on a day whose MPV level a P line can set
pub print_by : (day : Day) → between 1 100 day.settings.minimum ≡ true → (l : Line) → OwedLine l → length (print_of day l) ≤ longest_print
unfolding OwedLine print_of trade_print cancel_print correction_print
print_by day set (Dated n) h = omega arith
print_by day set (Listed l) h = omega arith
print_by day set (Moded m) h = mode_most m day.settings.minimum (omega (arith, (in_range 1 100 day.settings.minimum set).1))
print_by day set (Leveled n) h = level_most n (omega (arith, (in_range 5000 100000 n h).1))
print_by day set (Stepped n) h = step_most day.settings.mode n (omega (arith, (in_range 1 100 n h).1))
print_by day set (Traded t) h = trade_most _ h.side _ (name_most _ _) _ _ _ _ _
print_by day set (Cancelled t) h = cancel_most _ h.side _ (name_most _ _) _ _ _ _ cancel_opening refl
print_by day set (Erred t) h = cancel_most _ h.side _ (name_most _ _) _ _ _ _ error_opening refl
print_by day set (Corrected c) h = correction_most _ _ h.original h.correcting _ (name_most _ _) _ _ _ _ _
