-- Laws of parts of columns that are blank. Assumes nothing.
use Prim.Native.Nat.{ℕ, ◌+◌, ◌≤◌}
use mathlib.Core.Path.{◌≡◌, refl}
use mathlib.Core.Bool.{true}
use mathlib.Core.List.{List, [], ◌∷◌}
use lib.ListN.{take, drop}
use Rattle.text.specs.Pick.{pick, all}
use Rattle.text.proofs.Texts.{and_left, and_right}
use Rattle.text.proofs.Parts.{take_within, all_take, all_drop}
use Rattle.rules.specs.declared.Number.TheVariants.{Blank}
use Rattle.rules.specs.Columns.{is_blank, blank, justified, numeral, number_in}

-- a part of a blank part
pub blank_part : (k j m : ℕ) (s : List ℕ) → j + k ≤ m → blank (take m s) ≡ true → blank (take k (drop j s)) ≡ true
unfolding blank
blank_part k j m s h b = rw (← take_within k j m s h) (all_take is_blank k (drop j (take m s)) (all_drop is_blank j (take m s) b))

blank_justified : (s : List ℕ) → blank s ≡ true → justified s ≡ []
unfolding blank all justified pick
blank_justified [] h = refl
blank_justified (c ∷ s) h = rw (and_left (is_blank c) (all is_blank s) h, blank_justified s (and_right (is_blank c) (all is_blank s) h))

-- no number stands in blank columns
pub blank_number : (s : List ℕ) → blank s ≡ true → number_in s ≡ Blank
unfolding number_in numeral
blank_number s h = rw (blank_justified s h)
