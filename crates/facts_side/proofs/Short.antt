-- How long a side is that is shown in full: at most 81 bytes, its conditions at most 45. Assumes nothing.
use Prim.Native.Nat.{ℕ, ◌^◌, ◌≤◌, ◌<◌}
use native.Mathlib.Omega.{arith}
use mathlib.Core.List.{List, [], ◌∷◌}
use lib.ListN.{length, length-append}
use Rattle.text.specs.Bytes.{bytes}
use Rattle.text.proofs.Decimal.{length_decimal}
use Rattle.text.proofs.Parts.{opt_short}
use Rattle.rules.specs.Shown.{Conditions}
use Rattle.rules.specs.declared.Letters.{Letters}
use Rattle.facts_value.proofs.Short.{number_short, value_short, value_or_none_short}
use Rattle.facts_side.specs.Sides.{sequence_letters, settlement_letters, other_letters, letters_text, or_none, set_and_days, conditions_text, priced_text, full_text}

-- ---- conditions

sequence_short : (x : Letters) → length (sequence_letters x) ≤ 3
unfolding sequence_letters
sequence_short x = simp length-append (omega (arith, opt_short x.o (bytes "O"), opt_short x.s (bytes "S"), opt_short x.l (bytes "L")))

settlement_short : (x : Letters) → length (settlement_letters x) ≤ 3
unfolding settlement_letters
settlement_short x = simp length-append (omega (arith, opt_short x.m (bytes "M"), opt_short x.k (bytes "K"), opt_short x.r (bytes "R")))

other_short : (x : Letters) → length (other_letters x) ≤ 4
unfolding other_letters
other_short x = simp length-append (omega (arith, opt_short x.b (bytes "B"), opt_short x.t (bytes "T"), opt_short x.j (bytes "J"), opt_short x.g (bytes "G")))

or_none_short : (t : List ℕ) → length t ≤ 10 → length (or_none t) ≤ 10
unfolding or_none
or_none_short [] h = omega arith
or_none_short (c ∷ s) h = h

set_short : (x : Letters) → length (or_none (letters_text x)) ≤ 10
unfolding letters_text
set_short x = or_none_short _ (simp length-append (omega (arith, sequence_short x, settlement_short x, other_short x)))

pub conditions_short : (c : Conditions) → c.days < 10 ^ 3 → c.previous < 10 ^ 14 → length (conditions_text c) ≤ 45
unfolding conditions_text set_and_days
conditions_short c h k = simp length-append (omega (arith, set_short c.letters, number_short c.days h, value_or_none_short c.previous k))

pub priced_short : (price : ℕ) (c : Conditions) → price < 10 ^ 14 → c.days < 10 ^ 3 → c.previous < 10 ^ 14 → length (priced_text price c) ≤ 67
unfolding priced_text
priced_short price c h k l = simp length-append (omega (arith, value_short price h, conditions_short c k l))

pub full_short : (price : ℕ) (c : Conditions) (volume : ℕ) → price < 10 ^ 14 → c.days < 10 ^ 3 → c.previous < 10 ^ 14 → volume < 10 ^ 9 → length (full_text price c volume) ≤ 81
unfolding full_text
full_short price c volume h k l m = simp length-append (omega (arith, priced_short price c h k l, length_decimal 8 volume m))
