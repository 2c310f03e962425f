-- How long a number below 1,000 and a price below 1,000,000 dollars are: at most 3 and 15 bytes. Assumes nothing.
use Prim.Native.Nat.{ℕ, zero, suc, ◌/◌, ◌%◌, ◌^◌, ◌≤◌, ◌<◌}
use native.Mathlib.Omega.{arith}
use mathlib.Core.List.{[]}
use lib.Dec.{eqb}
use lib.ListN.{length, length-append}
use Rattle.text.specs.Bytes.{bytes}
use Rattle.text.specs.Decimal.{decimal}
use Rattle.text.proofs.Decimal.{length_places, length_decimal}
use Rattle.text.proofs.Parts.{pick_most}
use Rattle.facts_value.specs.Values.{number_text, trimmed, point_text, value_text, value_or_none}

pub number_short : (n : ℕ) → n < 10 ^ 3 → length (number_text n) ≤ 3
unfolding number_text
number_short n h = pick_most (eqb n 0) (bytes "-") (decimal n) 3 (omega arith) (length_decimal 2 n h)

trimmed_short : (k f : ℕ) → length (trimmed k f) ≤ k
unfolding trimmed
trimmed_short zero f = omega arith
trimmed_short (suc k) f = pick_most (eqb (f % 10) 0) _ _ (suc k) (omega (arith, trimmed_short k (f / 10))) (omega (arith, length_places (suc k) f))

point_short : (f : ℕ) → length (point_text f) ≤ 9
unfolding point_text
point_short f = pick_most (eqb f 0) [] _ 9 (omega arith) (omega (arith, length-append (bytes ".") (trimmed 8 f), trimmed_short 8 f))

pub value_short : (u : ℕ) → u < 10 ^ 14 → length (value_text u) ≤ 15
unfolding value_text
value_short u h =
    let w = length_decimal 5 (u / 100000000) (omega arith) in
    omega (arith, length-append (decimal (u / 100000000)) (point_text (u % 100000000)), w, point_short (u % 100000000))

pub value_or_none_short : (u : ℕ) → u < 10 ^ 14 → length (value_or_none u) ≤ 15
unfolding value_or_none
value_or_none_short u h = pick_most (eqb u 0) (bytes "-") _ 15 (omega arith) (value_short u h)
