-- Laws of what a line's columns hold: the text at a field's left, numbers within their values. Assumes nothing.
use Prim.Native.Nat.{ℕ, ◌+◌, ◌^◌, ◌≤◌, ◌<◌}
use native.Mathlib.Omega.{arith}
use mathlib.Core.Path.{◌≡◌}
use mathlib.Core.Bool.{true, ◌&&◌}
use mathlib.Core.List.{List, [], ◌∷◌}
use lib.Dec.{leb, ltb}
use lib.ListN.{length, length-take, length-drop}
use borrow.Author.Tests.{eq-eqb, ne_eqb, leb-true}
use Rattle.text.specs.Pick.{pick}
use Rattle.text.specs.Reading.{span}
use Rattle.text.proofs.Texts.{and_left, and_right}
use Rattle.text.proofs.Parts.{span_short}
use Rattle.rules.specs.Sizes.{width}
use Rattle.rules.specs.declared.Number.{Number}
use Rattle.rules.specs.declared.Number.TheVariants.{Blank, Bad, Is}
use Rattle.rules.specs.Columns.{is_blank, not_blank, word, value_of, passes, between}
use Rattle.rules.specs.Line.{is_price, is_security_number, previous_ranged, name_columns}

-- ---- the text at a field's left

pub word_blank : (c : ℕ) (s : List ℕ) → c ≡ 32 → word (c ∷ s) ≡ []
unfolding word span pick is_blank
word_blank c s h = rw (word, eq-eqb c 32 h)

pub word_byte : (c : ℕ) (s : List ℕ) → (c ≡ 32 → ⊥) → word (c ∷ s) ≡ c ∷ word s
unfolding word span pick is_blank
word_byte c s h = rw (word, ne_eqb c 32 h)

pub word_short : (s : List ℕ) → length (word s) ≤ length s
unfolding word
word_short s = span_short not_blank s

-- the columns of a name
pub name_length : (line : List ℕ) → length line ≡ width → length (name_columns line) ≡ 19
name_length line h = rw (length-take, length-drop) (omega arith)

-- ---- numbers within their values

pub security_number : (n : ℕ) → is_security_number n ≡ true → (1 ≤ n) × (n ≤ 512)
unfolding is_security_number between
security_number n h = (leb-true 1 n (and_left (leb 1 n) (leb n 512) h), leb-true n 512 (and_right (leb 1 n) (leb n 512) h))

pub level_below : (n : ℕ) → between 5000 100000 n ≡ true → n < 1000000000
unfolding between
level_below n h = omega (arith, leb-true n 100000 (and_right (leb 5000 n) (leb n 100000) h))

-- the decimals of a previous last
pub few_decimals : (n d : Number) → previous_ranged n d ≡ true → value_of d ≤ 8
unfolding previous_ranged passes value_of is_price
few_decimals Blank Blank h = omega arith
few_decimals Blank Bad h = omega arith
few_decimals Blank (Is d) h = leb-true d 8 h
few_decimals Bad Blank h = omega arith
few_decimals Bad Bad h = omega arith
few_decimals Bad (Is d) h = leb-true d 8 h
few_decimals (Is n) Blank h = omega arith
few_decimals (Is n) Bad h = omega arith
few_decimals (Is n) (Is d) h = leb-true d 8 (and_left (leb d 8) (ltb n (10 ^ (6 + d))) (and_right (leb 1 n) (leb d 8 && ltb n (10 ^ (6 + d))) h))
