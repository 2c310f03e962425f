-- Document 01, "Day lines": what stands in a line's columns. Assumes nothing.
use Rattle.std.specs.Prelude.{ℕ, ◌+◌, ◌-◌, ◌*◌, ◌/◌, ◌%◌, Bool, true, false, ◌&&◌, ◌||◌, not, List, [], ◌∷◌, leb, eqb, take, drop, get_or}
use Rattle.text.specs.Pick.{pick, all}
use Rattle.text.specs.Reading.{span, is_digit}
use Rattle.rules.specs.Tape.{is_letter}
use Rattle.rules.specs.declared.Number.{Number}
use Rattle.rules.specs.declared.Number.TheVariants.{Blank, Bad, Is}

-- columns a to b, numbered from 1
abbrev pub columns : ℕ → ℕ → List ℕ → List ℕ
columns a b line = take (b - (a - 1)) (drop (a - 1) line)

-- column a
abbrev pub column : ℕ → List ℕ → ℕ
column a line = get_or line (a - 1) 0

unfoldable pub is_blank : ℕ → Bool
is_blank c = eqb c 32

abbrev pub not_blank : ℕ → Bool
not_blank c = not (is_blank c)

-- columns without a field are blank
unfoldable pub blank : List ℕ → Bool
blank s = all is_blank s

-- ---- numbers: right-justified in base ten, blank-padded, no leading zero except `0` alone

-- without the blanks at the start
unfoldable pub justified : List ℕ → List ℕ
justified [] = []
justified (c ∷ s) = pick (is_blank c) (justified s) (c ∷ s)

-- the digits that are left, after those worth acc
unfoldable pub digits_from : ℕ → List ℕ → Number
digits_from acc [] = Is acc
digits_from acc (c ∷ s) = pick (is_digit c) (digits_from (acc * 10 + (c - 48)) s) Bad

-- `0` alone
unfoldable pub zero_alone : List ℕ → Number
zero_alone [] = Is 0
zero_alone (c ∷ s) = Bad

unfoldable pub numeral : List ℕ → Number
numeral [] = Blank
numeral (c ∷ s) = pick (eqb c 48) (zero_alone s) (digits_from 0 (c ∷ s))

-- the number in a field
unfoldable pub number_in : List ℕ → Number
number_in s = numeral (justified s)

-- a number stands there, in its form
unfoldable pub is_number : Number → Bool
is_number Blank = false
is_number Bad = false
is_number (Is n) = true

-- a number that may be left blank is in its form
unfoldable pub number_or_blank : Number → Bool
number_or_blank Blank = true
number_or_blank Bad = false
number_or_blank (Is n) = true

-- 0 where there is none
unfoldable pub value_of : Number → ℕ
value_of Blank = 0
value_of Bad = 0
value_of (Is n) = n

-- a given number passes the test
unfoldable pub passes : (ℕ → Bool) → Number → Bool
passes p Blank = true
passes p Bad = true
passes p (Is n) = p n

unfoldable pub between : ℕ → ℕ → ℕ → Bool
between low high n = leb low n && leb n high

-- ---- texts and letters: left-justified

-- the text at a field's left, up to the first blank
unfoldable pub word : List ℕ → List ℕ
word s = (span not_blank s).got

-- bytes that pass, from the left, then blanks only
unfoldable pub filled : (ℕ → Bool) → List ℕ → Bool
filled p s = blank (span p s).rest

-- a text from its left, then blanks only
unfoldable pub left_justified : List ℕ → Bool
left_justified s = filled not_blank s

-- a root: 1 to 6 of A-Z in six columns
unfoldable pub is_root : List ℕ → Bool
is_root s = is_letter (get_or s 0 0) && filled is_letter s

-- ---- dates: yyyymmdd, Gregorian, from 10000101

unfoldable pub is_leap : ℕ → Bool
is_leap y = eqb (y % 4) 0 && (not (eqb (y % 100) 0) || eqb (y % 400) 0)

unfoldable pub days_in : ℕ → ℕ → ℕ
days_in y m = pick (eqb m 2) (pick (is_leap y) 29 28) (pick (eqb m 4 || (eqb m 6 || (eqb m 9 || eqb m 11))) 30 31)

unfoldable pub is_date : ℕ → Bool
is_date n = leb 10000101 n && (between 1 12 (n / 100 % 100) && between 1 (days_in (n / 10000) (n / 100 % 100)) (n % 100))
