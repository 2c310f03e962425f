-- What the reader tells of a place of a tape, as fourteen numbers. Assumes nothing.
use Rattle.std.specs.Prelude.{ℕ, ◌+◌, List, [], ◌∷◌, drop, Result}
use Rattle.std.proofs.Math.Option.{Option, none, some}
use Rattle.text.specs.Pick.{pick}
use Rattle.rules.specs.Shown.{Conditions, Part, in_full, bare}
use Rattle.rules.specs.NormalPrint.{ReadFact, read_announcement, read_trade, read_cancel, read_error, read_correction}
use Rattle.rules.specs.declared.Letters.{Letters}
use Rattle.rules.specs.declared.Refusal.{Refusal}
use Rattle.reader.specs.Read.{read_at}
use Rattle.reader.specs.Told.{length_of, name_from, name_length, fact_in}
use Rattle.reader.specs.declared.Print.{Print}
use Rattle.read_numbers.specs.declared.SideNumbers.{SideNumbers}

-- ---- a side: price and previous last in units of ten to the power -8 dollars, the set of letters, days, volume; 0 for none

-- the set of letters, N as M and C as K: a bit each, O the lowest, then S L M K R B T J G
unfoldable pub letters_number : Letters → ℕ
letters_number x =
    pick x.o 1 0 + pick x.s 2 0 + pick x.l 4 0 + pick x.m 8 0 + pick x.k 16 0
    + pick x.r 32 0 + pick x.b 64 0 + pick x.t 128 0 + pick x.j 256 0 + pick x.g 512 0

unfoldable pub side_numbers : ℕ → Conditions → ℕ → SideNumbers
side_numbers price c volume = record { price = price; letters = letters_number c.letters; days = c.days; previous = c.previous; volume = volume }

abbrev pub no_side : SideNumbers
no_side = record { price = 0; letters = 0; days = 0; previous = 0; volume = 0 }

-- a side of a normal print is in full; the shown facts (facts_numbers) also have sides of conditions alone
unfoldable pub part_numbers : Part → SideNumbers
part_numbers (in_full price c volume) = side_numbers price c volume
part_numbers (bare c) = side_numbers 0 c 0

unfoldable pub volume_number : Option ℕ → ℕ
volume_number none = 0
volume_number (some n) = n

-- ---- the facts: kind (A announcement, T X E C as the lines, 0 for none), first or only side, correcting side

abbrev pub kind_and_sides : ℕ → SideNumbers → SideNumbers → List ℕ
kind_and_sides kind x y =
    kind ∷ x.price ∷ x.letters ∷ x.days ∷ x.previous ∷ x.volume
    ∷ y.price ∷ y.letters ∷ y.days ∷ y.previous ∷ y.volume ∷ []

unfoldable pub fact_numbers : Option ReadFact → List ℕ
fact_numbers none = kind_and_sides 0 no_side no_side
fact_numbers (some (read_announcement text)) = kind_and_sides 65 no_side no_side
fact_numbers (some (read_trade price c volume)) = kind_and_sides 84 (side_numbers price c (volume_number volume)) no_side
fact_numbers (some (read_cancel x)) = kind_and_sides 88 (part_numbers x) no_side
fact_numbers (some (read_error x)) = kind_and_sides 69 (part_numbers x) no_side
fact_numbers (some (read_correction x y)) = kind_and_sides 67 (part_numbers x) (part_numbers y)

-- ---- a place: the print's length, where in it its name begins and how long that is, and the facts

unfoldable pub numbers_of : List ℕ → Result Print Refusal → List ℕ
numbers_of s r = length_of r ∷ name_from r ∷ name_length r ∷ fact_numbers (fact_in s r)

unfoldable pub numbers_at : List ℕ → ℕ → List ℕ
numbers_at tape place = numbers_of (drop place tape) (read_at tape place)
