-- The text of a side, of its conditions and of a volume. Assumes nothing.
use Rattle.std.specs.Prelude.{ℕ, List, [], ◌∷◌, ◌++◌}
use Rattle.std.proofs.Math.Option.{Option, none, some}
use Rattle.text.specs.Bytes.{bytes}
use Rattle.text.specs.Pick.{opt}
use Rattle.text.specs.Decimal.{decimal}
use Rattle.rules.specs.Shown.{Conditions, Part, in_full, bare}
use Rattle.rules.specs.declared.Letters.{Letters}
use Rattle.facts_value.specs.Values.{number_text, value_text, value_or_none}

-- ---- conditions, in the order O S L M K R B T J G (N stands as M, C as K)

-- opened, sold, sold last
unfoldable pub sequence_letters : Letters → List ℕ
sequence_letters x = opt x.o (bytes "O") ++ opt x.s (bytes "S") ++ opt x.l (bytes "L")

-- next day, cash, seller
unfoldable pub settlement_letters : Letters → List ℕ
settlement_letters x = opt x.m (bytes "M") ++ opt x.k (bytes "K") ++ opt x.r (bytes "R")

-- average, stopped, Rule 127, Rule 155
unfoldable pub other_letters : Letters → List ℕ
other_letters x = opt x.b (bytes "B") ++ opt x.t (bytes "T") ++ opt x.j (bytes "J") ++ opt x.g (bytes "G")

unfoldable pub letters_text : Letters → List ℕ
letters_text x = sequence_letters x ++ settlement_letters x ++ other_letters x

unfoldable pub or_none : List ℕ → List ℕ
or_none [] = bytes "-"
or_none (c ∷ s) = c ∷ s

unfoldable pub set_and_days : Letters → ℕ → List ℕ
set_and_days x days = bytes "cond=" ++ or_none (letters_text x) ++ bytes " days=" ++ number_text days

-- conditions by their parts
abbrev pub conditions_with : Letters → ℕ → ℕ → Conditions
conditions_with x days previous = record { letters = x; days = days; previous = previous }

unfoldable pub conditions_text : Conditions → List ℕ
conditions_text c = set_and_days c.letters c.days ++ bytes " prev=" ++ value_or_none c.previous

-- ---- a side in full

unfoldable pub priced_text : ℕ → Conditions → List ℕ
priced_text price c = bytes "price=" ++ value_text price ++ bytes " " ++ conditions_text c

unfoldable pub full_text : ℕ → Conditions → ℕ → List ℕ
full_text price c volume = priced_text price c ++ bytes " vol=" ++ decimal volume

-- ---- a side, in full or not; the volume of a trade, `-` for none

unfoldable pub part_text : Part → List ℕ
part_text (in_full price c volume) = full_text price c volume
part_text (bare c) = conditions_text c

unfoldable pub volume_text : Option ℕ → List ℕ
volume_text none = bytes "-"
volume_text (some n) = decimal n
