-- The entry that a line adds to the shown facts, as thirteen numbers. Assumes nothing.
use Rattle.std.specs.Prelude.{ℕ, List, ◌∷◌}
use Rattle.std.proofs.Math.Option.{Option, none, some}
use Rattle.text.specs.Pick.{pick}
use Rattle.rules.specs.Shown.{Fact, announced, traded, cancelled, erred, corrected}
use Rattle.read_numbers.specs.Numbers.{side_numbers, no_side, part_numbers, volume_number, kind_and_sides}

-- security, temporary suffix shown (1) or not, kind (A announcement, whose text is the print, T X E C as the lines, 0 for none), sides as the reader's (read_numbers).
-- Outside normal a side of a C, X or E has price and volume 0; 0 is the volume of a trade that shows none
unfoldable pub entry_numbers : Option Fact → List ℕ
entry_numbers none = 0 ∷ 0 ∷ kind_and_sides 0 no_side no_side
entry_numbers (some (announced text)) = 0 ∷ 0 ∷ kind_and_sides 65 no_side no_side
entry_numbers (some (traded i temporary price c volume)) = i ∷ pick temporary 1 0 ∷ kind_and_sides 84 (side_numbers price c (volume_number volume)) no_side
entry_numbers (some (cancelled i x)) = i ∷ 0 ∷ kind_and_sides 88 (part_numbers x) no_side
entry_numbers (some (erred i x)) = i ∷ 0 ∷ kind_and_sides 69 (part_numbers x) no_side
entry_numbers (some (corrected i x y)) = i ∷ 0 ∷ kind_and_sides 67 (part_numbers x) (part_numbers y)
