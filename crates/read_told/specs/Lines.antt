-- The line of what stands at a place of a tape: place and length as the reader's program writes them, then the undivided name and the facts. Assumes nothing.
use Rattle.std.specs.Prelude.{ℕ, List, [], ◌∷◌, ◌++◌, drop}
use Rattle.std.proofs.Math.Option.{Option, none, some}
use Rattle.text.specs.Bytes.{bytes}
use Rattle.text_right.specs.Justified.{right}
use Rattle.rules.specs.Shown.{Part}
use Rattle.rules.specs.NormalPrint.{ReadFact, read_announcement, read_trade, read_cancel, read_error, read_correction}
use Rattle.facts_side.specs.Sides.{priced_text, part_text, volume_text}
use Rattle.reader.specs.Read.{print_at}
use Rattle.reader.specs.Told.{length_of, name_in, fact_in}

-- ---- the facts of a print

unfoldable pub announcement_text : List ℕ → List ℕ
announcement_text text = bytes "A " ++ text

-- a side between two texts
unfoldable pub among_text : List ℕ → Part → List ℕ → List ℕ
among_text opening x closing = opening ++ part_text x ++ closing

unfoldable pub correction_text : Part → Part → List ℕ
correction_text x y = among_text (bytes "C orig(") x (bytes ") corr(") ++ part_text y ++ bytes ")"

unfoldable pub fact_text : ReadFact → List ℕ
fact_text (read_announcement text) = announcement_text text
fact_text (read_trade price c volume) = bytes "T " ++ (priced_text price c ++ bytes " vol=" ++ volume_text volume)
fact_text (read_cancel x) = among_text (bytes "X side(") x (bytes ")")
fact_text (read_error x) = among_text (bytes "E side(") x (bytes ")")
fact_text (read_correction x y) = correction_text x y

-- `-` is none
unfoldable pub facts_text : Option ReadFact → List ℕ
facts_text none = bytes "-"
facts_text (some f) = fact_text f

-- ---- the line

unfoldable pub place_text : ℕ → ℕ → List ℕ
place_text place length = right 10 place ++ right 10 length

unfoldable pub name_text : List ℕ → List ℕ
name_text name = bytes " name=" ++ name ++ bytes " "

unfoldable pub line_text : ℕ → ℕ → List ℕ → List ℕ → List ℕ
line_text place length name facts = place_text place length ++ name_text name ++ facts ++ (10 ∷ [])

-- of the print, or the refusal, that stands at a place, from the rest s of the tape there
unfoldable pub print_line : ℕ → List ℕ → List ℕ
print_line place s = line_text place (length_of (print_at s)) (name_in s (print_at s)) (facts_text (fact_in s (print_at s)))

unfoldable pub told_line : List ℕ → ℕ → List ℕ
told_line tape place = print_line place (drop place tape)
