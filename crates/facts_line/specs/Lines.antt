-- The text of a shown fact: one line. Assumes nothing.
use Rattle.std.specs.Prelude.{ℕ, Bool, List, [], ◌∷◌, ◌++◌}
use Rattle.std.proofs.Math.Option.{Option, none, some}
use Rattle.text.specs.Bytes.{bytes}
use Rattle.text.specs.Pick.{pick}
use Rattle.text.specs.Decimal.{decimal}
use Rattle.rules.specs.Shown.{Conditions, Part, Fact, announced, traded, cancelled, erred, corrected}
use Rattle.facts_side.specs.Sides.{priced_text, part_text, volume_text}

unfoldable pub flag_text : Bool → List ℕ
flag_text b = pick b (bytes "1") (bytes "0")

unfoldable pub trade_head : ℕ → Bool → List ℕ
trade_head i temporary = bytes "T sec=" ++ decimal i ++ bytes " tmp=" ++ flag_text temporary

unfoldable pub trade_tail : ℕ → Conditions → Option ℕ → List ℕ
trade_tail price c volume = bytes " " ++ priced_text price c ++ bytes " vol=" ++ volume_text volume

unfoldable pub trade_text : ℕ → Bool → ℕ → Conditions → Option ℕ → List ℕ
trade_text i temporary price c volume = trade_head i temporary ++ trade_tail price c volume ++ (10 ∷ [])

-- security and a side behind its label
unfoldable pub sided_text : List ℕ → ℕ → List ℕ → Part → List ℕ
sided_text opening i label x = opening ++ decimal i ++ label ++ part_text x

unfoldable pub amended_text : List ℕ → ℕ → Part → List ℕ
amended_text opening i x = sided_text opening i (bytes " side(") x ++ (41 ∷ 10 ∷ [])

unfoldable pub correction_text : ℕ → Part → Part → List ℕ
correction_text i x y = sided_text (bytes "C sec=") i (bytes " orig(") x ++ bytes ") corr(" ++ part_text y ++ (41 ∷ 10 ∷ [])

unfoldable pub announced_text : List ℕ → List ℕ
announced_text text = bytes "A " ++ text ++ (10 ∷ [])

unfoldable pub fact_line : Fact → List ℕ
fact_line (announced text) = announced_text text
fact_line (traded i temporary price c volume) = trade_text i temporary price c volume
fact_line (cancelled i x) = amended_text (bytes "X sec=") i x
fact_line (erred i x) = amended_text (bytes "E sec=") i x
fact_line (corrected i x y) = correction_text i x y

-- the line of an entry, if there is one
unfoldable pub line_of : Option Fact → List ℕ
line_of none = []
line_of (some f) = fact_line f
