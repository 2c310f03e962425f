-- The lines of a tape, one a print (document 01, "Reader"), whatever a line tells of its print. Assumes nothing.
use Rattle.std.specs.Prelude.{ℕ, zero, suc, ◌+◌, ◌≤◌, ◌≡◌, true, false, ◌&&◌, List, [], ◌∷◌, ◌++◌, leb, eqb, length, drop}
use Rattle.text_right.specs.Justified.{right}
use Rattle.rules.specs.Sizes.{longest_print}
use Rattle.reader.specs.Read.{print_at}
use Rattle.reader.specs.Told.{length_of}

-- what is written of a print, or of a refusal: from its place on the tape, and the rest of the tape from there
abbrev pub Line : Type 0
Line = ℕ → List ℕ → List ℕ

-- what a line owes: it has at most so many bytes, and what follows `longest_print` bytes of the tape changes nothing of it
pub record Tells (line : Line) (most : ℕ) : Type 0 where
  pub short : (place : ℕ) (s : List ℕ) → place ≤ 9999999999 → length (line place s) ≤ most
  pub same : (place : ℕ) (s t : List ℕ) → longest_print ≤ length s → line place (s ++ t) ≡ line place s

-- the lines of the rest s of a tape, from a place on, for at most k prints: at the tape's end and above place 9,999,999,999 no line; at a refusal its line, and it stops
unfoldable pub prints_from : Line → ℕ → List ℕ → ℕ → List ℕ
prints_from line zero s place = []
prints_from line (suc k) s place = elim (leb 1 (length s) && leb place 9999999999) [
  | true ↦ line place s ++ elim (eqb (length_of (print_at s)) 0) [ true ↦ [] | false ↦ prints_from line k (drop (length_of (print_at s)) s) (place + length_of (print_at s)) ]
  | false ↦ []
]

-- each print has at least one byte, so there are no more prints than bytes
unfoldable pub read_from : Line → List ℕ → ℕ → List ℕ
read_from line s place = prints_from line (length s) s place

-- ---- the reader's program: place and length, right-justified in ten columns each, and a line feed

-- 21 bytes
unfoldable pub line_of : ℕ → ℕ → List ℕ
line_of place n = right 10 place ++ right 10 n ++ (10 ∷ [])

-- of a refusal the length 0
unfoldable pub place_line : Line
place_line place s = line_of place (length_of (print_at s))

-- of a whole tape
unfoldable pub read_text : List ℕ → List ℕ
read_text tape = read_from place_line tape 0
