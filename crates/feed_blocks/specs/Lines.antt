-- The lines of an input (document 01, "Day lines": the program's lines end in a line feed, the last may lack it). Assumes nothing.
use Rattle.std.specs.Prelude.{ℕ, suc, ◌+◌, List, [], ◌∷◌, ◌++◌, Bool, true, false, ◌&&◌, eqb, ltb, length, drop, get_or}
use Rattle.text.specs.Pick.{pick}

-- how many bytes stand before the first line feed, or before the end
unfoldable pub line_length : List ℕ → ℕ
line_length [] = 0
line_length (c ∷ s) = pick (eqb c 10) 0 (suc (line_length s))

-- the place of the first line feed from a place on, or of the end
unfoldable pub line_end : List ℕ → ℕ → ℕ
line_end block from = from + line_length (drop from block)

-- a line feed stands at a place
unfoldable pub ends_at : List ℕ → ℕ → Bool
ends_at block at = ltb at (length block) && eqb (get_or block at 0) 10

-- bytes cut at the line feeds: the pieces that one ends, and what follows the last one
pub record Cut : Type 0 where
  pub ended : List (List ℕ)
  pub rest : List ℕ

-- a piece with its line feed in front
abbrev pub after : List ℕ → Cut → Cut
after l c = record { ended = l ∷ c.ended; rest = c.rest }

-- a byte that is no line feed in front: it belongs to the first piece
abbrev pub led : ℕ → List (List ℕ) → List ℕ → Cut
led b [] r = record { ended = []; rest = b ∷ r }
led b (l ∷ ls) r = record { ended = (b ∷ l) ∷ ls; rest = r }

unfoldable pub cut : List ℕ → Cut
cut [] = record { ended = []; rest = [] }
cut (c ∷ s) = pick (eqb c 10) (after [] (cut s)) (led c (cut s).ended (cut s).rest)

-- what follows the last line feed is a line if it has at least one byte
abbrev pub last_line : List ℕ → List (List ℕ)
last_line [] = []
last_line (c ∷ s) = (c ∷ s) ∷ []

-- a piece that a line feed ends is a line, even an empty one; no byte, no line
unfoldable pub lines_of : List ℕ → List (List ℕ)
lines_of s = (cut s).ended ++ last_line (cut s).rest

-- the lines of an input that came to its end, or (`false`) of one that broke off: then only those that a line feed ends
unfoldable pub lines_by : Bool → List ℕ → List (List ℕ)
lines_by true s = lines_of s
lines_by false s = (cut s).ended

-- what follows the first line feed; nothing, where there is none
unfoldable pub past_line : List ℕ → List ℕ
past_line s = drop (suc (line_length s)) s
