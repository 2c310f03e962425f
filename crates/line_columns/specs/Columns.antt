-- Columns of numbers: what may stand behind what, and what columns are worth. Assumes nothing.
use Rattle.std.specs.Prelude.{ℕ, zero, suc, ◌+◌, ◌*◌, ◌%◌, Bool, true, false, ◌&&◌, ◌||◌, not, List, [], ◌∷◌, eqb}
use Rattle.text.specs.Pick.{pick}
use Rattle.rules.specs.Columns.{between}

-- what a column may hold, up to the byte `most`: behind a blank a blank or what is from `1` on, behind anything else what is from `0` on
unfoldable pub goes_on : Bool → ℕ → ℕ → Bool
goes_on behind_blank most c = between (pick behind_blank 49 48) most c || eqb c (pick behind_blank 32 48)

-- the columns of one number from 1 up, or blanks alone; the first says whether the column before them is a blank
unfoldable pub stands : Bool → List ℕ → Bool
stands b [] = true
stands b (c ∷ s) = goes_on b 57 c && stands (eqb c 32) s

-- what columns are worth behind those worth acc; a blank counts 0
unfoldable pub worth_of : ℕ → List ℕ → ℕ
worth_of acc [] = acc
worth_of acc (c ∷ s) = worth_of (acc * 10 + c % 16) s

-- a column by its place in the tables: where `front` is a blank a number begins, and the column before it counts as one
unfoldable pub fits : ℕ → ℕ → ℕ → ℕ → Bool
fits front most left c = goes_on (eqb front 32 || eqb left 32) most c

-- as many columns as the tables have, each by its place in them; `left` is the column before the first
unfoldable pub formed : List ℕ → List ℕ → ℕ → List ℕ → Bool
formed [] ms left s = true
formed (f ∷ fs) [] left s = false
formed (f ∷ fs) (m ∷ ms) left [] = false
formed (f ∷ fs) (m ∷ ms) left (c ∷ s) = fits f m left c && formed fs ms c s

-- the table has a number's first column there, or has none
unfoldable pub begins : Bool → ℕ → Bool
begins first f = pick first (eqb f 32) (not (eqb f 32))

-- the tables begin with k columns of one number, its first or not, that go up to `9`
unfoldable pub placed : Bool → ℕ → List ℕ → List ℕ → Bool
placed first zero fs ms = true
placed first (suc k) [] ms = false
placed first (suc k) (f ∷ fs) [] = false
placed first (suc k) (f ∷ fs) (m ∷ ms) = begins first f && (eqb m 57 && placed false k fs ms)
