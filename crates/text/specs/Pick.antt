-- Choice by a test, and texts that may be left out. Assumes nothing.
use Rattle.std.specs.Prelude.{ℕ, Bool, true, false, ◌&&◌, ◌||◌, List, [], ◌∷◌, eqb}

-- the first where the test holds, else the second. Shut, so that the laws of `picks` fit it
unfoldable pub pick : {A : Type 0} → Bool → A → A → A
pick true a b = a
pick false a b = b

-- a text, or nothing
unfoldable pub opt : Bool → List ℕ → List ℕ
opt true t = t
opt false t = []

-- every byte passes
unfoldable pub all : (ℕ → Bool) → List ℕ → Bool
all p [] = true
all p (c ∷ s) = p c && all p s

-- two texts are the same
unfoldable pub same : List ℕ → List ℕ → Bool
same [] [] = true
same [] (b ∷ t) = false
same (a ∷ s) [] = false
same (a ∷ s) (b ∷ t) = eqb a b && same s t

-- the byte is one of the text's
unfoldable pub among : ℕ → List ℕ → Bool
among c [] = false
among c (b ∷ s) = eqb c b || among c s

-- the text is one of the list's
unfoldable pub member : List ℕ → List (List ℕ) → Bool
member t [] = false
member t (s ∷ l) = same t s || member t l
