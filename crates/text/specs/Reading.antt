-- Reading a text from the left: what was found, and the rest. Assumes nothing.
use Rattle.std.specs.Prelude.{ℕ, ◌+◌, ◌*◌, ◌-◌, Bool, true, false, ◌&&◌, List, [], ◌∷◌, leb, eqb}
use Rattle.text.specs.Pick.{pick}

pub record Read (A : Type 0) : Type 0 where
  pub got : A
  pub rest : List ℕ

abbrev pub found : {A : Type 0} → A → List ℕ → Read A
found x s = record { got = x; rest = s }

-- the first byte passes the test
abbrev pub heads : (ℕ → Bool) → List ℕ → Bool
heads p [] = false
heads p (c ∷ s) = p c

unfoldable pub is_digit : ℕ → Bool
is_digit c = leb 48 c && leb c 57

-- the digits at the front, onto a number that stands before them
unfoldable pub number : ℕ → List ℕ → Read ℕ
number a [] = found a []
number a (c ∷ s) = pick (is_digit c) (number (10 * a + (c - 48)) s) (found a (c ∷ s))

-- one byte more at the front of what was found
abbrev pub before : ℕ → Read (List ℕ) → Read (List ℕ)
before c r = found (c ∷ r.got) r.rest

-- the bytes at the front that pass
unfoldable pub span : (ℕ → Bool) → List ℕ → Read (List ℕ)
span p [] = found [] []
span p (c ∷ s) = pick (p c) (before c (span p s)) (found [] (c ∷ s))

-- the text p stands at the front
unfoldable pub starts : List ℕ → List ℕ → Bool
starts [] s = true
starts (a ∷ p) [] = false
starts (a ∷ p) (c ∷ s) = eqb a c && starts p s

-- what follows the text p
unfoldable pub past : List ℕ → List ℕ → List ℕ
past [] s = s
past (a ∷ p) [] = []
past (a ∷ p) (c ∷ s) = past p s

-- a text that may be left out: the text p, if it stands there
unfoldable pub taken : List ℕ → List ℕ → Read Bool
taken p s = found (starts p s) (pick (starts p s) (past p s) s)

-- a figure dot and a digit
unfoldable pub dot_digit : List ℕ → Bool
dot_digit [] = false
dot_digit (c ∷ s) = eqb c 44 && heads is_digit s
