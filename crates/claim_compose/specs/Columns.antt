-- Values put into a line's columns. Assumes nothing.
use Rattle.std.specs.Prelude.{ℕ, suc, zero, ◌+◌, ◌-◌, ◌/◌, ◌%◌, Bool, List, [], ◌∷◌, ◌++◌, map, eqb}
use Rattle.text.specs.Bytes.{bytes}
use Rattle.text.specs.Pick.{pick, opt}
use Rattle.rules.specs.declared.Letters.{Letters}

-- ---- numbers: right-justified in base ten, blank-padded

-- k columns more before those that stand, for the digits of m; blanks where none is left
unfoldable pub digits_before : ℕ → ℕ → List ℕ → List ℕ
digits_before zero m s = s
digits_before (suc k) m s = digits_before k (m / 10) (pick (eqb m 0) 32 (48 + m % 10) ∷ s)

-- n in k columns
unfoldable pub number_field : ℕ → ℕ → List ℕ
number_field k n = digits_before (k - 1) (n / 10) ((48 + n % 10) ∷ [])

-- ---- texts: left-justified

unfoldable pub first_or : List ℕ → ℕ
first_or [] = 32
first_or (c ∷ s) = c

unfoldable pub later : List ℕ → List ℕ
later [] = []
later (c ∷ s) = s

-- a text in k columns
unfoldable pub text_field : ℕ → List ℕ → List ℕ
text_field zero s = []
text_field (suc k) s = first_or s ∷ text_field k (later s)

-- ---- the condition letters

unfoldable pub letters_text : Letters → List ℕ
letters_text x =
    opt x.o (bytes "O")
    ++ opt x.s (bytes "S")
    ++ opt x.l (bytes "L")
    ++ opt x.n (bytes "N")
    ++ opt x.m (bytes "M")
    ++ opt x.c (bytes "C")
    ++ opt x.k (bytes "K")
    ++ opt x.b (bytes "B")
    ++ opt x.t (bytes "T")
    ++ opt x.r (bytes "R")
    ++ opt x.j (bytes "J")
    ++ opt x.g (bytes "G")

-- four columns
unfoldable pub letters_columns : Letters → List ℕ
letters_columns x = text_field 4 (letters_text x)

-- a field that is filled or left blank
unfoldable pub filled_if : Bool → List ℕ → List ℕ
filled_if b s = map (λ c. pick b c 32) s

unfoldable pub blanks : ℕ → List ℕ
blanks zero = []
blanks (suc k) = 32 ∷ blanks k
