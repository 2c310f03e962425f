-- A root's text: letters A-Z, at least one. Assumes nothing.
use Prim.Native.Nat.{ℕ, ◌≤◌}
use native.Mathlib.Omega.{arith}
use mathlib.Core.Path.{◌≡◌, refl, sym, ◌∙◌}
use mathlib.Core.Bool.{Bool, true, false}
use mathlib.Core.List.{List, [], ◌∷◌}
use lib.ListN.{get_or}
use lib.Dec.{leb, eqb}
use borrow.Author.Tests.{leb-true, eqb-true, ne_eqb}
use Rattle.text.specs.Pick.{pick, all}
use Rattle.text.specs.Reading.{heads, span}
use Rattle.text.proofs.Texts.{and_left, and_right}
use Rattle.rules.specs.Tape.{is_letter}
use Rattle.rules.specs.Columns.{is_blank, blank, word, filled, is_root}
use Rattle.rules.proofs.Fields.{word_blank, word_byte}
use Rattle.text.proofs.Booleans.{false_true}
use Rattle.name_words.proofs.Fields.{word_nothing}

-- ---- letters

pub letter_low : (c : ℕ) → is_letter c ≡ true → 65 ≤ c
unfolding is_letter
letter_low c h = leb-true 65 c (and_left (leb 65 c) (leb c 90) h)

pub letter_not_dot : (c : ℕ) → is_letter c ≡ true → eqb c 46 ≡ false
letter_not_dot c h = let l = letter_low c h in ne_eqb c 46 (λ e. omega arith)

letter_not_blank : (c : ℕ) → is_letter c ≡ true → c ≡ 32 → ⊥
letter_not_blank c h e = omega (arith, letter_low c h)

filled_letter : (c : ℕ) (s : List ℕ) → is_letter c ≡ true → filled is_letter (c ∷ s) ≡ filled is_letter s
unfolding filled span pick
filled_letter c s e = rw (filled, e)

filled_blank : (c : ℕ) (s : List ℕ) → is_letter c ≡ false → filled is_letter (c ∷ s) ≡ true → c ≡ 32
unfolding filled span pick blank all is_blank
filled_blank c s e h = eqb-true c 32 (and_left (eqb c 32) (all is_blank s) (rw (filled, e) at h))

pub root_letters : (s : List ℕ) → filled is_letter s ≡ true → all is_letter (word s) ≡ true
unfolding all
root_letters [] h = rw word_nothing
root_letters (c ∷ s) h = go (is_letter c) refl (root_letters s)
  where
    go : (b : Bool) → is_letter c ≡ b → (filled is_letter s ≡ true → all is_letter (word s) ≡ true) → all is_letter (word (c ∷ s)) ≡ true
    go true e ih = rw (word_byte c s (letter_not_blank c e), e) (ih (sym (filled_letter c s e) ∙ h))
    go false e ih = rw (word_blank c s (filled_blank c s e h))

root_head : (s : List ℕ) → is_letter (get_or s 0 0) ≡ true → heads is_letter (word s) ≡ true
unfolding is_letter
root_head [] h = absurd (false_true h)
root_head (c ∷ s) h = rw (word_byte c s (letter_not_blank c h)) h

-- a root's text begins with a letter and has letters only
pub root_text : (s : List ℕ) → is_root s ≡ true → (heads is_letter (word s) ≡ true) × (all is_letter (word s) ≡ true)
unfolding is_root
root_text s h = (root_head s (and_left (is_letter (get_or s 0 0)) (filled is_letter s) h), root_letters s (and_right (is_letter (get_or s 0 0)) (filled is_letter s) h))
