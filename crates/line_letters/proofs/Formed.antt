-- Laws of fields with one letter at most. Assumes nothing.
use Prim.Native.Nat.{ℕ, ◌≤◌, ◌<◌}
use native.Mathlib.Omega.{arith}
use mathlib.Core.Path.{◌≡◌, refl, sym, ap, ◌∙◌, subst}
use mathlib.Core.Bool.{Bool, true, false, ◌&&◌}
use mathlib.Core.List.{List, [], ◌∷◌}
use lib.ListN.{length, get_or, drop, drop_of_length-le}
use lib.Seq.{drop-cons}
use borrow.Author.Tests.{eq-eqb, ne_eqb, eqb-true}
use Rattle.text.specs.Pick.{pick, all, among}
use Rattle.text.specs.Reading.{span}
use Rattle.text.proofs.Texts.{and_left}
use Rattle.rules.specs.Columns.{is_blank, blank, filled}
use Rattle.line_fields.proofs.Texts.{filled_by}
use Rattle.rules.specs.Conditions.{is_condition, letters_formed}

first_blank : (c : ℕ) (s : List ℕ) → blank (c ∷ s) ≡ true → c ≡ 32
unfolding blank all is_blank
first_blank c s h = eqb-true c 32 (and_left (is_blank c) (all is_blank s) h)

no_condition : (s : List ℕ) → blank (32 ∷ s) ≡ letters_formed (32 ∷ s)
unfolding letters_formed filled span pick is_condition among
no_condition s = refl

blank_formed : (s : List ℕ) → blank s ≡ true → letters_formed s ≡ true
unfolding letters_formed filled span blank all
blank_formed [] h = refl
blank_formed (c ∷ s) h = subst (λ (x : ℕ). blank (x ∷ s) ≡ true → letters_formed (x ∷ s) ≡ true) (sym (first_blank c s h)) (λ g. sym (no_condition s) ∙ g) h

-- behind a letter
letter_formed : (c : ℕ) (s : List ℕ) → is_condition c ≡ true → letters_formed (c ∷ s) ≡ letters_formed s
unfolding letters_formed filled span pick
letter_formed c s h = rw h

-- behind anything else
other_formed : (c : ℕ) (s : List ℕ) → is_condition c ≡ false → letters_formed (c ∷ s) ≡ (is_blank c && blank s)
unfolding letters_formed filled span pick blank all
other_formed c s h = rw h

one_formed : (c : ℕ) (s : List ℕ) → blank s ≡ true → (c ≡ 32 → ⊥) → (b : Bool) → is_condition c ≡ b → b ≡ letters_formed (c ∷ s)
unfolding is_blank
one_formed c s h k true e = sym (letter_formed c s e ∙ blank_formed s h)
one_formed c s h k false e = sym (other_formed c s e ∙ no_blank)
  where
    no_blank : (is_blank c && blank s) ≡ false
    no_blank = rw (ne_eqb c 32 k)

-- four columns, the last three of them blank
module _ (s : List ℕ) (l : 4 ≤ length s) (m : length s < 5) (a : get_or s 1 0 ≡ 32) (b : get_or s 2 0 ≡ 32) (c : get_or s 3 0 ≡ 32) where
  split : s ≡ get_or s 0 0 ∷ drop 1 s
  split = drop-cons s 0 0 (omega arith)

  behind_blank : blank (drop 1 s) ≡ true
  unfolding blank all is_blank
  behind_blank = rw (drop-cons s 1 0 (omega arith), drop-cons s 2 0 (omega arith), drop-cons s 3 0 (omega arith), drop_of_length-le s {i = 4} (omega arith), a, b, c)

  pub formed_none : get_or s 0 0 ≡ 32 → letters_formed s ≡ true
  unfolding blank all is_blank
  formed_none e =
      let z : blank s ≡ true = ap blank split ∙ rw (eq-eqb (get_or s 0 0) 32 e) behind_blank in
      blank_formed s z

  pub formed_one : (get_or s 0 0 ≡ 32 → ⊥) → letters_formed s ≡ is_condition (get_or s 0 0)
  formed_one k = ap letters_formed split ∙ sym (one_formed (get_or s 0 0) (drop 1 s) behind_blank k _ refl)

pub as_filled : (s : List ℕ) → letters_formed s ≡ filled is_condition s
unfolding letters_formed
as_filled s = refl

pub ruleset formed = (formed_none, formed_one, as_filled, filled_by)
