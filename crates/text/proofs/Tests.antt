-- What a test on the way says of a choice by it: a need `x ≡ pick ..`, `x ≡ a || b` or `x ≡ a && b` is closed by `search tests`. Assumes nothing.
use Prim.Native.Nat.{ℕ, ◌≤◌, ◌<◌}
use mathlib.Core.Path.{◌≡◌, sym, ◌∙◌}
use mathlib.Core.Bool.{Bool, true, false, ◌&&◌, ◌||◌, not}
use lib.Dec.{eqb, leb, ltb}
use borrow.Author.Tests.{lt-ltb, le-ltb, le-leb, lt-leb, eq-eqb, ne_eqb}
use Rattle.text.specs.Pick.{pick}

-- ---- a choice of values
module _ {A : Type 0} (x p q : A) where
  pub pick_yes : (t : Bool) → t ≡ true → x ≡ p → x ≡ pick t p q
  unfolding pick
  pick_yes t h e = rw h e

  pub pick_no : (t : Bool) → t ≡ false → x ≡ q → x ≡ pick t p q
  unfolding pick
  pick_no t h e = rw h e

module _ {A : Type 0} (x p q : A) (a b : ℕ) where
  pub pick_eq : a ≡ b → x ≡ p → x ≡ pick (eqb a b) p q
  pick_eq h e = pick_yes x p q (eqb a b) (eq-eqb a b h) e

  pub pick_ne : (a ≡ b → ⊥) → x ≡ q → x ≡ pick (eqb a b) p q
  pick_ne h e = pick_no x p q (eqb a b) (ne_eqb a b h) e

  pub pick_lt : a < b → x ≡ p → x ≡ pick (ltb a b) p q
  pick_lt h e = pick_yes x p q (ltb a b) (lt-ltb a b h) e

  pub pick_nlt : b ≤ a → x ≡ q → x ≡ pick (ltb a b) p q
  pick_nlt h e = pick_no x p q (ltb a b) (le-ltb a b h) e

  pub pick_le : a ≤ b → x ≡ p → x ≡ pick (leb a b) p q
  pick_le h e = pick_yes x p q (leb a b) (le-leb a b h) e

  pub pick_nle : b < a → x ≡ q → x ≡ pick (leb a b) p q
  pick_nle h e = pick_no x p q (leb a b) (lt-leb a b h) e

pub ruleset picks = (pick_eq, pick_ne, pick_lt, pick_nlt, pick_le, pick_nle, pick_yes, pick_no)

-- ---- a single test
pub is_eq : (a b : ℕ) → a ≡ b → true ≡ eqb a b
is_eq a b h = sym (eq-eqb a b h)

pub is_ne : (a b : ℕ) → (a ≡ b → ⊥) → false ≡ eqb a b
is_ne a b h = sym (ne_eqb a b h)

pub is_lt : (a b : ℕ) → a < b → true ≡ ltb a b
is_lt a b h = sym (lt-ltb a b h)

pub is_nlt : (a b : ℕ) → b ≤ a → false ≡ ltb a b
is_nlt a b h = sym (le-ltb a b h)

pub is_le : (a b : ℕ) → a ≤ b → true ≡ leb a b
is_le a b h = sym (le-leb a b h)

pub is_nle : (a b : ℕ) → b < a → false ≡ leb a b
is_nle a b h = sym (lt-leb a b h)

pub is_yes : (t : Bool) → t ≡ true → true ≡ t
is_yes t h = sym h

pub is_no : (t : Bool) → t ≡ false → false ≡ t
is_no t h = sym h

pub not_yes : (t : Bool) → false ≡ t → true ≡ not t
not_yes t h = rw (← h)

pub not_no : (t : Bool) → true ≡ t → false ≡ not t
not_no t h = rw (← h)

-- ---- either, both
pub or_yes : (a b : Bool) → true ≡ a → true ≡ (a || b)
or_yes a b h = rw (← h)

pub or_no : (x a b : Bool) → false ≡ a → x ≡ b → x ≡ (a || b)
or_no x a b h e = rw (← h) e

pub and_no : (a b : Bool) → false ≡ a → false ≡ (a && b)
and_no a b h = rw (← h)

pub and_yes : (x a b : Bool) → true ≡ a → x ≡ b → x ≡ (a && b)
and_yes x a b h e = rw (← h) e

pub ruleset bools = (or_yes, or_no, and_no, and_yes, not_yes, not_no, is_eq, is_ne, is_lt, is_nlt, is_le, is_nle, is_yes, is_no)

pub ruleset tests = (picks, bools)

-- ---- what a callee's answer, tested, says of the test that it answers
pub told : (t u b : Bool) → t ≡ u → t ≡ b → u ≡ b
told t u b e h = sym e ∙ h
