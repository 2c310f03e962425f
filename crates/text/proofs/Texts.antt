-- Two texts compared byte by byte. Assumes nothing.
use Prim.Native.Nat.{ℕ, suc, ◌+◌, ◌≤◌, ◌<◌}
use native.Mathlib.Numerals.{add-one}
use native.Mathlib.Omega.{arith}
use mathlib.Core.Path.{◌≡◌, refl, ap}
use mathlib.Core.Bool.{Bool, true, false, ◌&&◌}
use mathlib.Core.List.{List, [], ◌∷◌}
use lib.ListN.{length, get_or, drop, drop_of_length-le}
use lib.Seq.{drop-cons}
use lib.Dec.{eqb}
use borrow.Author.Tests.{eq-eqb, ne_eqb, eqb-true}
use Rattle.text.specs.Pick.{same}

and_false : (t : Bool) → false ≡ (t && false)
and_false true = refl
and_false false = refl

pub and_left : (a b : Bool) → (a && b) ≡ true → a ≡ true
and_left true b h = refl
and_left false b h = h

pub and_right : (a b : Bool) → (a && b) ≡ true → b ≡ true
and_right true b h = h
and_right false b h = cc

pub unlike : (a b : List ℕ) → (length a ≡ length b → ⊥) → false ≡ same a b
unfolding same
unlike [] [] h = absurd (h refl)
unlike [] (y ∷ ys) h = refl
unlike (x ∷ xs) [] h = refl
unlike (x ∷ xs) (y ∷ ys) h = rw (← unlike xs ys (λ e. h (ap suc e))) (and_false (eqb x y))

-- the texts are alike up to i, and x is whether the rest is
pub alike : (a b : List ℕ) (i : ℕ) (x : Bool) → same (drop i a) (drop i b) ≡ x → length a ≡ length b → i < length a → get_or a i 0 ≡ get_or b i 0 → same (drop (i + 1) a) (drop (i + 1) b) ≡ x
unfolding same
alike a b i x e l h q = rw (← e, drop-cons a i 0 h, drop-cons b i 0 (omega arith), eq-eqb _ _ q, add-one)

pub differ : (a b : List ℕ) (i : ℕ) (x : Bool) → same (drop i a) (drop i b) ≡ x → length a ≡ length b → i < length a → (get_or a i 0 ≡ get_or b i 0 → ⊥) → false ≡ x
unfolding same
differ a b i x e l h q = rw (← e, drop-cons a i 0 h, drop-cons b i 0 (omega arith), ne_eqb _ _ q)

pub ended : (a b : List ℕ) (i : ℕ) (x : Bool) → same (drop i a) (drop i b) ≡ x → length a ≤ i → length a ≡ length b → true ≡ x
unfolding same
ended a b i x e h l = rw (← e, drop_of_length-le a h, drop_of_length-le b {i = i} (omega arith))

pub same_refl : (s : List ℕ) → same s s ≡ true
unfolding same
same_refl [] = refl
same_refl (a ∷ s) = rw (eq-eqb a a refl, same_refl s)

pub same_true : (s t : List ℕ) → same s t ≡ true → s ≡ t
unfolding same
same_true [] [] h = refl
same_true [] (b ∷ t) h = cc
same_true (a ∷ s) [] h = cc
same_true (a ∷ s) (b ∷ t) h = cc (eqb-true a b (and_left (eqb a b) (same s t) h), same_true s t (and_right (eqb a b) (same s t) h))
