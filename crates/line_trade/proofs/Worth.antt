-- A number in its columns is worth what stands behind its last blank. Assumes nothing.
use Prim.Native.Nat.{ℕ, zero, suc, ◌+◌, ◌≤◌, ◌<◌}
use native.Mathlib.Omega.{arith}
use mathlib.Core.Path.{◌≡◌, refl, sym, ap, ◌∙◌}
use mathlib.Core.Bool.{Bool, true, false}
use mathlib.Core.List.{List, [], ◌∷◌}
use lib.ListN.{length, get_or, take, drop, length-drop}
use lib.Seq.{length-take-le, get_or-take, get_or-drop, drop-drop}
use lib.Dec.{eqb}
use borrow.Author.Tests.{eq-eqb, eqb-true}
use Rattle.text.specs.Pick.{pick}
use Rattle.text.proofs.Texts.{and_left, and_right}
use Rattle.rules.specs.Columns.{between}
use Rattle.rules.specs.Sizes.{width}
use Rattle.line_columns.specs.Columns.{goes_on, stands, worth_of}

-- behind a digit stands no blank
no_blank : goes_on false 57 32 ≡ false
unfolding goes_on between pick
no_blank = refl

-- a blank counts 0
blank_counts : (c : ℕ) (s : List ℕ) → c ≡ 32 → worth_of 0 (c ∷ s) ≡ worth_of 0 s
unfolding worth_of
blank_counts c s e = rw e

digits_first : (c : ℕ) (s : List ℕ) → stands false (c ∷ s) ≡ true → eqb c 32 ≡ true → ⊥
unfolding stands
digits_first c s h e =
    let z : ◌≡◌ {A = Bool} false true = sym no_blank ∙ (ap (λ (x : ℕ). goes_on false 57 x) (sym (eqb-true c 32 e)) ∙ and_left (goes_on false 57 c) (stands (eqb c 32) s) h) in
    let q : ◌≡◌ {A = ℕ} 0 1 = cc in
    omega arith

-- by whether the column before them is a blank
next_stand : (b d : Bool) (c : ℕ) (s : List ℕ) → stands b (c ∷ s) ≡ true → eqb c 32 ≡ d → stands d s ≡ true
unfolding stands
next_stand b d c s h e = ap (λ (x : Bool). stands x s) (sym e) ∙ and_right (goes_on b 57 c) (stands (eqb c 32) s) h

digits_only : (k : ℕ) (s : List ℕ) → stands false s ≡ true → get_or s k 0 ≡ 32 → k < length s → ⊥
digits_only k [] h e l = omega arith
digits_only zero (c ∷ s) h e l = digits_first c s h (eq-eqb c 32 e)
digits_only (suc k) (c ∷ s) h e l = go (eqb c 32) refl (λ g. digits_only k s g e (omega arith))
  where
    go : (b : Bool) → eqb c 32 ≡ b → (stands false s ≡ true → ⊥) → ⊥
    go true f ih = digits_first c s h f
    go false f ih = ih (next_stand false false c s h f)

behind_blank : (k : ℕ) (s : List ℕ) → stands true s ≡ true → get_or s k 0 ≡ 32 → k < length s → worth_of 0 s ≡ worth_of 0 (drop (suc k) s)
behind_blank k [] h e l = absurd (omega arith)
behind_blank zero (c ∷ s) h e l = blank_counts c s e
behind_blank (suc k) (c ∷ s) h e l = go (eqb c 32) refl (λ g. behind_blank k s g e (omega arith))
  where
    go : (b : Bool) → eqb c 32 ≡ b → (stands true s ≡ true → worth_of 0 s ≡ worth_of 0 (drop (suc k) s)) → worth_of 0 (c ∷ s) ≡ worth_of 0 (drop (suc k) s)
    go true f ih = blank_counts c s (eqb-true c 32 f) ∙ ih (next_stand true true c s h f)
    go false f ih = absurd (digits_only k s (next_stand true false c s h f) e (omega arith))

-- what is behind the first n of m
rest_of : (n k m : ℕ) (s : List ℕ) → n + k ≡ m → drop n (take m s) ≡ take k (drop n s)
rest_of zero k m s h = let e : m ≡ k = omega arith in ap (λ (i : ℕ). take i s) e
rest_of (suc n) k zero s h = absurd (omega arith)
rest_of (suc n) zero (suc m) [] h = refl
rest_of (suc n) (suc k) (suc m) [] h = refl
rest_of (suc n) k (suc m) (x ∷ s) h = rest_of n k m s (omega arith)

-- m columns from j on, of which column i is a blank: the last k, behind it, are worth as much
pub worth_behind : (line : List ℕ) (j i k m r : ℕ) → stands true (take m (drop j line)) ≡ true → get_or line (j + i) 0 ≡ 32 → suc i + k ≡ m → j + m ≤ length line → r ≡ worth_of 0 (take k (drop (j + suc i) line)) → r ≡ worth_of 0 (take m (drop j line))
worth_behind line j i k m r h e q l w =
    let g : get_or (take m (drop j line)) i 0 ≡ 32 = get_or-take m (drop j line) i 0 (omega arith) ∙ (get_or-drop j line i 0 ∙ e) in
    let f : length (take m (drop j line)) ≡ m = length-take-le m (drop j line) (rw length-drop (omega arith)) in
    w ∙ sym (behind_blank i (take m (drop j line)) h g (omega arith) ∙ ap (worth_of 0) (rest_of (suc i) k m (drop j line) q ∙ ap (take k) (drop-drop (suc i) j line)))

pub volume_behind : (line : List ℕ) (r : ℕ) → length line ≡ width → stands true (take 9 (drop 6 line)) ≡ true → get_or line 8 0 ≡ 32 → r ≡ worth_of 0 (take 6 (drop 9 line)) → r ≡ worth_of 0 (take 9 (drop 6 line))
volume_behind line r l h e w = worth_behind line 6 2 6 9 r h e refl (omega arith) w

pub n_behind : (line : List ℕ) (r : ℕ) → length line ≡ width → stands true (take 14 (drop 15 line)) ≡ true → get_or line 20 0 ≡ 32 → r ≡ worth_of 0 (take 8 (drop 21 line)) → r ≡ worth_of 0 (take 14 (drop 15 line))
n_behind line r l h e w = worth_behind line 15 5 8 14 r h e refl (omega arith) w
