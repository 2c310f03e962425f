-- Bytes counted from the front, and texts at the end. Assumes nothing.
use Prim.Native.Nat.{ℕ, zero, suc, ◌-◌, ◌≤◌}
use native.Mathlib.Omega.{arith}
use mathlib.Core.Path.{◌≡◌, refl, sym, ap, ◌∙◌}
use mathlib.Core.Bool.{Bool, true, false}
use mathlib.Core.List.{List, [], ◌∷◌, ◌++◌}
use lib.Dec.{leb}
use lib.ListN.{length, take, drop, length-append, take-append-drop}
use lib.Seq.{take-append_seam, drop-append_seam}
use Rattle.text.specs.Pick.{pick, all}
use Rattle.text.specs.Reading.{heads}
use Rattle.text.proofs.Texts.{and_left, and_right, same_true, same_refl}
use Rattle.text.proofs.Tests.{is_le}
use Rattle.read_name.specs.Name.{count_of, ends_in, before}

-- ---- counts

pub count_all : (p : ℕ → Bool) (k : ℕ) (t s : List ℕ) → all p t ≡ true → length t ≤ k → heads p s ≡ false → count_of p k (t ++ s) ≡ length t
unfolding count_of all pick
count_all p zero [] s h l e = refl
count_all p zero (c ∷ t) s h l e = absurd (omega (l, arith))
count_all p (suc k) [] [] h l e = refl
count_all p (suc k) [] (c ∷ s) h l e = rw e
count_all p (suc k) (c ∷ t) s h l e = rw (and_left (p c) (all p t) h) (ap suc (count_all p k t s (and_right (p c) (all p t) h) (omega (l, arith)) e))

next : (p : ℕ → Bool) (c : ℕ) (s : List ℕ) (k : ℕ) (b : Bool) → p c ≡ b → all p (take k s) ≡ true → all p (take (pick b (suc k) 0) (c ∷ s)) ≡ true
unfolding all pick
next p c s k true e h = rw (e) h
next p c s k false e h = refl

pub count_passes : (p : ℕ → Bool) (k : ℕ) (s : List ℕ) → all p (take (count_of p k s) s) ≡ true
unfolding count_of all
count_passes p zero s = refl
count_passes p (suc k) [] = refl
count_passes p (suc k) (c ∷ s) = go (p c) refl (count_passes p k s)
  where
    go : (b : Bool) → p c ≡ b → all p (take (count_of p k s) s) ≡ true → all p (take (pick b (suc (count_of p k s)) 0) (c ∷ s)) ≡ true
    go b e h = next p c s (count_of p k s) b e h

-- ---- ends

end_start : (s e : List ℕ) → length (s ++ e) - length e ≡ length s
end_start s e = rw (length-append s e) (omega arith)

pub ends_yes : (s e : List ℕ) → ends_in e (s ++ e) ≡ true
unfolding ends_in
ends_yes s e =
    let a : leb (length e) (length (s ++ e)) ≡ true = sym (is_le (length e) (length (s ++ e)) (rw (length-append s e) (omega arith))) in
    rw (a, end_start s e, drop-append_seam s e) (same_refl e)

pub before_end : (s e : List ℕ) → before e (s ++ e) ≡ s
before_end s e = rw (end_start s e) (take-append_seam s e)

pub end_is : (e s : List ℕ) → ends_in e s ≡ true → before e s ++ e ≡ s
unfolding ends_in
end_is e s h =
    let a = same_true (drop (length s - length e) s) e (and_right (leb (length e) (length s)) _ h) in
    ap (λ x. take (length s - length e) s ++ x) (sym a) ∙ take-append-drop (length s - length e) s
