-- Laws of parts of texts: fronts, rests, texts one behind the other, texts that may be left out. Assumes nothing.
use Prim.Native.Nat.{ℕ, zero, suc, ◌+◌, ◌-◌, ◌≤◌}
use native.Mathlib.Omega.{arith}
use mathlib.Core.Path.{◌≡◌, refl, sym, ap, ◌∙◌}
use mathlib.Core.Bool.{Bool, true, false, ◌&&◌}
use mathlib.Core.List.{List, [], ◌∷◌, ◌++◌}
use lib.Dec.{eqb}
use lib.ListN.{length, take, drop, length-drop, take-append-drop}
use lib.Seq.{length-take-le, take-take, take-add, take_all, take_at, drop-drop}
use borrow.Author.Tests.{eqb-true}
use Rattle.text.specs.Pick.{pick, opt, all}
use Rattle.text.specs.Put.{put, Written}
use Rattle.text.specs.Reading.{found, before, heads, span, starts}
use Rattle.text.proofs.Booleans.{and_both}
use Rattle.text.proofs.Texts.{and_left, and_right}

-- the first n bytes are n
pub counted : (n : ℕ) (s : List ℕ) → n ≤ length s → n ≡ length (take n s)
counted n s h = sym (length-take-le n s h)

-- a part up to the end
pub rest_is : (s : List ℕ) (n : ℕ) → take (length s - n) (drop n s) ≡ drop n s
rest_is s n = take_all (length s - n) (drop n s) (rw length-drop (omega arith))

-- a part of a front
pub take_within : (k j m : ℕ) (s : List ℕ) → j + k ≤ m → take k (drop j (take m s)) ≡ take k (drop j s)
take_within k zero m s h = take-take k m s (omega arith)
take_within k (suc j) zero s h = absurd (omega arith)
take_within k (suc j) (suc m) [] h = refl
take_within k (suc j) (suc m) (x ∷ s) h = take_within k j m s (omega arith)

-- ---- what was written stands at the front

pub front : {t b a : List ℕ} {n : ℕ} → Written t b a n → take n a ≡ t
unfolding put
front {t} {b} {a} {n} w = ap (take n) w.tape ∙ take_at t (drop (length t) b) n (sym w.count_is)

pub front_length : {t b a : List ℕ} {n : ℕ} → Written t b a n → n ≡ length (take n a)
front_length w = w.count_is ∙ ap length (sym (front w))

-- ---- a text that stands at the front

pub starts_front : (p s : List ℕ) → starts p s ≡ true → take (length p) s ≡ p
unfolding starts
starts_front [] s h = refl
starts_front (a ∷ p) [] h = cc
starts_front (a ∷ p) (c ∷ s) h = cc (eqb-true a c (and_left (eqb a c) (starts p s) h), starts_front p s (and_right (eqb a c) (starts p s) h))

pub starts_within : (p s : List ℕ) → starts p s ≡ true → length p ≤ length s
unfolding starts
starts_within [] s h = omega arith
starts_within (a ∷ p) [] h = absurd (let z : ◌≡◌ {A = ℕ} 0 1 = cc in omega arith)
starts_within (a ∷ p) (c ∷ s) h = omega (arith, starts_within p s (and_right (eqb a c) (starts p s) h))

-- ---- bytes that pass a test

module _ (p : ℕ → Bool) where
  pub heads_append : (t u : List ℕ) → heads p t ≡ true → heads p (t ++ u) ≡ true
  heads_append [] u h = cc
  heads_append (c ∷ t) u h = h

  -- all pass if all of both parts do
  all_both : (s t : List ℕ) → all p (s ++ t) ≡ (all p s && all p t)
  unfolding all
  all_both [] t = refl
  all_both (c ∷ s) t = go (p c) (all_both s t)
    where
      go : (b : Bool) → all p (s ++ t) ≡ (all p s && all p t) → (b && all p (s ++ t)) ≡ ((b && all p s) && all p t)
      go true e = e
      go false e = refl

  pub all_append : (s t : List ℕ) → all p s ≡ true → all p t ≡ true → all p (s ++ t) ≡ true
  all_append s t h k = all_both s t ∙ and_both h k

  all_split : (k : ℕ) (s : List ℕ) → (all p (take k s) && all p (drop k s)) ≡ all p s
  all_split k s = sym (all_both (take k s) (drop k s)) ∙ ap (all p) (take-append-drop k s)

  pub all_take : (k : ℕ) (s : List ℕ) → all p s ≡ true → all p (take k s) ≡ true
  all_take k s h = and_left (all p (take k s)) (all p (drop k s)) (all_split k s ∙ h)

  pub all_drop : (k : ℕ) (s : List ℕ) → all p s ≡ true → all p (drop k s) ≡ true
  all_drop k s h = and_right (all p (take k s)) (all p (drop k s)) (all_split k s ∙ h)

  -- k + m bytes from a place on
  pub all_parts : (j k m : ℕ) (s : List ℕ) → (all p (take k (drop j s)) && all p (take m (drop (j + k) s))) ≡ all p (take (k + m) (drop j s))
  all_parts j k m s = rw (take-add k m (drop j s), drop-drop k j s) (sym (all_both (take k (drop j s)) (take m (drop (j + k) s))))

  pub all_opt : (b : Bool) (t : List ℕ) → all p t ≡ true → all p (opt b t) ≡ true
  unfolding opt all
  all_opt true t h = h
  all_opt false t h = refl

  pub span_short : (s : List ℕ) → length (span p s).got ≤ length s
  unfolding span pick
  span_short [] = omega arith
  span_short (c ∷ s) = go (p c) (span_short s)
    where
      go : (b : Bool) → length (span p s).got ≤ length s → length (pick b (before c (span p s)) (found [] (c ∷ s))).got ≤ suc (length s)
      go true h = omega arith
      go false h = omega arith

-- ---- how long a text is that may be left out, or is one of two

pub opt_short : (b : Bool) (t : List ℕ) → length (opt b t) ≤ length t
unfolding opt
opt_short true t = omega arith
opt_short false t = omega arith

pub opt_most : (b : Bool) (t : List ℕ) (m : ℕ) → length t ≤ m → length (opt b t) ≤ m
opt_most b t m h = omega (arith, opt_short b t)

pub pick_most : (b : Bool) (t u : List ℕ) (m : ℕ) → length t ≤ m → length u ≤ m → length (pick b t u) ≤ m
unfolding pick
pick_most true t u m h k = h
pick_most false t u m h k = k
