-- A set that may have no letter: room for it, and its text. Assumes nothing.
use Prim.Native.Nat.{ℕ, ◌≤◌}
use native.Mathlib.Omega.{arith}
use mathlib.Core.Path.{◌≡◌, refl, sym, ap, ◌∙◌}
use mathlib.Core.List.{List, [], ◌∷◌}
use lib.ListN.{length}
use Rattle.text.specs.Bytes.{bytes}
use Rattle.text.specs.Put.{put, Written}
use Rattle.facts_side.specs.Sides.{or_none}

no_bytes : (t : List ℕ) → 0 ≡ length t → t ≡ []
no_bytes [] e = refl
no_bytes (c ∷ s) e = absurd (omega (arith, e))

module _ (t : List ℕ) where
  pub set_room : (m : ℕ) → length (or_none t) ≤ m → length t ≤ m
  unfolding or_none
  set_room m h = go t h
    where
      go : (t : List ℕ) → length (or_none t) ≤ m → length t ≤ m
      go [] h = omega arith
      go (c ∷ s) h = h

  module _ (b a : List ℕ) (n : ℕ) (w : Written t b a n) where
    nothing : n ≡ 0 → t ≡ []
    nothing e = no_bytes t (sym e ∙ w.count_is)

    untouched : n ≡ 0 → a ≡ b
    unfolding put
    untouched e = w.tape ∙ ap (λ (s : List ℕ). put s b) (nothing e)

    pub set_none_room : n ≡ 0 → length (or_none t) ≤ length b → 1 ≤ length a
    unfolding or_none
    set_none_room e h = let z = nothing e in let q : 1 ≤ length b = rw z at h in rw (untouched e) q

    pub set_none : (a' : List ℕ) (k : ℕ) → n ≡ 0 → Written (bytes "-") a a' k → Written (or_none t) b a' k
    unfolding or_none
    set_none a' k e v = rw (nothing e) (rw (untouched e) at v)

    pub set_some : (n ≡ 0 → ⊥) → Written (or_none t) b a n
    unfolding or_none
    set_some z = go t w
      where
        go : (t : List ℕ) → Written t b a n → Written (or_none t) b a n
        go [] v = absurd (z v.count_is)
        go (c ∷ s) v = v

pub ruleset sets = (set_room, set_none_room, set_none, set_some)
