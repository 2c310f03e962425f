-- How many bytes at the front pass a test, as `s.iter().position(..)` of the first that does not finds it. Assumes nothing.
use Prim.Native.Nat.{ℕ, zero, suc, ◌+◌, ◌≤◌, ◌<◌}
use native.Mathlib.Numerals.{add-one}
use native.Mathlib.Omega.{arith}
use mathlib.Core.Path.{◌≡◌, refl, sym, ap, ◌∙◌}
use mathlib.Core.Bool.{Bool, true, false}
use mathlib.Core.List.{List, [], ◌∷◌}
use lib.ListN.{length, take, drop}
use Rattle.std.specs.declared.option.Option.{Option}
use Rattle.std.proofs.lemmas.Iterator.{index_from_first}
use Rattle.std.specs.List.{AllWithin, HoldsAt}
use Rattle.std.specs.Option.{MatchOption, unwrap_or}
use Rattle.text.specs.Pick.{pick}
use Rattle.text.specs.Reading.{span}

module _ (p : ℕ → Bool) where
  ahead : List ℕ → ℕ
  ahead [] = 0
  ahead (c ∷ s) = pick (p c) (ahead s + 1) 0

  ahead_stop : (c : ℕ) (s : List ℕ) → p c ≡ false → ahead (c ∷ s) ≡ 0
  unfolding ahead pick
  ahead_stop c s h = rw h

  ahead_more : (c : ℕ) (s : List ℕ) → p c ≡ true → ahead (c ∷ s) ≡ ahead s + 1
  unfolding ahead pick
  ahead_more c s h = rw h

  span_ahead : (s : List ℕ) → (ahead s ≤ length s) × ((span p s).got ≡ take (ahead s) s) × ((span p s).rest ≡ drop (ahead s) s)
  unfolding ahead span pick
  span_ahead [] = (omega arith, refl, refl)
  span_ahead (c ∷ s) = go (p c) refl (span_ahead s)
    where
      go : (t : Bool) → p c ≡ t → (ahead s ≤ length s) × ((span p s).got ≡ take (ahead s) s) × ((span p s).rest ≡ drop (ahead s) s)
          → (ahead (c ∷ s) ≤ length (c ∷ s)) × ((span p (c ∷ s)).got ≡ take (ahead (c ∷ s)) (c ∷ s)) × ((span p (c ∷ s)).rest ≡ drop (ahead (c ∷ s)) (c ∷ s))
      go true e (l, g, q) = rw (e, add-one) (omega arith, ap (λ (t : List ℕ). c ∷ t) g, q)
      go false e ih = rw e (omega arith, refl, refl)

  -- n is the place of the first byte that does not pass, or the length
  module _ (s : List ℕ) (r : Option ℕ) (n : ℕ)
      (first : MatchOption r (AllWithin (λ c. p c ≡ true) s 0 (length s)) (λ i. (i < length s) × HoldsAt (λ c. p c ≡ false) s i × AllWithin (λ c. p c ≡ true) s 0 i))
      (so : n ≡ unwrap_or r (length s)) where
    place : n ≡ ahead s
    unfolding ahead
    place = so ∙ sym (index_from_first ahead (λ c. p c ≡ false) (λ c. p c ≡ true) refl ahead_stop ahead_more s r first)

    pub front_in : n ≤ length s
    front_in = rw place (span_ahead s).0

    pub span_got : (span p s).got ≡ take n s
    span_got = rw place (span_ahead s).1

    pub span_rest : (span p s).rest ≡ drop n s
    span_rest = rw place (span_ahead s).2

    pub span_front : (n ≤ length s) × ((span p s).rest ≡ drop n s)
    span_front = (front_in, span_rest)
