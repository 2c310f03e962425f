-- std's tests of texts are the ones that the definitions name. Assumes nothing.
use Prim.Native.Nat.{ℕ}
use mathlib.Core.Path.{◌≡◌, refl, sym, ap, ◌∙◌}
use mathlib.Core.Bool.{Bool, true, false, ◌&&◌, ◌||◌}
use mathlib.Core.List.{List, [], ◌∷◌}
use lib.ListN.{length, take}
use lib.Dec.{eqb}
use lib.Pointwise.{pointwise}
use borrow.Author.Tests.{ne_eqb}
use Rattle.std.proofs.lemmas.Bool.{cases_eq}
use mathlib.Core.Logic.{inl, inr}
use Rattle.std.specs.List.{list_any, starts_with}
use Rattle.text.specs.Pick.{same, among}
use Rattle.text.specs.Reading.{starts}

-- `a == b`
pub pointwise_same : (a b : List ℕ) → pointwise eqb a b ≡ same a b
unfolding same
pointwise_same [] [] = refl
pointwise_same [] (y ∷ b) = refl
pointwise_same (x ∷ a) [] = refl
pointwise_same (x ∷ a) (y ∷ b) = ap (λ t. eqb x y && t) (pointwise_same a b)

-- `s.starts_with(p)`
pub starts_with_starts : (p s : List ℕ) → starts_with eqb s p ≡ starts p s
unfolding starts
starts_with_starts [] s = refl
starts_with_starts (a ∷ p) [] = refl
starts_with_starts (a ∷ p) (c ∷ s) = ap (λ t. eqb a c && t) (starts_with_starts p s)

pub eqb_turned : (a b : ℕ) → eqb a b ≡ eqb b a
eqb_turned a b = elim (cases_eq a b) [ inl e ↦ rw e | inr n ↦ rw (ne_eqb a b n, ne_eqb b a (λ e. n (sym e))) ]

-- `s.contains(&c)`
pub any_among : (c : ℕ) (s : List ℕ) → list_any (λ y. eqb y c) s ≡ among c s
unfolding among
any_among c [] = refl
any_among c (b ∷ s) = rw (eqb_turned b c, any_among c s)
