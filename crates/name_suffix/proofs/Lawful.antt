-- Laws of the tests that make a name lawful, in the form that the code's needs have. Assumes nothing.
use Prim.Native.Nat.{ℕ, suc, ◌≤◌, ◌<◌}
use native.Mathlib.Omega.{arith}
use mathlib.Core.Path.{◌≡◌, refl, sym, ap, ◌∙◌}
use mathlib.Core.Bool.{Bool, true, false, ◌||◌}
use mathlib.Core.List.{List, [], ◌∷◌, map}
use lib.ListN.{length, get_or}
use lib.Dec.{eqb}
use lib.Pointwise.{pointwise}
use denote.Ref.{Bor}
use borrow.Author.Tests.{eq-eqb, ne_eqb}
use Rattle.std.proofs.lemmas.Bool.{cases_eq}
use mathlib.Core.Logic.{inl, inr}
use Rattle.std.specs.List.{list_any}
use Rattle.text.specs.Bytes.{bytes}
use Rattle.text.specs.Pick.{pick, same, among, member}
use Rattle.text.specs.Reading.{starts}
use Rattle.text.proofs.Booleans.{and_true, and_false}
use Rattle.text.proofs.Std.{pointwise_same, eqb_turned}
use Rattle.text.proofs.Parts.{starts_within}
use Rattle.rules.specs.Columns.{word, left_justified}
use Rattle.rules.specs.Names.{listed_suffixes, is_series, lawful_field}
use Rattle.name_words.specs.Word.{WordOf}

-- a series is one byte
pub series_one : (s : List ℕ) (r : Bool) → 1 ≤ length s → length s < 2 → r ≡ among (get_or s 0 0) (bytes "ABCDEFGHIJKMNOPQRS") → r ≡ is_series s
unfolding is_series same
series_one [] r h k e = absurd (omega arith)
series_one (c ∷ []) r h k e = e ∙ sym (and_true (among c (bytes "ABCDEFGHIJKMNOPQRS")))
series_one (c ∷ (d ∷ s)) r h k e = absurd (omega arith)

pub series_other : (s : List ℕ) → (length s ≡ 1 → ⊥) → false ≡ is_series s
unfolding is_series same
series_other [] h = refl
series_other (c ∷ []) h = absurd (h refl)
series_other (c ∷ (d ∷ s)) h = sym (and_false (among c (bytes "ABCDEFGHIJKMNOPQRS")))

-- a text is as long as its front
pub front_room : (p s : List ℕ) (q : Bool) → q ≡ starts p s → q ≡ true → length p ≤ length s
front_room p s q e y = starts_within p s (sym e ∙ y)

-- ---- fields

pub unlike_nothing : (t : List ℕ) → (length t ≡ 0 → ⊥) → same t [] ≡ false
unfolding same
unlike_nothing [] h = absurd (h refl)
unlike_nothing (c ∷ t) h = refl

-- a field that is no text from its left; that is blank; that holds a text
module _ (listed : List ℕ → Bool) (s : List ℕ) (q : Bool) (e : q ≡ left_justified s) where
  pub unjustified : q ≡ false → false ≡ lawful_field listed s
  unfolding lawful_field
  unjustified y = rw (← e, y)

  pub left_blank : (n : ℕ) → q ≡ true → WordOf s n → n ≡ 0 → eqb n 0 ≡ lawful_field listed s
  unfolding lawful_field same
  left_blank n y w z = rw (eq-eqb n 0 z, ← e, y, w.text_is, z)

  pub listed_text : (n : ℕ) (r : Bool) → q ≡ true → WordOf s n → (n ≡ 0 → ⊥) → r ≡ listed (word s) → r ≡ lawful_field listed s
  unfolding lawful_field
  listed_text n r y w z k = rw (← e, y, unlike_nothing (word s) (λ h. z (w.count_is ∙ h))) k

-- ---- listed texts

same_turned : (s t : List ℕ) → same s t ≡ same t s
unfolding same
same_turned [] [] = refl
same_turned [] (b ∷ t) = refl
same_turned (a ∷ s) [] = refl
same_turned (a ∷ s) (b ∷ t) = rw (eqb_turned a b, same_turned s t)

-- `listed.contains(&text)`
pub any_member : (t : List ℕ) (l : List (Bor (List ℕ))) → list_any (λ known. pointwise eqb known.now t) l ≡ member t (map (λ known. known.now) l)
unfolding member
any_member t [] = refl
any_member t (s ∷ l) = rw (pointwise_same s.now t, same_turned s.now t, any_member t l)

-- ---- a text is looked for among those as long as it is

-- the texts of a list that have so many bytes
unfoldable pub of_length : ℕ → List (List ℕ) → List (List ℕ)
of_length n [] = []
of_length n (s ∷ l) = pick (eqb (length s) n) (s ∷ of_length n l) (of_length n l)

unlike : (t s : List ℕ) → (length s ≡ length t → ⊥) → same t s ≡ false
unfolding same
unlike [] [] h = absurd (h refl)
unlike [] (b ∷ s) h = refl
unlike (a ∷ t) [] h = refl
unlike (a ∷ t) (b ∷ s) h = rw (unlike t s (λ e. h (ap suc e))) (and_false (eqb a b))

pub member_of_length : (t : List ℕ) (l : List (List ℕ)) → member t l ≡ member t (of_length (length t) l)
unfolding member of_length pick
member_of_length t [] = refl
member_of_length t (s ∷ l) =
    elim (cases_eq (length s) (length t)) [
      | inl e ↦ rw (eq-eqb (length s) (length t) e) (ap (λ (b : Bool). same t s || b) (member_of_length t l))
      | inr n ↦ rw (ne_eqb (length s) (length t) n, unlike t s n) (member_of_length t l)
    ]

pub listed_of : (t : List ℕ) (n : ℕ) (l : List (List ℕ)) → length t ≡ n → of_length n listed_suffixes ≡ l → member t l ≡ member t listed_suffixes
listed_of t n l e f = sym (member_of_length t listed_suffixes ∙ ap (λ k. member t (of_length k listed_suffixes)) e ∙ ap (member t) f)

-- none is longer than six bytes, and none is empty
pub listed_none : (t : List ℕ) → (length t ≡ 1 → ⊥) → (length t ≡ 2 → ⊥) → (length t ≡ 3 → ⊥) → (length t ≡ 4 → ⊥) → (length t ≡ 5 → ⊥) → (length t ≡ 6 → ⊥) → false ≡ member t listed_suffixes
unfolding member of_length pick listed_suffixes
listed_none t a b c d e f =
    let none : of_length (length t) listed_suffixes ≡ [] =
    rw (ne_eqb 1 (length t) (λ h. a (sym h)), ne_eqb 2 (length t) (λ h. b (sym h)), ne_eqb 3 (length t) (λ h. c (sym h)), ne_eqb 4 (length t) (λ h. d (sym h)), ne_eqb 5 (length t) (λ h. e (sym h)), ne_eqb 6 (length t) (λ h. f (sym h))) refl in
    sym (member_of_length t listed_suffixes ∙ ap (member t) none)
