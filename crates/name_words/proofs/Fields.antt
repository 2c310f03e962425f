-- Laws of a field's text and of the loops that look through a text. Assumes nothing.
use Prim.Native.Nat.{ℕ, zero, suc, ◌+◌, ◌-◌, ◌<◌}
use native.Mathlib.Nat.{le_of_suc-le-suc, not-suc-le-zero}
use native.Mathlib.Numerals.{add-one}
use native.Mathlib.Omega.{arith}
use mathlib.Core.Path.{◌≡◌, refl, sym, ap, ◌∙◌}
use mathlib.Core.Bool.{Bool, true, false}
use mathlib.Core.List.{List, [], ◌∷◌}
use lib.ListN.{length, get_or, take, drop}
use lib.Seq.{length-take-le}
use borrow.Author.Tests.{eq-eqb, ne_eqb}
use Rattle.std.specs.Prelude.{Option}
use Rattle.std.specs.Bool.{MatchBool}
use Rattle.std.specs.Option.{MatchOption, unwrap_or}
use Rattle.std.specs.List.{AllWithin, HoldsAt}
use Rattle.std.proofs.lemmas.Iterator.{index_from_first}
use Rattle.text.specs.Pick.{pick, all}
use Rattle.text.specs.Reading.{span}
use Rattle.text.proofs.Booleans.{and_false}
use Rattle.text.proofs.Parts.{rest_is}
use Rattle.rules.specs.Columns.{is_blank, not_blank, blank, word, filled, left_justified}
use Rattle.rules.proofs.Fields.{word_blank, word_byte, word_short}
use Rattle.name_words.specs.Word.{WordOf}

-- ---- the text at a field's left

pub word_nothing : word [] ≡ []
unfolding word span
word_nothing = refl

-- the bytes at the front that pass are a front
span_front : (p : ℕ → Bool) (s : List ℕ) → (span p s).got ≡ take (length (span p s).got) s
unfolding span pick
span_front p [] = refl
span_front p (c ∷ s) = go (p c) refl (span_front p s)
  where
    go : (b : Bool) → p c ≡ b → (span p s).got ≡ take (length (span p s).got) s → (span p (c ∷ s)).got ≡ take (length (span p (c ∷ s)).got) (c ∷ s)
    go true e ih = rw e (ap (λ (l : List ℕ). c ∷ l) ih)
    go false e ih = rw e

word_of : (s : List ℕ) (n : ℕ) → length (word s) ≡ n → WordOf s n
unfolding word
word_of s n e = record { count_is = sym e; within = omega (arith, e, word_short s); text_is = rw (← e) (span_front not_blank s) }

-- the place of the first blank, the field's length where it has none
pub first_blank : (s : List ℕ) (r : Option ℕ) (n : ℕ) → MatchOption r (AllWithin (λ c. c ≡ 32 → ⊥) s 0 (length s)) (λ i. (i < length s) × HoldsAt (λ c. c ≡ 32) s i × AllWithin (λ c. c ≡ 32 → ⊥) s 0 i) → n ≡ unwrap_or r (length s) → WordOf s n
first_blank s r n h e =
    let blank_here : (c : ℕ) (t : List ℕ) → c ≡ 32 → length (word (c ∷ t)) ≡ 0 = λ c t k. ap length (word_blank c t k) in
    let other : (c : ℕ) (t : List ℕ) → (c ≡ 32 → ⊥) → length (word (c ∷ t)) ≡ length (word t) + 1 = λ c t k. ap length (word_byte c t k) ∙ sym (add-one (length (word t))) in
    word_of s n (index_from_first (λ t. length (word t)) (λ c. c ≡ 32) (λ c. c ≡ 32 → ⊥) (ap length word_nothing) blank_here other s r h ∙ sym e)

-- the text, as the code cuts it out of the field
pub word_cut : (s : List ℕ) (n : ℕ) → WordOf s n → n ≡ length (take n s)
word_cut s n w = sym (length-take-le n s w.within)

-- ---- blanks only

all_blank : (s : List ℕ) → ((k : ℕ) → k < length s → get_or s k 0 ≡ 32) → true ≡ blank s
unfolding blank all is_blank
all_blank [] h = refl
all_blank (c ∷ s) h = rw (eq-eqb c 32 (h 0 (omega arith))) (all_blank s (λ k j. h (suc k) (omega arith)))

some_other : (s : List ℕ) (k : ℕ) → k < length s → (get_or s k 0 ≡ 32 → ⊥) → false ≡ blank s
unfolding blank all is_blank
some_other [] k h n = absurd (not-suc-le-zero h)
some_other (c ∷ s) zero h n = rw (ne_eqb c 32 n)
some_other (c ∷ s) (suc k) h n = rw (← some_other s k (le_of_suc-le-suc h) n, and_false)

pub blank_told : (s : List ℕ) (r : Bool) → MatchBool r (AllWithin (λ c. c ≡ 32) s 0 (length s)) ((k : ℕ) × (k < length s) × HoldsAt (λ c. c ≡ 32 → ⊥) s k) → r ≡ blank s
blank_told s true h = all_blank s (λ k j. h k 0 (omega arith) j)
blank_told s false (k, h, n) = some_other s k h (n 0)

-- what follows the bytes that pass
pub span_rest : (p : ℕ → Bool) (s : List ℕ) → (span p s).rest ≡ drop (length (span p s).got) s
unfolding span pick
span_rest p [] = refl
span_rest p (c ∷ s) = go (p c) refl (span_rest p s)
  where
    go : (b : Bool) → p c ≡ b → (span p s).rest ≡ drop (length (span p s).got) s → (span p (c ∷ s)).rest ≡ drop (length (span p (c ∷ s)).got) (c ∷ s)
    go true e ih = rw e ih
    go false e ih = rw e

pub justified : (s : List ℕ) (n : ℕ) (r : Bool) → WordOf s n → r ≡ blank (take (length s - n) (drop n s)) → r ≡ left_justified s
unfolding left_justified filled word
justified s n r w e = e ∙ rw (rest_is s n, w.count_is, span_rest not_blank s)
