-- Laws of condition letters: the loops over a field's word, i bytes of which are passed; x is the answer. Assumes nothing.
use Prim.Native.Nat.{ℕ, zero, suc, ◌+◌, ◌-◌, ◌≤◌, ◌<◌}
use native.Mathlib.Numerals.{add-one}
use native.Mathlib.Omega.{arith}
use mathlib.Core.Path.{◌≡◌, refl}
use mathlib.Core.Bool.{Bool, true, false, not, ◌&&◌, ◌||◌}
use mathlib.Core.List.{List, [], ◌∷◌}
use lib.Dec.{eqb}
use lib.ListN.{length, get_or, take, drop, drop_of_length-le}
use lib.Seq.{drop-cons}
use Rattle.std.specs.List.{list_any, AllWithin, HoldsAt}
use Rattle.text.specs.Bytes.{bytes}
use Rattle.text.specs.Pick.{pick, among}
use Rattle.text.specs.Reading.{span}
use Rattle.text.proofs.Booleans.{or_false}
use Rattle.text.proofs.Parts.{rest_is}
use Rattle.rules.specs.declared.Letters.{Letters}
use Rattle.rules.specs.Columns.{word}
use Rattle.rules.specs.Conditions.{letters_in, unrepeated, none_of, at_most_one, lawful_letters}
use Rattle.rules.proofs.Fields.{word_byte}
use Rattle.line_fields.proofs.Texts.{word_stop, word_more}

-- ---- no letter twice

pub unrepeated_here : (s : List ℕ) (i : ℕ) → i < length s → unrepeated (drop i s) ≡ (not (among (get_or s i 0) (drop (i + 1) s)) && unrepeated (drop (i + 1) s))
unfolding unrepeated
unrepeated_here s i h = rw (drop-cons s i 0 h, add-one)

pub unrepeated_end : (s : List ℕ) (i : ℕ) → length s ≤ i → unrepeated (drop i s) ≡ true
unfolding unrepeated
unrepeated_end s i h = rw (drop_of_length-le s h)

-- ---- a group's letters

module _ (g : List ℕ) where
  pub none_any : (s : List ℕ) → not (list_any (λ c. among c g) s) ≡ none_of g s
  unfolding none_of
  none_any [] = refl
  none_any (c ∷ s) = rw (← none_any s) (go (among c g) (list_any (λ c. among c g) s))
    where
      go : (a b : Bool) → not (a || b) ≡ (not a && not b)
      go true b = refl
      go false b = refl

  -- behind letters of which none is the group's
  behind : (s : List ℕ) (i : ℕ) → i ≤ length s → AllWithin (λ c. among c g ≡ false) s 0 i → at_most_one g s ≡ at_most_one g (drop i s)
  unfolding at_most_one pick
  behind s zero h a = refl
  behind [] (suc i) h a = absurd (omega arith)
  behind (c ∷ s) (suc i) h a = rw (a 0 0 (omega arith) (omega arith)) (behind s i (omega arith) (λ k d l m. a (suc k) d (omega arith) (omega arith)))

  pub most_one : (s : List ℕ) (i : ℕ) (r : Bool) → (i < length s) × HoldsAt (λ c. among c g ≡ true) s i × AllWithin (λ c. among c g ≡ false) s 0 i → r ≡ none_of g (take (length s - (i + 1)) (drop (i + 1) s)) → r ≡ at_most_one g s
  unfolding at_most_one pick
  most_one s i r (l, y, n) e = rw (behind s i (omega arith) n, drop-cons s i 0 l, y 0, ← add-one) (rw (rest_is s (i + 1)) at e)

  pub most_none : (s : List ℕ) → AllWithin (λ c. among c g ≡ false) s 0 (length s) → true ≡ at_most_one g s
  unfolding at_most_one
  most_none s n = rw (behind s (length s) (omega arith) n, drop_of_length-le s {i = length s} (omega arith))

-- ---- the field

some : (s : List ℕ) → 1 < length s → 0 < length s
some s h = omega (arith, h)

-- a field whose first column is blank has no letters
pub no_letters : (s : List ℕ) → 1 < length s → get_or s 0 0 ≡ 32 → (record { o = false; s = false; l = false; n = false; m = false; c = false; k = false; b = false; t = false; r = false; j = false; g = false }) ≡ letters_in s
unfolding letters_in among
no_letters s h q = rw (word_stop s 0 (some s h) q)

pub lawful_none : (s : List ℕ) → 1 < length s → get_or s 0 0 ≡ 32 → true ≡ lawful_letters s
unfolding lawful_letters unrepeated at_most_one
lawful_none s h q = rw (word_stop s 0 (some s h) q)

-- a field whose second column is blank has no more than its first
only_word : (s : List ℕ) → 1 < length s → (get_or s 0 0 ≡ 32 → ⊥) → get_or s 1 0 ≡ 32 → word s ≡ get_or s 0 0 ∷ []
only_word s h k q = rw (word_more s 0 (some s h) k, word_stop s 1 h q)

word_of_one : (x : ℕ) → (x ≡ 32 → ⊥) → word (x ∷ []) ≡ x ∷ []
unfolding word span
word_of_one x k = word_byte x [] k

pub only_letters : (s : List ℕ) (r : Letters) → 1 < length s → (get_or s 0 0 ≡ 32 → ⊥) → get_or s 1 0 ≡ 32 → r ≡ letters_in (get_or s 0 0 ∷ []) → r ≡ letters_in s
unfolding letters_in
only_letters s r h k q e = rw (e, only_word s h k q, word_of_one _ k)

either_way : (b : Bool) → pick b true true ≡ true
unfolding pick
either_way true = refl
either_way false = refl

pub lawful_one : (s : List ℕ) → 1 < length s → (get_or s 0 0 ≡ 32 → ⊥) → get_or s 1 0 ≡ 32 → true ≡ lawful_letters s
unfolding lawful_letters unrepeated at_most_one none_of among
lawful_one s h k q = rw (only_word s h k q, either_way (among (get_or s 0 0) (bytes "OSL")), either_way (among (get_or s 0 0) (bytes "NMCKR")))

pub each_letter : (f : List ℕ) (o s l n m c k b t r j g : Bool) → o ≡ among 79 (word f) → s ≡ among 83 (word f) → l ≡ among 76 (word f) → n ≡ among 78 (word f) → m ≡ among 77 (word f) → c ≡ among 67 (word f) → k ≡ among 75 (word f) → b ≡ among 66 (word f) → t ≡ among 84 (word f) → r ≡ among 82 (word f) → j ≡ among 74 (word f) → g ≡ among 71 (word f) → (record { o = o; s = s; l = l; n = n; m = m; c = c; k = k; b = b; t = t; r = r; j = j; g = g }) ≡ letters_in f
unfolding letters_in
each_letter f o s l n m c k b t r j g e1 e2 e3 e4 e5 e6 e7 e8 e9 e10 e11 e12 = rw (e1, e2, e3, e4, e5, e6, e7, e8, e9, e10, e11, e12)

-- each of its letters is that one or none
alone : (c x : ℕ) → (x ≡ 32 → ⊥) → eqb c x ≡ among c (word (x ∷ []))
unfolding among
alone c x k = rw (word_of_one x k, or_false)

pub each_alone : (x : ℕ) → (x ≡ 32 → ⊥) → (record { o = eqb 79 x; s = eqb 83 x; l = eqb 76 x; n = eqb 78 x; m = eqb 77 x; c = eqb 67 x; k = eqb 75 x; b = eqb 66 x; t = eqb 84 x; r = eqb 82 x; j = eqb 74 x; g = eqb 71 x }) ≡ letters_in (x ∷ [])
each_alone x k = each_letter (x ∷ []) _ _ _ _ _ _ _ _ _ _ _ _ (alone 79 x k) (alone 83 x k) (alone 76 x k) (alone 78 x k) (alone 77 x k) (alone 67 x k) (alone 75 x k) (alone 66 x k) (alone 84 x k) (alone 82 x k) (alone 74 x k) (alone 71 x k)
