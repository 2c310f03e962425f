-- Laws of a name's parts, their lengths and writers, in the form that the code's needs have. Assumes nothing.
use Prim.Native.Nat.{ℕ, zero, suc, ◌+◌, ◌≤◌, ◌<◌}
use native.Mathlib.Nat.{not-suc-le-zero}
use native.Mathlib.Omega.{arith}
use mathlib.Core.Path.{◌≡◌, refl, sym, ◌∙◌}
use mathlib.Core.Bool.{Bool, true, false, not}
use mathlib.Core.List.{List, [], ◌∷◌, ◌++◌}
use lib.ListN.{length, get_or, take, drop, length-append, length-take}
use lib.Seq.{length-take-le}
use lib.Dec.{eqb}
use borrow.Author.Tests.{eqb-false, ne_eqb, not-true}
use Rattle.text.specs.Bytes.{bytes}
use Rattle.text.specs.Pick.{opt, same}
use Rattle.text.specs.Put.{Written}
use Rattle.text.proofs.Writing.{written_nothing}
use Rattle.text.proofs.Booleans.{and_false}
use Rattle.text.proofs.Parts.{opt_short}
use Rattle.rules.specs.Tape.{is_raised}
use Rattle.rules.specs.Columns.{word}
use Rattle.rules.specs.Names.{root_field, suffix_field, temporary_field, appendage_field, part_text, name_text, has_temporary, same_name}
use Rattle.rules.proofs.Fields.{word_short, word_byte}
use Rattle.name_words.specs.Word.{WordOf}
use Rattle.name_suffix.proofs.Lawful.{unlike_nothing}
use Rattle.name_text.specs.Laid.{Laid}
use Rattle.name_text.proofs.Layers.{cut}

-- ---- a part: n bytes of its field, with the letter dot or without

part_none : (s : List ℕ) (n : ℕ) → WordOf s n → n ≡ 0 → part_text (word s) ≡ []
unfolding part_text
part_none s n w z = rw (w.text_is, z)

part_raised : (s : List ℕ) (n : ℕ) (q : Bool) → WordOf s n → (n ≡ 0 → ⊥) → q ≡ is_raised (get_or s 0 0) → q ≡ true → part_text (word s) ≡ take n s
unfolding part_text opt
part_raised s zero q w z e y = absurd (z refl)
part_raised [] (suc n) q w z e y = absurd (not-suc-le-zero w.within)
part_raised (c ∷ s) (suc n) q w z e y = rw (w.text_is, ← e, y)

part_dotted : (s : List ℕ) (n : ℕ) (q : Bool) → WordOf s n → (n ≡ 0 → ⊥) → q ≡ is_raised (get_or s 0 0) → q ≡ false → part_text (word s) ≡ bytes "." ++ take n s
unfolding part_text opt
part_dotted s zero q w z e y = absurd (z refl)
part_dotted [] (suc n) q w z e y = absurd (not-suc-le-zero w.within)
part_dotted (c ∷ s) (suc n) q w z e y = rw (w.text_is, ← e, y)

module _ (s : List ℕ) (n : ℕ) (w : WordOf s n) where
  pub length_none : n ≡ 0 → 0 ≡ length (part_text (word s))
  length_none z = rw (part_none s n w z)

  pub written_none : (b : List ℕ) → n ≡ 0 → Written (part_text (word s)) b b 0
  written_none b z = rw (part_none s n w z) (written_nothing b)

  module _ (q : Bool) (z : n ≡ 0 → ⊥) (e : q ≡ is_raised (get_or s 0 0)) where
    pub length_raised : q ≡ true → n ≡ length (part_text (word s))
    length_raised y = rw (part_raised s n q w z e y, length-take-le n s w.within)

    pub length_dotted : q ≡ false → n + 1 ≡ length (part_text (word s))
    length_dotted y = rw (part_dotted s n q w z e y, length-take-le n s w.within) (omega arith)

    pub room_raised : (m : ℕ) → q ≡ true → length (part_text (word s)) ≤ m → length (take n s) ≤ m
    room_raised m y h = rw (part_raised s n q w z e y) at h

    pub room_dotted : (m : ℕ) → q ≡ false → length (part_text (word s)) ≤ m → length (bytes "." ++ take n s) ≤ m
    room_dotted m y h = rw (part_dotted s n q w z e y) at h

    pub written_raised : (b a : List ℕ) (r : ℕ) → q ≡ true → Written (take n s) b a r → Written (part_text (word s)) b a r
    written_raised b a r y v = rw (part_raised s n q w z e y) v

    pub written_dotted : (b a : List ℕ) (r : ℕ) → q ≡ false → Written (bytes "." ++ take n s) b a r → Written (part_text (word s)) b a r
    written_dotted b a r y v = rw (part_dotted s n q w z e y) v

pub written_word : (s : List ℕ) (n : ℕ) (b a : List ℕ) (r : ℕ) → WordOf s n → Written (take n s) b a r → Written (word s) b a r
written_word s n b a r w v = rw w.text_is v

pub room_word : (s : List ℕ) (n m : ℕ) → WordOf s n → length (word s) ≤ m → length (take n s) ≤ m
room_word s n m w h = rw w.text_is at h

-- ---- the temporary suffix

pub temporary_told : (s : List ℕ) (n : ℕ) → WordOf (temporary_field s) n → not (eqb n 0) ≡ has_temporary s
unfolding has_temporary same
temporary_told s zero w = rw (w.text_is)
temporary_told s (suc n) w =
    let some : ◌≡◌ {A = ℕ} (suc n) 0 → ⊥ = λ h. cc in
    rw (unlike_nothing (word (temporary_field s)) (λ h. some (w.count_is ∙ h)), ne_eqb (suc n) 0 some)

-- ---- the whole name

part_short : (t : List ℕ) → length (part_text t) ≤ length t + 1
unfolding part_text opt
part_short [] = omega arith
part_short (c ∷ t) = go (is_raised c) refl
  where
    go : (b : Bool) → is_raised c ≡ b → length (opt (not (is_raised c)) (bytes ".") ++ (c ∷ t)) ≤ suc (length t) + 1
    go true e = rw e (omega arith)
    go false e = rw e (omega arith)

-- the length is the sum of the parts'
pub name_sum : (b : Bool) (s : List ℕ) → length (name_text b s) ≡ length (word (root_field s)) + length (part_text (word (suffix_field s))) + length (opt b (part_text (word (temporary_field s)))) + length (part_text (word (appendage_field s)))
unfolding name_text
name_sum b s = simp length-append

-- no name is longer than 22
pub name_most : (b : Bool) (s : List ℕ) → length (name_text b s) ≤ 22
name_most b s =
    let q = part_short (word (suffix_field s)) in
    let t = part_short (word (temporary_field s)) in
    let a = part_short (word (appendage_field s)) in
    let o = opt_short b (part_text (word (temporary_field s))) in
    let lr : length (root_field s) ≤ 6 = omega (arith, length-take 6 s) in
    let ls : length (suffix_field s) ≤ 7 = omega (arith, length-take 7 (drop 6 s)) in
    let lt : length (temporary_field s) ≤ 4 = omega (arith, length-take 4 (drop 13 s)) in
    let la : length (appendage_field s) ≤ 2 = omega (arith, length-take 2 (drop 17 s)) in
    rw name_sum (omega (arith, word_short (root_field s), word_short (suffix_field s), word_short (temporary_field s), word_short (appendage_field s)))

module _ (b : Bool) (s : List ℕ) (k l m n : ℕ) (w : WordOf (root_field s) k) (x : l ≡ length (part_text (word (suffix_field s)))) (y : m ≡ length (opt b (part_text (word (temporary_field s))))) (z : n ≡ length (part_text (word (appendage_field s)))) where
  pub counted : k + l + m + n ≡ length (name_text b s)
  counted = rw (name_sum, w.count_is, x, y, z)

pub counted_short : (b : Bool) (s : List ℕ) (n : ℕ) → length s ≡ 19 → n ≡ length (name_text b s) → (n ≡ length (name_text b s)) × (n ≤ 22)
counted_short b s n h e = (e, omega (arith, name_most b s))

-- two texts that are laid, compared
pub same_cut : (t u b c x y : List ℕ) (m n : ℕ) (r : Bool) → Laid t b x m → Laid u c y n → r ≡ same (take m x) (take n y) → r ≡ same t u
same_cut t u b c x y m n r v w e = e ∙ rw (cut v, cut w)

-- ---- names that begin with different bytes

begins : (t : Bool) (c : ℕ) (s : List ℕ) → (c ≡ 32 → ⊥) → name_text t (c ∷ s) ≡ c ∷ (word (take 5 s) ++ part_text (word (suffix_field (c ∷ s))) ++ opt t (part_text (word (temporary_field (c ∷ s)))) ++ part_text (word (appendage_field (c ∷ s))))
unfolding name_text
begins t c s h = rw (word_byte c (take 5 s) h)

unlike_begun : (t u : Bool) (a b : List ℕ) → 0 < length a → 0 < length b → (get_or a 0 0 ≡ 32 → ⊥) → (get_or b 0 0 ≡ 32 → ⊥) → (get_or a 0 0 ≡ get_or b 0 0 → ⊥) → same (name_text t a) (name_text u b) ≡ false
unfolding same
unlike_begun t u [] b l m h k d = absurd (not-suc-le-zero l)
unlike_begun t u (x ∷ a) [] l m h k d = absurd (not-suc-le-zero m)
unlike_begun t u (x ∷ a) (y ∷ b) l m h k d = rw (begins t x a h, begins u y b k, ne_eqb x y d)

begins_two : (t : Bool) (c d : ℕ) (s : List ℕ) → (c ≡ 32 → ⊥) → (d ≡ 32 → ⊥) → name_text t (c ∷ d ∷ s) ≡ c ∷ d ∷ (word (take 4 s) ++ part_text (word (suffix_field (c ∷ d ∷ s))) ++ opt t (part_text (word (temporary_field (c ∷ d ∷ s)))) ++ part_text (word (appendage_field (c ∷ d ∷ s))))
unfolding name_text
begins_two t c d s h k = rw (word_byte c (d ∷ take 4 s) h, word_byte d (take 4 s) k)

unlike_second : (t u : Bool) (a b : List ℕ) → 1 < length a → 1 < length b → (get_or a 0 0 ≡ 32 → ⊥) → (get_or b 0 0 ≡ 32 → ⊥) → (get_or a 1 0 ≡ 32 → ⊥) → (get_or b 1 0 ≡ 32 → ⊥) → (get_or a 1 0 ≡ get_or b 1 0 → ⊥) → same (name_text t a) (name_text u b) ≡ false
unfolding same
unlike_second t u [] b l m h k i j d = absurd (not-suc-le-zero l)
unlike_second t u (x ∷ []) b l m h k i j d = absurd (omega arith)
unlike_second t u (x ∷ y ∷ a) [] l m h k i j d = absurd (not-suc-le-zero m)
unlike_second t u (x ∷ y ∷ a) (z ∷ []) l m h k i j d = absurd (omega arith)
unlike_second t u (x ∷ y ∷ a) (z ∷ w ∷ b) l m h k i j d = rw (begins_two t x y a h i, begins_two u z w b k j, ne_eqb y w d) (and_false (eqb x z))

apart_all : (a b : List ℕ) → ((t u : Bool) → same (name_text t a) (name_text u b) ≡ false) → same_name a b ≡ false
unfolding same_name
apart_all a b f = rw (f true true, f true false, f false true, f false false)

module _ (a b : List ℕ) (l : length a ≡ 19) (m : length b ≡ 19) (h : get_or a 0 0 ≡ 32 → ⊥) (k : get_or b 0 0 ≡ 32 → ⊥) where
  pub apart : (get_or a 0 0 ≡ get_or b 0 0 → ⊥) → true ≡ true → same_name a b ≡ false
  apart d z = apart_all a b (λ t u. unlike_begun t u a b (omega arith) (omega arith) h k d)

  pub apart_second : (get_or a 1 0 ≡ 32 → ⊥) → (get_or b 1 0 ≡ 32 → ⊥) → not (eqb (get_or a 1 0) (get_or b 1 0)) ≡ true → same_name a b ≡ false
  apart_second i j d = apart_all a b (λ t u. unlike_second t u a b (omega arith) (omega arith) h k i j (eqb-false (get_or a 1 0) (get_or b 1 0) (not-true (eqb (get_or a 1 0) (get_or b 1 0)) d)))

pub not_apart : (t : Bool) → false ≡ true → t ≡ false
not_apart t h = cc

pub told_apart : (r t : Bool) → (r ≡ true → t ≡ false) → r ≡ true → false ≡ t
told_apart r t f h = sym (f h)
