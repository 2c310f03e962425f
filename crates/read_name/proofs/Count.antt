-- Laws of the loops that count bytes at the front. Assumes nothing.
use Prim.Native.Nat.{ℕ, zero, suc, ◌+◌, ◌-◌, ◌≤◌, ◌<◌}
use native.Mathlib.Numerals.{add-one}
use native.Mathlib.Omega.{arith}
use mathlib.Core.Path.{◌≡◌, refl, sym, ◌∙◌}
use mathlib.Core.Bool.{Bool, true, false}
use mathlib.Core.List.{List, [], ◌∷◌}
use lib.ListN.{length, get_or, take, drop, drop_of_length-le}
use lib.Seq.{drop-cons, length-take-le}
use Rattle.text.specs.Pick.{pick}
use Rattle.text.proofs.Parts.{rest_is}
use Rattle.name_back.specs.Cut.{is_after}
use Rattle.read_name.specs.Name.{count_of}
use Rattle.read_name.specs.Head.{name_count}

-- the bytes at the front, as the code cuts them out
pub front_cut : (s : List ℕ) (n : ℕ) → n ≤ length s → n ≡ length (take n s)
front_cut s n h = sym (length-take-le n s h)

count_none : (p : ℕ → Bool) (k : ℕ) → count_of p k [] ≡ 0
unfolding count_of
count_none p zero = refl
count_none p (suc k) = refl

count_zero : (p : ℕ → Bool) (s : List ℕ) → count_of p 0 s ≡ 0
unfolding count_of
count_zero p s = refl

count_yes : (p : ℕ → Bool) (k c : ℕ) (s : List ℕ) → p c ≡ true → count_of p (suc k) (c ∷ s) ≡ suc (count_of p k s)
unfolding count_of pick
count_yes p k c s h = rw h

count_no : (p : ℕ → Bool) (k c : ℕ) (s : List ℕ) → p c ≡ false → count_of p (suc k) (c ∷ s) ≡ 0
unfolding count_of pick
count_no p k c s h = rw h

-- i bytes pass, and x is how many do
module _ (p : ℕ → Bool) (k : ℕ) (s : List ℕ) (i x : ℕ) (e : count_of p (k - i) (drop i s) + i ≡ x) where
  pub count_short : length s ≤ i → i ≡ x
  count_short h = let f : 0 + i ≡ x = rw (drop_of_length-le s h, count_none p (k - i)) at e in omega arith

  pub count_full : i ≤ k → k ≤ i → k ≡ x
  count_full l h =
      let z : k - i ≡ 0 = omega arith in
      let f : 0 + i ≡ x = rw (z, count_zero p (drop i s)) at e in
      omega arith

  pub count_stop : i < k → i < length s → (r : Bool) → r ≡ p (get_or s i 0) → r ≡ false → i ≡ x
  count_stop h l r q n =
      let z : k - i ≡ suc (k - suc i) = omega arith in
      let f : 0 + i ≡ x = rw (z, drop-cons s i 0 l, count_no p (k - suc i) (get_or s i 0) (drop (suc i) s) (sym q ∙ n)) at e in
      omega arith

  pub count_more : i < k → i < length s → (r : Bool) → r ≡ p (get_or s i 0) → r ≡ true → count_of p (k - (i + 1)) (drop (i + 1) s) + (i + 1) ≡ x
  count_more h l r q n =
      let z : k - i ≡ suc (k - suc i) = omega arith in
      let f : suc (count_of p (k - suc i) (drop (suc i) s)) + i ≡ x = rw (z, drop-cons s i 0 l, count_yes p (k - suc i) (get_or s i 0) (drop (suc i) s) (sym q ∙ n)) at e in
      rw add-one (omega arith)

pub count_within : (p : ℕ → Bool) (k : ℕ) (s : List ℕ) → count_of p k s ≤ length s
count_within p zero s = rw (count_zero p s) (omega arith)
count_within p (suc k) [] = rw (count_none p (suc k)) (omega arith)
count_within p (suc k) (c ∷ s) = go (p c) refl (count_within p k s)
  where
    go : (b : Bool) → p c ≡ b → count_of p k s ≤ length s → count_of p (suc k) (c ∷ s) ≤ length (c ∷ s)
    go true h n = rw (count_yes p k c s h) (omega arith)
    go false h n = rw (count_no p k c s h) (omega arith)

pub count_most : (p : ℕ → Bool) (k : ℕ) (s : List ℕ) → count_of p k s ≤ k
count_most p zero s = rw (count_zero p s) (omega arith)
count_most p (suc k) [] = rw (count_none p (suc k)) (omega arith)
count_most p (suc k) (c ∷ s) = go (p c) refl (count_most p k s)
  where
    go : (b : Bool) → p c ≡ b → count_of p k s ≤ k → count_of p (suc k) (c ∷ s) ≤ suc k
    go true h n = rw (count_yes p k c s h) (omega arith)
    go false h n = rw (count_no p k c s h) (omega arith)

-- ---- a name up to its first condition

name_none : name_count [] ≡ 0
unfolding name_count
name_none = refl

name_cut : (c : ℕ) (s : List ℕ) → is_after (c ∷ s) ≡ true → name_count (c ∷ s) ≡ 0
unfolding name_count pick
name_cut c s h = rw h

name_byte : (c : ℕ) (s : List ℕ) → is_after (c ∷ s) ≡ false → name_count (c ∷ s) ≡ suc (name_count s)
unfolding name_count pick
name_byte c s h = rw h

-- i bytes are the name's, and x is how many are
module _ (s : List ℕ) (i x : ℕ) (e : name_count (drop i s) + i ≡ x) where
  pub cut_end : i ≤ length s → length s ≤ i → length s ≡ x
  cut_end l h = let f : 0 + i ≡ x = rw (drop_of_length-le s h, name_none) at e in omega arith

  here : i < length s → (r : Bool) → r ≡ is_after (take (length s - i) (drop i s)) → is_after (get_or s i 0 ∷ drop (suc i) s) ≡ r
  here h r q = sym (rw (rest_is s i, drop-cons s i 0 h) at q)

  pub cut_here : i < length s → (r : Bool) → r ≡ is_after (take (length s - i) (drop i s)) → r ≡ true → i ≡ x
  cut_here h r q y =
      let f : 0 + i ≡ x = rw (drop-cons s i 0 h, name_cut (get_or s i 0) (drop (suc i) s) (here h r q ∙ y)) at e in
      omega arith

  pub cut_later : i < length s → (r : Bool) → r ≡ is_after (take (length s - i) (drop i s)) → r ≡ false → name_count (drop (i + 1) s) + (i + 1) ≡ x
  cut_later h r q n =
      let f : suc (name_count (drop (suc i) s)) + i ≡ x = rw (drop-cons s i 0 h, name_byte (get_or s i 0) (drop (suc i) s) (here h r q ∙ n)) at e in
      rw add-one (omega arith)

pub name_within : (s : List ℕ) → name_count s ≤ length s
name_within [] = rw name_none (omega arith)
name_within (c ∷ s) = go (is_after (c ∷ s)) refl (name_within s)
  where
    go : (b : Bool) → is_after (c ∷ s) ≡ b → name_count s ≤ length s → name_count (c ∷ s) ≤ length (c ∷ s)
    go true h n = rw (name_cut c s h) (omega arith)
    go false h n = rw (name_byte c s h) (omega arith)
