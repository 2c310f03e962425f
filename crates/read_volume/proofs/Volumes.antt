-- Laws of volumes at the front of a tape, in the form of the code's needs. Assumes nothing.
use Prim.Native.Nat.{ℕ, zero, suc, ◌+◌, ◌-◌, ◌*◌, ◌/◌, ◌^◌, ◌≤◌, ◌<◌}
use native.Mathlib.Nat.{pow-suc, pow-le-pow_right}
use native.Mathlib.Numerals.{add-one}
use native.Mathlib.Omega.{arith}
use mathlib.Core.Path.{◌≡◌, refl, sym, ap, ◌∙◌}
use mathlib.Core.Bool.{Bool, true, false, ◌&&◌, ◌||◌, not}
use mathlib.Core.List.{List, [], ◌∷◌, ◌++◌}
use lib.ListN.{length, get_or, take, drop, drop_of_length-le, length-drop, length-append}
use lib.Seq.{drop-cons, take_all, take_at}
use lib.Dec.{ltb, eqb}
use borrow.Author.Tests.{lt-ltb, le-ltb, ltb-true, ltb-false, eqb-true, not-true, not-false}
use Rattle.std.specs.Prelude.{Option, Some, None}
use Rattle.text.specs.Bytes.{bytes}
use Rattle.text.specs.Pick.{pick, same}
use Rattle.text.specs.Put.{put, Written}
use Rattle.text.specs.Reading.{heads, is_digit, starts}
use Rattle.text.specs.Decimal.{decimal}
use Rattle.text.proofs.Texts.{and_left}
use Rattle.text.proofs.Decimal.{length_decimal}
use Rattle.text.proofs.Booleans.{or_left, or_right}
use Rattle.rules.specs.Volume.{group, full_volume}
use Rattle.print_volume.specs.Reading.{figure}
use Rattle.print_volume.proofs.Lengths.{group_length}
use Rattle.read_price.specs.declared.Digits.{Digits}
use Rattle.read_volume.specs.declared.Volume.{Volume}
use Rattle.read_volume.specs.declared.Volume.TheVariants.{Hundreds, Tens, Shares}
use Rattle.read_volume.specs.Volume.{is_figure, figure_onto, figures_onto, said_by, marked_by, volume_at}
use Rattle.read_volume.specs.declared.VolumeRead.{VolumeRead}
use Rattle.read_price.proofs.Bounds.{digit_from, digit_to, Counted, counted_none, counted_one}

-- ---- a figure behind others

module _ (a c : ℕ) where
  pub onto_dot : c < 48 → a ≡ figure_onto a c
  unfolding figure_onto pick
  onto_dot h = rw (lt-ltb c 48 h)

  pub onto_digit : (w : ℕ) → 48 ≤ c → w ≡ c - 48 → 10 * a + w ≡ figure_onto a c
  unfolding figure_onto pick
  onto_digit w h e = rw (le-ltb c 48 h, e)

or_true : (a b : Bool) → (a || b) ≡ true → a ≡ false → b ≡ true
or_true a b h e = rw e at h

-- the first byte is a digit, or a figure dot before a digit
module _ (k a j c : ℕ) (s : List ℕ) where
  pub figures_digit : is_digit c ≡ true → figures_onto (suc k) a j (c ∷ s) ≡ figures_onto k (10 * a + (c - 48)) (suc j) s
  unfolding figures_onto figure pick
  figures_digit h = rw (h, figures_onto)

  pub figures_dot : is_digit c ≡ false → (eqb c 44 && heads is_digit s) ≡ true → figures_onto (suc k) a j (c ∷ s) ≡ figures_onto k a (suc j) s
  unfolding figures_onto figure pick
  figures_dot h e = rw (h, e, figures_onto)

pub figures_stop : (k a j : ℕ) (s : List ℕ) → is_figure s ≡ false → figures_onto k a j s ≡ record { count = j; value = a }
unfolding figures_onto figure is_figure pick
figures_stop zero a j s h = refl
figures_stop (suc k) a j [] h = refl
figures_stop (suc k) a j (c ∷ s) h = rw (or_left (is_digit c) _ h, or_right (is_digit c) _ h, figures_onto)

dot_low : (c : ℕ) (b : Bool) → (eqb c 44 && b) ≡ true → c ≡ 44
dot_low c b h = eqb-true c 44 (and_left (eqb c 44) b h)

pub figures_more : (k a j c : ℕ) (s : List ℕ) → is_figure (c ∷ s) ≡ true → figures_onto (suc k) a j (c ∷ s) ≡ figures_onto k (figure_onto a c) (suc j) s
unfolding is_figure
figures_more k a j c s h = go (is_digit c) refl
  where
    go : (b : Bool) → is_digit c ≡ b → figures_onto (suc k) a j (c ∷ s) ≡ figures_onto k (figure_onto a c) (suc j) s
    go true e = figures_digit k a j c s e ∙ ap (λ m. figures_onto k m (suc j) s) (onto_digit a c (c - 48) (digit_from c e) refl)
    go false e =
        let d = or_true (is_digit c) _ h e in
        figures_dot k a j c s e d ∙ ap (λ m. figures_onto k m (suc j) s) (onto_dot a c (omega (arith, dot_low c (heads is_digit s) d)))

pub figure_to : (c : ℕ) (s : List ℕ) → is_figure (c ∷ s) ≡ true → c ≤ 57
unfolding is_figure
figure_to c s h = go (is_digit c) refl
  where
    go : (b : Bool) → is_digit c ≡ b → c ≤ 57
    go true e = digit_to c e
    go false e = omega (arith, dot_low c (heads is_digit s) (or_true (is_digit c) _ h e))

pub onto_small : (a c i : ℕ) → a < 10 ^ i → c ≤ 57 → figure_onto a c < 10 ^ suc i
unfolding figure_onto pick
onto_small a c i h k = go (ltb c 48)
  where
    go : (b : Bool) → pick b a (10 * a + (c - 48)) < 10 ^ suc i
    go true = omega (arith, pow-suc 10 i)
    go false = omega (arith, pow-suc 10 i)

-- ---- the loop: a is worth the figures before i, r is whether one stands at i, x the answer

some_there : (s : List ℕ) (i : ℕ) → is_figure (drop i s) ≡ true → i < length s
unfolding is_figure
some_there s i h = go (ltb i (length s)) refl
  where
    go : (b : Bool) → ltb i (length s) ≡ b → i < length s
    go true e = ltb-true i (length s) e
    go false e = let z : ◌≡◌ {A = Bool} false true = rw (drop_of_length-le s (ltb-false i (length s) e)) at h in absurd (let y : ◌≡◌ {A = ℕ} 0 1 = cc in omega arith)

module _ (s : List ℕ) (i : ℕ) (r : Bool) (e : r ≡ is_figure (take (length s - i) (drop i s))) where
  found_there : is_figure (drop i s) ≡ r
  found_there = ap is_figure (sym (take_all (length s - i) (drop i s) (rw length-drop (omega arith)))) ∙ sym e

  pub figure_there : not r ≡ false → i < length s
  figure_there h = some_there s i (found_there ∙ not-false r h)

  pub one_more : not r ≡ false → i + 1 ≤ length s
  one_more h = omega (arith, figure_there h)

  at_i : not r ≡ false → is_figure (get_or s i 0 ∷ drop (suc i) s) ≡ true
  at_i h = ap is_figure (sym (drop-cons s i 0 (figure_there h))) ∙ (found_there ∙ not-false r h)

  module _ (a : ℕ) (x : Digits) where
    pub figures_no : figures_onto (12 - i) a i (drop i s) ≡ x → not r ≡ true → (record { count = i; value = a }) ≡ x
    figures_no q h = sym (figures_stop (12 - i) a i (drop i s) (found_there ∙ not-true r h)) ∙ q

    pub figures_on : (v : ℕ) → figures_onto (12 - i) a i (drop i s) ≡ x → i < 12 → not r ≡ false → v ≡ figure_onto a (get_or s i 0) → figures_onto (12 - (i + 1)) v (i + 1) (drop (i + 1) s) ≡ x
    figures_on v q l h w =
        let m : 12 - i ≡ suc (12 - (i + 1)) = omega arith in
        let p : figures_onto (12 - i) a i (drop i s) ≡ figures_onto (12 - (i + 1)) v (i + 1) (drop (i + 1) s) = rw (m, drop-cons s i 0 (figure_there h), w, add-one i) (figures_more (12 - suc i) a i (get_or s i 0) (drop (suc i) s) (at_i h)) in
        sym p ∙ q

  pub figures_small : (a v : ℕ) → a < 10 ^ i → not r ≡ false → v ≡ figure_onto a (get_or s i 0) → v < 10 ^ (i + 1)
  figures_small a v h k w = rw (w, add-one i) (onto_small a (get_or s i 0) i h (figure_to (get_or s i 0) (drop (suc i) s) (at_i k)))

pub figures_twelve : (s : List ℕ) (i a : ℕ) (x : Digits) → figures_onto (12 - i) a i (drop i s) ≡ x → i ≤ 12 → 12 ≤ i → (record { count = 12; value = a }) ≡ x
unfolding figures_onto
figures_twelve s i a x e k h =
    let q : i ≡ 12 = omega arith in
    let z : 12 - i ≡ 0 = omega arith in
    rw (← e, z, q)

pub onto_room : (a i : ℕ) → a < 10 ^ i → i < 12 → a < 1000000000000
onto_room a i h k = omega (arith, pow-le-pow_right {n = 10} (omega arith) {i = i} {j = 11} (omega arith))

-- ---- how many figures are found

figures_kept : (k a j : ℕ) (s : List ℕ) → a < 10 ^ j → Counted k (length s) j (figures_onto k a j s)
unfolding figures_onto
figures_kept zero a j s h = counted_none zero (length s) j a h
figures_kept (suc k) a j [] h = counted_none (suc k) 0 j a h
figures_kept (suc k) a j (c ∷ s) h = go (is_figure (c ∷ s)) refl (λ l. figures_kept k (figure_onto a c) (suc j) s l)
  where
    go : (b : Bool) → is_figure (c ∷ s) ≡ b → (figure_onto a c < 10 ^ suc j → Counted k (length s) (suc j) (figures_onto k (figure_onto a c) (suc j) s)) → Counted (suc k) (suc (length s)) j (figures_onto (suc k) a j (c ∷ s))
    go true e ih = rw (figures_more k a j c s e) (counted_one k (length s) j _ (ih (onto_small a c j h (figure_to c s e))))
    go false e ih = rw (figures_stop (suc k) a j (c ∷ s) e) (counted_none (suc k) (suc (length s)) j a h)

module _ (s : List ℕ) (f : Digits) (e : f ≡ figures_onto 12 0 0 s) where
  pub figures_counted : Counted 12 (length s) 0 f
  figures_counted = rw e (figures_kept 12 0 0 s (omega arith))

  pub figures_count : f.count ≤ 12
  figures_count = figures_counted.most

  pub figures_within : f.count ≤ length s
  figures_within = omega (arith, figures_counted.within)

-- ---- exactly a full volume's figures

pub volume_long : (n : ℕ) → n < 1000000000 → length (full_volume n) ≤ 11
unfolding full_volume pick
volume_long n h = go (ltb n 10000) (ltb n 1000000) refl refl
  where
    go : (b c : Bool) → ltb n 10000 ≡ b → ltb n 1000000 ≡ c → length (pick b (decimal n) (pick c (decimal (n / 1000) ++ group n) (decimal (n / 1000000) ++ group (n / 1000) ++ group n))) ≤ 11
    go true c e f = omega (arith, length_decimal 3 n (ltb-true n 10000 e))
    go false true e f =
        let l = ltb-true n 1000000 f in
        rw (length-append, ← group_length n) (omega (arith, length_decimal 2 (n / 1000) (omega arith)))
    go false false e f = simp (length-append, ← group_length) (omega (arith, length_decimal 2 (n / 1000000) (omega arith)))

module _ (s : List ℕ) (f : Digits) (v : Volume) (k : ℕ) where
  pub said_many : 1000000000 ≤ f.value → None ≡ said_by s f v k
  unfolding said_by pick
  said_many h = rw (le-ltb f.value 1000000000 h)

  module _ (h : f.value < 1000000000) (b a : List ℕ) (n : ℕ) (w : Written (full_volume f.value) b a n) (r : Bool) (e : r ≡ same (take f.count s) (take n a)) where
    asked : same (take f.count s) (full_volume f.value) ≡ r
    unfolding put
    asked = sym (e ∙ ap (same (take f.count s)) (ap (take n) w.tape ∙ take_at (full_volume f.value) _ n (sym w.count_is)))

    pub said_yes : not r ≡ false → Some (record { volume = v; used = f.count + k }) ≡ said_by s f v k
    unfolding said_by pick
    said_yes q = rw (lt-ltb f.value 1000000000 h, asked, not-false r q)

    pub said_no : not r ≡ true → None ≡ said_by s f v k
    unfolding said_by pick
    said_no q = rw (lt-ltb f.value 1000000000 h, asked, not-true r q)

-- ---- the mark behind the figures f

module _ (s : List ℕ) (f : Digits) (e : f ≡ figures_onto 12 0 0 s) where
  abbrev rest : List ℕ
  rest = take (length s - f.count) (drop f.count s)

  whole : rest ≡ drop f.count s
  whole = take_all (length s - f.count) (drop f.count s) (rw length-drop (omega arith))

  marked : volume_at s ≡ marked_by s f rest
  unfolding volume_at
  marked = rw (← e, whole)

  module _ (x : Bool) (h : x ≡ starts (bytes "s") rest) where
    pub volume_hundreds : (r : Option VolumeRead) → x ≡ true → r ≡ said_by s f (Hundreds f.value) 1 → r ≡ volume_at s
    unfolding marked_by pick
    volume_hundreds r k q = rw (marked, ← h, k) q

    module _ (k : x ≡ false) (y : Bool) (g : y ≡ starts (bytes "$") rest) where
      pub volume_tens : (r : Option VolumeRead) → y ≡ true → r ≡ said_by s f (Tens f.value) 1 → r ≡ volume_at s
      unfolding marked_by pick
      volume_tens r l q = rw (marked, ← h, k, ← g, l) q

      module _ (l : y ≡ false) (z : Bool) (i : z ≡ starts (bytes "SHRS") rest) where
        pub volume_shares : (r : Option VolumeRead) → z ≡ true → r ≡ said_by s f (Shares f.value) 4 → r ≡ volume_at s
        unfolding marked_by pick
        volume_shares r m q = rw (marked, ← h, k, ← g, l, ← i, m) q

        pub volume_none : z ≡ false → None ≡ volume_at s
        unfolding marked_by pick
        volume_none m = rw (marked, ← h, k, ← g, l, ← i, m)
