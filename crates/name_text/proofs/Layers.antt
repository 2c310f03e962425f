-- Laws of `Laid`: a writer lays its text, layers join, and a front of what is laid is laid. Assumes nothing.
use Prim.Native.Nat.{ℕ, suc, ◌+◌, ◌-◌, ◌≤◌, ◌<◌}
use native.Mathlib.Numerals.{add-one}
use native.Mathlib.Omega.{arith}
use mathlib.Core.Path.{◌≡◌, refl, sym, ap, ◌∙◌}
use mathlib.Core.List.{List, [], ◌∷◌, ◌++◌, append-nil}
use lib.ListN.{length, take, drop, set, length-append, length-take, length-drop, length-set, drop_of_length-le, take-append-drop}
use lib.Seq.{take-take, take_at, drop_at, take_all, drop-drop, take-append-le, take-append-add, take-suc-set, length-take-le, take-add}
use Rattle.text.specs.Put.{put, Written}
use Rattle.text.proofs.Writing.{length_put}
use Rattle.text.proofs.Parts as parts
use Rattle.name_text.specs.Laid.{Laid}

pub laid_written : {t b a : List ℕ} {n : ℕ} → Written t b a n → Laid t b a n
laid_written {t} {b} {a} {n} w = record {
  front = rw (← w.count_is) (parts.front w);
  count_is = w.count_is;
  size = ap length w.tape ∙ length_put t b (rw (← w.count_is) w.within);
  within = w.within;
}

pub laid_nothing : (b : List ℕ) → Laid [] b b 0
laid_nothing b = record { front = refl; count_is = refl; size = refl; within = omega arith }

-- a text under another name
pub laid_named : {s t b a : List ℕ} {n : ℕ} → s ≡ t → Laid t b a n → Laid s b a n
laid_named e w = rw e w

-- what stands before the rest of what is laid
pub laid_front : {b a : List ℕ} {n : ℕ} (t u : List ℕ) (r : ℕ) → Laid (t ++ u) b a n → r ≡ length t → Laid t b a r
laid_front {b} {a} {n} t u r w e =
    let l : length (t ++ u) ≡ length t + length u = length-append t u in
    record {
      front = sym (take-take (length t) (length (t ++ u)) a (omega arith)) ∙ (ap (take (length t)) w.front ∙ take_at t u (length t) refl);
      count_is = e;
      size = w.size;
      within = omega (arith, w.count_is, w.within);
    }

-- `at` bytes are laid; the part from `at` on is lent to the next layer, and comes back
pub laid_then : {t u b xs ys : List ℕ} {at n : ℕ} → Laid t b xs at → Laid u (take (length xs - at) (drop at xs)) ys n → Laid (t ++ u) b (take at xs ++ (ys ++ drop (length xs - at) (drop at xs))) (at + n)
laid_then {t} {u} {b} {xs} {ys} {at} {n} v w =
    let f : take at xs ≡ t = rw v.count_is v.front in
    let l : length (drop at xs) ≤ length xs - at = omega (arith, length-drop at xs) in
    let none : drop (length xs - at) (drop at xs) ≡ [] = drop_of_length-le (drop at xs) l in
    let k : length ys ≡ length xs - at = w.size ∙ rw (length-take, length-drop) (omega arith) in
    let h : n ≤ length ys = omega (arith, w.within, w.size) in
    let m : length u ≤ length ys = omega (arith, w.count_is) in
    let i : length (t ++ u) ≡ length t + length u = length-append t u in
    record {
      front = simp (f, none, append-nil, i) (take-append-add t ys (length u) ∙ ap (λ (l : List ℕ). t ++ l) w.front);
      count_is = rw (i, v.count_is, w.count_is);
      size = simp (f, none, append-nil, length-append) (omega (arith, v.count_is, v.within, v.size));
      within = omega (arith, v.within, v.size);
    }

-- there is room for k bytes more
pub laid_room : {t b xs : List ℕ} {at : ℕ} (k : ℕ) → Laid t b xs at → at + k ≤ length b → k ≤ length (take (length xs - at) (drop at xs))
laid_room {t} {b} {xs} {at} k v h = simp (length-take, length-drop) (omega (arith, v.size))

-- one byte more
pub laid_byte : {t b xs : List ℕ} {at : ℕ} (c : ℕ) → Laid t b xs at → at < length b → Laid (t ++ (c ∷ [])) b (set xs at c) (at + 1)
laid_byte {t} {b} {xs} {at} c v h =
    let i : length (t ++ (c ∷ [])) ≡ suc at = length-append t (c ∷ []) ∙ (add-one (length t) ∙ ap suc (sym v.count_is)) in
    record {
      front = rw (i, take-suc-set xs at c (omega (arith, v.size)), v.count_is, v.front);
      count_is = add-one at ∙ sym i;
      size = length-set xs at c ∙ v.size;
      within = omega arith;
    }

-- the first k bytes of what was cut out of s and written
pub laid_part : {b a : List ℕ} {m : ℕ} (s : List ℕ) (from k j : ℕ) → Written (take (from + j - from) (drop from s)) b a m → k ≤ j → from + j ≤ length s → Laid (take k (drop from s)) b a k
laid_part {b} {a} {m} s from k j w h l =
    let q : from + j - from ≡ k + (j - k) = omega arith in
    let e : take (from + j - from) (drop from s) ≡ take k (drop from s) ++ take (j - k) (drop k (drop from s)) = ap (λ (i : ℕ). take i (drop from s)) q ∙ take-add k (j - k) (drop from s) in
    laid_front _ _ k (laid_named (sym e) (laid_written w)) (sym (length-take-le k (drop from s) (omega (arith, length-drop from s))))

-- ---- what is laid, cut out and written

pub cut : {t b xs : List ℕ} {n : ℕ} → Laid t b xs n → take n xs ≡ t
cut {t} {b} {xs} {n} v = rw v.count_is v.front

pub cut_length : {t b xs : List ℕ} {n : ℕ} → Laid t b xs n → n ≡ length (take n xs)
cut_length v = rw (cut v) v.count_is

pub cut_room : {t b xs : List ℕ} {n : ℕ} (m : ℕ) → Laid t b xs n → length t ≤ m → length (take n xs) ≤ m
cut_room m v h = rw (cut v) h

pub cut_written : {t b xs rest after : List ℕ} {n r : ℕ} → Laid t b xs n → Written (take n xs) rest after r → Written t rest after r
cut_written v w = rw (cut v) at w

-- ---- lengths

-- a part that was lent comes back as long as it was
pub same_size : (xs ys : List ℕ) (at : ℕ) → length ys ≡ length (take (length xs - at) (drop at xs)) → length (take at xs ++ (ys ++ drop (length xs - at) (drop at xs))) ≡ length xs
same_size xs ys at e =
    let a = length-take at xs in
    let b = length-drop at xs in
    simp (length-append, length-drop) (omega (arith, length-take (length xs - at) (drop at xs)))

-- the same after a byte was put into the whole
pub set_size : (b ys : List ℕ) (i c at : ℕ) → length ys ≡ length (take (length (set b i c) - at) (drop at (set b i c))) → length (take at (set b i c) ++ (ys ++ drop (length (set b i c) - at) (drop at (set b i c)))) ≡ length b
set_size b ys i c at e = same_size (set b i c) ys at e ∙ length-set b i c

-- ---- a fixed number of bytes is written, and what stood behind the text is put back

-- a text as long as the part that it was written to
pub filled : (t b a : List ℕ) (n : ℕ) → Written t b a n → length b ≡ length t → a ≡ t
unfolding put
filled t b a n w e = w.tape ∙ (let l : length b ≤ length t = omega arith in ap (λ (l : List ℕ). t ++ l) (drop_of_length-le b l) ∙ append-nil t)

module _ (j n : ℕ) (s b new kept xs ys : List ℕ) (i q : ℕ) (New-is : new ≡ take j s) (kept-is : kept ≡ take j (drop n b)) (v : Written new b xs i) (w : Written kept (take (length xs - n) (drop n xs)) ys q) (h : n ≤ j) (k : j ≤ length s) (l : n + j ≤ length b) where
  new_length : length new ≡ j
  new_length = ap length New-is ∙ length-take-le j s k

  kept_length : length kept ≡ j
  kept_length = ap length kept-is ∙ length-take-le j (drop n b) (omega (arith, length-drop n b))

  size_xs : length xs ≡ length b
  size_xs = (laid_written v).size

  whole_back : drop (length xs - n) (drop n xs) ≡ []
  whole_back = let m : length (drop n xs) ≤ length xs - n = omega (arith, length-drop n xs) in drop_of_length-le (drop n xs) m

  lent : take (length xs - n) (drop n xs) ≡ drop n xs
  lent = take_all (length xs - n) (drop n xs) (omega (arith, length-drop n xs))

  -- the j bytes written leave those from j on, and so those from n + j on
  untouched : drop j (drop n xs) ≡ drop j (drop n b)
  unfolding put
  untouched =
      let a : drop j xs ≡ drop j b = ap (drop j) v.tape ∙ (drop_at new (drop (length new) b) j new_length ∙ ap (λ (z : ℕ). drop z b) new_length) in
      let e : n + j ≡ j + n = omega arith in
      drop-drop j n xs ∙ (ap (λ (z : ℕ). drop z xs) e ∙ (sym (drop-drop n j xs) ∙ (ap (drop n) a ∙ (drop-drop n j b ∙ (ap (λ (z : ℕ). drop z b) (sym e) ∙ sym (drop-drop j n b))))))

  behind : ys ≡ drop n b
  unfolding put
  behind = w.tape ∙ (ap (put kept) lent ∙ (ap (λ (z : ℕ). kept ++ drop z (drop n xs)) kept_length ∙ (ap (λ (z : List ℕ). kept ++ z) untouched ∙ (ap (λ (z : List ℕ). z ++ drop j (drop n b)) kept-is ∙ take-append-drop j (drop n b)))))

  front_is : take n xs ≡ take n s
  unfolding put
  front_is = ap (take n) v.tape ∙ (take-append-le n new (drop (length new) b) (omega (arith, new_length)) ∙ (ap (take n) New-is ∙ take-take n j s h))

  pub put_back : Written (take n s) b (take n xs ++ (ys ++ drop (length xs - n) (drop n xs))) n
  unfolding put
  put_back =
      let e : length (take n s) ≡ n = length-take-le n s (omega arith) in
      record {
        tape = simp (whole_back, append-nil, front_is, behind, e);
        count_is = sym e;
        within = omega arith;
      }

pub take_length : (j : ℕ) (s : List ℕ) → j ≤ length s → j ≡ length (take j s)
take_length j s h = sym (length-take-le j s h)

pub take_most : (j : ℕ) (s : List ℕ) → length (take j s) ≤ j
take_most j s = omega (arith, length-take j s)

-- both read into bytes of their own first
pub put_again : (j n : ℕ) (s b y z new kept xs ys : List ℕ) (i m p q : ℕ)
    → Written (take (n + j - n) (drop n b)) y kept m → length y ≡ j → Written (take j s) z new p → length z ≡ j
    → Written new b xs i → Written kept (take (length xs - n) (drop n xs)) ys q → n ≤ j → j ≤ length s → j + j ≤ length b
    → Written (take n s) b (take n xs ++ (ys ++ drop (length xs - n) (drop n xs))) n
put_again j n s b y z new kept xs ys i m p q a ly c lz v w h k l =
    let e : n + j - n ≡ j = omega arith in
    let f : take (n + j - n) (drop n b) ≡ take j (drop n b) = rw e in
    let g : length (take j (drop n b)) ≡ j = length-take-le j (drop n b) (omega (arith, length-drop n b)) in
    put_back j n s b new kept xs ys i q (filled _ z new p c (lz ∙ take_length j s k)) (filled _ y kept m a (ly ∙ (sym g ∙ ap length (sym f))) ∙ f) v w h k (omega arith)
