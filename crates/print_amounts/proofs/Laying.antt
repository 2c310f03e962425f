-- Laws of a text laid by the move, over bytes behind it that are put back. Assumes nothing.
use Prim.Native.Nat.{ℕ, suc, ◌+◌, ◌-◌, ◌≤◌, ◌<◌}
use native.Mathlib.Numerals.{add-one}
use native.Mathlib.Omega.{arith}
use mathlib.Core.Path.{◌≡◌, refl, sym, ap, ◌∙◌}
use mathlib.Core.List.{List, [], ◌∷◌, ◌++◌, append-nil, append_assoc}
use lib.ListN.{length, take, drop, set, length-append, length-take, length-drop, length-set, drop_of_length-le, take-append-drop}
use lib.Seq.{take-take, take_at, drop_at, take-append-add, take-suc-set, drop-set-lt, length-take-le, drop-drop}
use Rattle.text.specs.Put.{put, Written}
use Rattle.text.proofs.Writing.{length_put}
use Rattle.text.proofs.Parts.{rest_is}

pub length_part : (s : List ℕ) (from j : ℕ) → from + j ≤ length s → length (take j (drop from s)) ≡ j
length_part s from j h = length-take-le j (drop from s) (omega (arith, length-drop from s))

pub written_size : {t b a : List ℕ} {r : ℕ} → Written t b a r → length a ≡ length b
written_size {t} {b} {a} {r} w = ap length w.tape ∙ length_put t b (omega (arith, w.count_is, w.within))

-- n bytes are the text; from byte w on nothing changed
pub record Over (text before after : List ℕ) (n w : ℕ) : Type 0 where
  pub front : take n after ≡ text
  pub count_is : n ≡ length text
  pub behind : drop w after ≡ drop w before
  pub size : length after ≡ length before
  pub within : n ≤ length before

-- behind more bytes nothing changed either
deeper : (w v : ℕ) (a b : List ℕ) → w ≤ v → drop w a ≡ drop w b → drop v a ≡ drop v b
deeper w v a b h e =
    let q : v ≡ w + (v - w) = omega arith in
    rw (q, ← drop-drop (v - w) w a, ← drop-drop (v - w) w b, e)

over_deeper : {t b a : List ℕ} {n w : ℕ} (v : ℕ) → Over t b a n w → w ≤ v → Over t b a n v
over_deeper {t} {b} {a} {n} {w} v o h = record { front = o.front; count_is = o.count_is; behind = deeper w v a b h o.behind; size = o.size; within = o.within }

over_named : {s t b a : List ℕ} {n w : ℕ} → t ≡ s → Over t b a n w → Over s b a n w
over_named e o = rw e at o

-- the first m bytes of what is laid
pub over_front : {t b a : List ℕ} {n w : ℕ} (m : ℕ) → Over t b a n w → m ≤ n → Over (take m t) b a m w
over_front {t} {b} {a} {n} {w} m o h = record {
  front = sym (take-take m n a h) ∙ ap (take m) o.front;
  count_is = sym (length-take-le m t (omega (arith, o.count_is)));
  behind = o.behind;
  size = o.size;
  within = omega (arith, o.within);
}

over_written : {t b a : List ℕ} {r : ℕ} → Written t b a r → Over t b a (length t) (length t)
unfolding put
over_written {t} {b} {a} {r} w =
    let l : length t ≤ length b = omega (arith, w.count_is, w.within) in
    record {
      front = ap (take (length t)) w.tape ∙ take_at t (drop (length t) b) (length t) refl;
      count_is = refl;
      behind = ap (drop (length t)) w.tape ∙ drop_at t (drop (length t) b) (length t) refl;
      size = written_size w;
      within = l;
    }

-- the first i bytes of what was cut out of s and written
pub over_first : (t b a : List ℕ) (r : ℕ) → Written t b a r → (s : List ℕ) (from i j d : ℕ) → t ≡ take j (drop from s) → from + j ≤ length s → i ≤ j → j ≤ d → Over (take i (drop from s)) b a i d
over_first t b a r w s from i j d e l h f =
    let q : length t ≡ j = ap length e ∙ length_part s from j l in
    let o = over_front i (over_deeper d (over_written w) (omega arith)) (omega arith) in
    over_named (ap (take i) e ∙ take-take i j (drop from s) h) o

-- one byte more
pub over_byte : {t b xs : List ℕ} {k w : ℕ} (c : ℕ) → Over t b xs k w → k < w → k < length b → Over (t ++ (c ∷ [])) b (set xs k c) (k + 1) w
over_byte {t} {b} {xs} {k} {w} c o h l = record {
  front = rw (add-one k, take-suc-set xs k c (omega (arith, o.size)), o.front);
  count_is = add-one k ∙ (ap suc o.count_is ∙ sym (length-append t (c ∷ []) ∙ add-one (length t)));
  behind = drop-set-lt w xs k c h ∙ o.behind;
  size = length-set xs k c ∙ o.size;
  within = omega arith;
}

-- the part from k on is lent to a writer, and comes back
abbrev pub back : List ℕ → List ℕ → ℕ → List ℕ
back xs ys k = take k xs ++ (ys ++ drop (length xs - k) (drop k xs))

-- there is room for it
pub lent_part : (b xs u : List ℕ) (k j : ℕ) → length xs ≡ length b → length u ≡ j → k + j ≤ length b → length u ≤ length (take (length xs - k) (drop k xs))
lent_part b xs u k j e i h = simp (length-take, length-drop) (omega arith)

module _ (u xs ys : List ℕ) (k n : ℕ) (w : Written u (take (length xs - k) (drop k xs)) ys n) where
  lent : back xs ys k ≡ take k xs ++ (u ++ drop (k + length u) xs)
  unfolding put
  lent =
      let l : length (drop k xs) ≤ length xs - k = omega (arith, length-drop k xs) in
      let none : drop (length xs - k) (drop k xs) ≡ [] = drop_of_length-le (drop k xs) l in
      let y : ys ≡ u ++ drop (k + length u) xs = w.tape ∙ rw (rest_is xs k, drop-drop (length u) k xs) in
      rw (none, append-nil ys, y)

  lent_room : length u ≤ length xs - k
  lent_room = omega (arith, w.count_is, w.within, length-take (length xs - k) (drop k xs))

  pub back_size : k ≤ length xs → length (back xs ys k) ≡ length xs
  back_size h = ap length lent ∙ simp (length-append, length-take, length-drop) (omega (arith, lent_room))

  module _ (t b : List ℕ) (v : ℕ) (o : Over t b xs k v) where
    kept_size : k ≤ length xs
    kept_size = omega (arith, o.within, o.size)

    over_then : v ≤ k + length u → Over (t ++ u) b (back xs ys k) (k + length u) (k + length u)
    over_then h =
        let i : length (t ++ u) ≡ k + length u = length-append t u ∙ ap (λ (j : ℕ). j + length u) (sym o.count_is) in
        let z : List ℕ = drop (k + length u) xs in
        let g : back xs ys k ≡ (t ++ u) ++ z = lent ∙ rw (o.front, append_assoc) in
        record {
          front = ap (take (k + length u)) g ∙ take_at (t ++ u) z (k + length u) i;
          count_is = sym i;
          behind = ap (drop (k + length u)) g ∙ (drop_at (t ++ u) z (k + length u) i ∙ deeper v (k + length u) xs b h o.behind);
          size = back_size kept_size ∙ o.size;
          within = omega (arith, lent_room, kept_size, o.size);
        }

    -- the first i bytes of what was written
    pub over_part : (s : List ℕ) (from i j d : ℕ) → u ≡ take j (drop from s) → from + j ≤ length s → i ≤ j → v ≤ k + j → k + j ≤ d → Over (t ++ take i (drop from s)) b (back xs ys k) (k + i) d
    over_part s from i j d e l h g f =
        let q : length u ≡ j = ap length e ∙ length_part s from j l in
        let z : take (k + i) (t ++ u) ≡ t ++ take i u = ap (λ (n : ℕ). take (n + i) (t ++ u)) o.count_is ∙ take-append-add t u i in
        let y : take i u ≡ take i (drop from s) = ap (take i) e ∙ take-take i j (drop from s) h in
        over_named (z ∙ ap (λ (x : List ℕ). t ++ x) y) (over_front (k + i) (over_deeper d (over_then (omega arith)) (omega arith)) (omega arith))

    -- what stood behind the text is put back
    pub put_back : (j : ℕ) → u ≡ take j (drop k b) → k + j ≤ length b → v ≤ k + j → Written t b (back xs ys k) k
    unfolding put
    put_back j e l h =
        let i : length u ≡ j = ap length e ∙ length-take-le j (drop k b) (omega (arith, length-drop k b)) in
        let z : drop (k + j) xs ≡ drop j (drop k b) = deeper v (k + j) xs b h o.behind ∙ sym (drop-drop j k b) in
        let g : u ++ drop (k + length u) xs ≡ drop k b = rw (i, z, e) (take-append-drop j (drop k b)) in
        record {
          tape = lent ∙ rw (o.front, g, o.count_is);
          count_is = o.count_is;
          within = o.within;
        }
