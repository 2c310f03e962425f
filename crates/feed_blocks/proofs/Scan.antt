-- A line's end, and a line's start moved to the front: the steps of the loops. Assumes nothing.
use Prim.Native.Nat.{ℕ, suc, ◌+◌, ◌-◌, ◌≤◌, ◌<◌, min}
use Rattle.std.specs.List.{copy_within}
use Rattle.std.proofs.lemmas.List.Edits.{paste_all}
use native.Mathlib.Numerals.{add-one}
use native.Mathlib.Omega.{arith}
use mathlib.Core.Path.{◌≡◌, refl, sym, ap, ◌∙◌}
use mathlib.Core.Bool.{Bool, true, false}
use mathlib.Core.List.{List, [], ◌∷◌, ◌++◌}
use lib.Dec.{ltb}
use lib.ListN.{length, take, drop, get_or, drop_of_length-le, length-take, length-drop, take-append-drop}
use lib.Seq.{drop-cons, drop-drop}
use borrow.Author.Tests.{eq-eqb, ne_eqb, eqb-true, ltb-true, ltb-false}
use Rattle.text.specs.Pick.{pick, all}
use Rattle.text.specs.Put.{put, Written}
use Rattle.text.proofs.Texts.{and_left, and_right}
use Rattle.rules.specs.Sizes.{width}
use Rattle.feed_blocks.specs.Lines.{line_length, line_end, ends_at}

pub length_feed : (c : ℕ) (s : List ℕ) → c ≡ 10 → line_length (c ∷ s) ≡ 0
unfolding line_length pick
length_feed c s h = rw (eq-eqb c 10 h)

pub length_other : (c : ℕ) (s : List ℕ) → (c ≡ 10 → ⊥) → line_length (c ∷ s) ≡ suc (line_length s)
unfolding line_length pick
length_other c s h = rw (ne_eqb c 10 h)

module _ (block : List ℕ) (i e : ℕ) where
  pub end_here : i < length block → get_or block i 0 ≡ 10 → line_end block i ≡ e → i ≡ e
  unfolding line_end
  end_here l h q = omega (arith, ap line_length (drop-cons block i 0 l), length_feed (get_or block i 0) (drop (suc i) block) h)

  pub end_on : i < length block → (get_or block i 0 ≡ 10 → ⊥) → line_end block i ≡ e → line_end block (i + 1) ≡ e
  unfolding line_end
  end_on l h q = rw add-one (omega (arith, ap line_length (drop-cons block i 0 l), length_other (get_or block i 0) (drop (suc i) block) h))

  pub end_past : length block ≤ i → line_end block i ≡ e → i ≡ e
  unfolding line_end line_length
  end_past l q = omega (arith, ap line_length (drop_of_length-le block l))

-- ---- many bytes at once: `near` is 0 as long as no line feed was seen

module _ (block : List ℕ) (from near i e : ℕ) (so : near ≡ 0 → line_end block i ≡ e) where
  -- a byte that is none
  pub near_on : (near' : ℕ) → near' ≡ near → from + width ≤ length block → i < from + width → (get_or block i 0 ≡ 10 → ⊥) → near' ≡ 0 → line_end block (i + 1) ≡ e
  near_on near' q l m h z = end_on block i e (omega arith) h (so (omega arith))

pub near_seen : (block : List ℕ) (i e near : ℕ) → near ≡ 1 → near ≡ 0 → line_end block (i + 1) ≡ e
near_seen block i e near q z = absurd (omega arith)

-- bytes that pass a test which a line feed fails, and a line feed behind them
module _ (test : ℕ → Bool) (fails : test 10 ≡ false) where
  length_front : (l t : List ℕ) → all test l ≡ true → line_length (l ++ 10 ∷ t) ≡ length l
  unfolding all
  length_front [] t h = length_feed 10 t refl
  length_front (c ∷ l) t h =
      let other : c ≡ 10 → ⊥ = λ e. absurd (let y : ◌≡◌ {A = Bool} true false = sym (and_left (test c) (all test l) h) ∙ (ap test e ∙ fails) in let z : ◌≡◌ {A = ℕ} 0 1 = cc in omega arith) in
      rw (length_other c (l ++ 10 ∷ t) other, length_front l t (and_right (test c) (all test l) h))

  pub line_at : (block : List ℕ) (at n : ℕ) → all test (take n (drop at block)) ≡ true → ends_at block (at + n) ≡ true → at + n ≡ line_end block at
  unfolding line_end ends_at
  line_at block at n h e =
      let l : at + n < length block = ltb-true (at + n) (length block) (and_left (ltb (at + n) (length block)) _ e) in
      let b : get_or block (at + n) 0 ≡ 10 = eqb-true (get_or block (at + n) 0) 10 (and_right (ltb (at + n) (length block)) _ e) in
      let back : drop n (drop at block) ≡ 10 ∷ drop (suc (at + n)) block = drop-drop n at block ∙ (drop-cons block (at + n) 0 l ∙ ap (λ (c : ℕ). c ∷ drop (suc (at + n)) block) b) in
      let whole : drop at block ≡ take n (drop at block) ++ (10 ∷ drop (suc (at + n)) block) = sym (take-append-drop n (drop at block)) ∙ ap (λ (z : List ℕ). take n (drop at block) ++ z) back in
      omega (arith, ap line_length whole, length_front (take n (drop at block)) (drop (suc (at + n)) block) h, length-take n (drop at block), length-drop at block)

-- ---- moving to the front

same_rest : (b : List ℕ) (from start : ℕ) → start ≡ min from (length b) → drop start b ≡ drop from b
same_rest b from start e = go (ltb from (length b)) refl
  where
    go : (t : Bool) → ltb from (length b) ≡ t → drop start b ≡ drop from b
    go true h = let l = ltb-true from (length b) h in ap (λ (n : ℕ). drop n b) (omega arith)
    go false h = let l = ltb-false from (length b) h in rw (drop_of_length-le b {i = start} (omega arith), drop_of_length-le b {i = from} (omega arith))

pub moved : (b a : List ℕ) (from start : ℕ) → start ≡ min from (length b) → a ≡ copy_within b start (length b) 0 → length a ≡ length b → Written (drop from b) b a (length a - start)
unfolding put
moved b a from start e q l =
    let r : drop start b ≡ drop from b = same_rest b from start e in
    let n : length (drop from b) ≡ length b - start = rw length-drop (omega arith) in
    record {
      tape = q ∙ (paste_all b 0 (drop start b) (length b - start) (sym (length-drop start b)) ∙ rw (r, n) (let z : 0 + (length b - start) ≡ length b - start = omega arith in ap (λ (i : ℕ). drop from b ++ drop i b) z));
      count_is = rw (n, l);
      within = omega arith;
    }
