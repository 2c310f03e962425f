-- What is yet to be told, where `s` is yet to be used. Where a line longer than the block is being passed over, it is as if such a line stood before `s`: of a line that is not as long as it should be, nothing else counts. Assumes nothing.
use Prim.Native.Nat.{ℕ, suc, ◌+◌, ◌≤◌, ◌<◌}
use native.Mathlib.Omega.{arith}
use mathlib.Core.Path.{◌≡◌, refl, sym, ap, ◌∙◌}
use mathlib.Core.Bool.{Bool, true, false}
use mathlib.Core.List.{List, [], ◌∷◌, ◌++◌, append_assoc}
use lib.Dec.{leb}
use lib.ListN.{length, take, drop, replicate, length-append}
use lib.Seq.{drop-append-add, length-take-le}
use borrow.Author.Tests.{leb-true, leb-false}
use Rattle.text.specs.Pick.{pick}
use Rattle.rules.specs.Day.{Day, after, ample}
use Rattle.rules.specs.Sizes.{width}
use Rattle.feed_blocks.specs.Lines.{line_length, lines_by, past_line}
use Rattle.feed_blocks.proofs.Ahead.{by_nothing, by_last, by_broken, by_held, held_none, Ahead, goes, breaks, ahead}
use Rattle.feed_gather.specs.Gather.{last_line}
use Rattle.claim_programs.specs.Told.{Text, told_of_lines}
use Rattle.claim_programs.proofs.Lines.{told_none, told_on, told_past, after_long}

-- a line that is too long, so far
unfoldable pub long : List ℕ
long = replicate (suc width) 32

length_long : length long ≡ suc width
unfolding long
length_long = refl

plain_long : length long ≤ line_length long
unfolding long line_length pick
plain_long = omega arith

unfoldable pub before : Bool → List ℕ → List ℕ
before true s = long ++ s
before false s = s

unfoldable pub rest : Text → Bool → Day → ℕ → Bool → List ℕ → List ℕ
rest t w day n passing s = told_of_lines t day n (lines_by w (before passing s))

-- nothing is told behind the last line, of no byte, and of a line that broke off
pub rest_past : (t : Text) (w : Bool) (day : Day) (n : ℕ) (passing : Bool) (s : List ℕ) → last_line < n → rest t w day n passing s ≡ []
unfolding rest
rest_past t w day n passing s h = told_past t day n (lines_by w (before passing s)) h

pub rest_none : (t : Text) (w : Bool) (day : Day) (n : ℕ) → rest t w day n false [] ≡ []
unfolding rest before
rest_none t w day n = ap (told_of_lines t day n) (by_nothing w) ∙ told_none t day n

pub rest_broken : (t : Text) (day : Day) (n : ℕ) (passing : Bool) (s : List ℕ) → length s ≤ line_length s → rest t false day n passing s ≡ []
unfolding rest before
rest_broken t day n false s h = ap (told_of_lines t day n) (by_broken s h) ∙ told_none t day n
rest_broken t day n true s h = ap (told_of_lines t day n) (by_broken (long ++ s) (omega (arith, held_none long s plain_long, length-append long s, plain_long))) ∙ told_none t day n

module _ (t : Text) (alike : (day : Day) (number : ℕ) (a b : List ℕ) → (length a ≡ width → ⊥) → (length b ≡ width → ⊥) → t day number a ≡ t day number b) where
  -- a first line that is too long
  first : (day : Day) (n : ℕ) (a b : List ℕ) (ls : List (List ℕ)) → width < length a → width < length b → told_of_lines t day n (a ∷ ls) ≡ told_of_lines t day n (b ∷ ls)
  first day n a b ls h k = go (leb n last_line) refl
    where
      ha : length a ≡ width → ⊥
      ha e = omega arith

      hb : length b ≡ width → ⊥
      hb e = omega arith

      go : (c : Bool) → leb n last_line ≡ c → told_of_lines t day n (a ∷ ls) ≡ told_of_lines t day n (b ∷ ls)
      go true e =
          let l = leb-true n last_line e in
          rw (told_on t day n a ls l, told_on t day n b ls l, alike day n a b ha hb, after_long day a ha, after_long day b hb)
      go false e =
          let l = leb-false n last_line e in
          told_past t day n (a ∷ ls) l ∙ sym (told_past t day n (b ∷ ls) l)

  -- two starts of a line, both too long
  same : (w : Bool) (day : Day) (n : ℕ) (a b f : List ℕ) → length a ≤ line_length a → length b ≤ line_length b → width < length a → width < length b → told_of_lines t day n (lines_by w (a ++ f)) ≡ told_of_lines t day n (lines_by w (b ++ f))
  same w day n a b f pa pb la lb = go (ahead w f)
    where
      go : Ahead w f → told_of_lines t day n (lines_by w (a ++ f)) ≡ told_of_lines t day n (lines_by w (b ++ f))
      go (goes x ls e) =
          rw (e a pa (omega arith), e b pb (omega arith)) (first day n (a ++ x) (b ++ x) ls (omega (arith, length-append a x)) (omega (arith, length-append b x)))
      go (breaks e) = rw (e a pa (omega arith), e b pb (omega arith))

  -- more of a line that is passed over
  pub rest_on : (w : Bool) (day : Day) (n : ℕ) (u f : List ℕ) → length u ≤ line_length u → rest t w day n true (u ++ f) ≡ rest t w day n true f
  unfolding rest before
  rest_on w day n u f h =
      ap (λ (x : List ℕ). told_of_lines t day n (lines_by w x)) (sym (append_assoc long u f))
      ∙ same w day n (long ++ u) long f (omega (arith, held_none long u plain_long, length-append long u, plain_long)) plain_long (omega (arith, length-append long u, length_long)) (omega (arith, length_long))

  -- a block without a line feed is the start of such a line
  pub rest_fills : (w : Bool) (day : Day) (n : ℕ) (u f : List ℕ) → length u ≤ line_length u → width < length u → rest t w day n false (u ++ f) ≡ rest t w day n true f
  unfolding rest before
  rest_fills w day n u f h l = same w day n u long f h plain_long l (omega (arith, length_long))

  -- it ends: at its line feed, or at the input's end
  module _ (day : Day) (n : ℕ) (early : n ≤ last_line) where
    short : length {A = ℕ} [] ≡ width → ⊥
    short e = omega arith

    pub rest_ends : (w : Bool) (u f : List ℕ) → line_length u < length u → rest t w day n true (u ++ f) ≡ t day n [] ++ rest t w (after day (ample [])) (n + 1) false (drop (line_length u + 1) u ++ f)
    unfolding rest before past_line
    rest_ends w u f h =
        let m : line_length (long ++ u) ≡ length long + line_length u = held_none long u plain_long in
        let l : line_length (long ++ u) < length (long ++ u) = omega (arith, m, length-append long u) in
        let line : List ℕ = take (line_length (long ++ u)) (long ++ u) in
        let size : length line ≡ length long + line_length u = length-take-le (line_length (long ++ u)) (long ++ u) (omega arith) ∙ m in
        let unlike : length line ≡ width → ⊥ = λ e. omega (arith, size, length_long, e) in
        let past : drop (suc (line_length (long ++ u))) (long ++ u) ≡ drop (line_length u + 1) u = ap (λ (k : ℕ). drop k (long ++ u)) (let z : suc (line_length (long ++ u)) ≡ length long + (line_length u + 1) = omega (arith, m) in z) ∙ drop-append-add long u (line_length u + 1) in
        ap (λ (x : List ℕ). told_of_lines t day n (lines_by w x)) (sym (append_assoc long u f))
        ∙ (ap (told_of_lines t day n) (by_held w (long ++ u) f l)
        ∙ (told_on t day n line _ early ∙ rw (alike day n line [] unlike short, after_long day line unlike, after_long day [] short, past)))

    pub rest_last : (u : List ℕ) → length u ≤ line_length u → rest t true day n true u ≡ t day n [] ++ rest t true (after day (ample [])) (n + 1) false []
    unfolding rest before
    rest_last u h =
        let line : List ℕ = long ++ u in
        let unlike : length line ≡ width → ⊥ = λ e. omega (arith, length-append long u, length_long, e) in
        ap (told_of_lines t day n) (by_last line (omega (arith, held_none long u plain_long, length-append long u, plain_long)) (omega (arith, length-append long u, length_long)))
        ∙ (told_on t day n line [] early ∙ rw (alike day n line [] unlike short, after_long day line unlike, after_long day [] short, by_nothing true))

-- the last line
pub rest_one : (t : Text) (day : Day) (n : ℕ) (u : List ℕ) → n ≤ last_line → length u ≤ line_length u → 0 < length u → rest t true day n false u ≡ t day n u ++ rest t true (after day (ample u)) (n + 1) false []
unfolding rest before
rest_one t day n u early h k = ap (told_of_lines t day n) (by_last u h k) ∙ (told_on t day n u [] early ∙ rw (by_nothing true))

-- what is told of no byte, of what is held and of what comes, is by the lines
pub rest_lines : (t : Text) (w : Bool) (day : Day) (n : ℕ) (s : List ℕ) → rest t w day n false s ≡ told_of_lines t day n (lines_by w s)
unfolding rest before
rest_lines t w day n s = refl
