-- Laws of texts read from the left: what is blank, what passes a test, a field's word. Assumes nothing.
use Prim.Native.Nat.{ℕ, suc, ◌+◌, ◌-◌, ◌≤◌, ◌<◌}
use native.Mathlib.Numerals.{add-one}
use native.Mathlib.Omega.{arith}
use mathlib.Core.Path.{◌≡◌, sym, ap, ◌∙◌}
use mathlib.Core.Bool.{Bool, true, false, ◌&&◌, not}
use mathlib.Core.List.{List, [], ◌∷◌}
use lib.ListN.{length, get_or, take, drop, drop_of_length-le}
use lib.Seq.{drop-cons, take_all}
use lib.Dec.{eqb}
use borrow.Author.Tests.{eq-eqb, ne_eqb, not-true, not-false}
use Rattle.text.specs.Pick.{all}
use Rattle.text.specs.Reading.{span}
use Rattle.text.proofs.Booleans.{and_false, and_true}
use Rattle.text.proofs.Parts.{rest_is, all_parts}
use Rattle.rules.specs.Columns.{is_blank, blank, word, filled}
use Rattle.rules.proofs.Fields.{word_blank, word_byte}

-- ---- every byte passes. Each is looked at, so that many are at once: `others` is 0 as long as none was found that does not pass

module _ (p : ℕ → Bool) (s : List ℕ) (others i : ℕ) (so : (eqb others 0 && all p (drop i s)) ≡ all p s) where
  one_more : i < length s → all p (drop i s) ≡ (p (get_or s i 0) && all p (drop (i + 1) s))
  unfolding all
  one_more h = rw (drop-cons s i 0 h, add-one)

  pub other_found : (k : ℕ) → k ≡ 1 → i < length s → p (get_or s i 0) ≡ false → (eqb k 0 && all p (drop (i + 1) s)) ≡ all p s
  other_found k e h q =
      let z : (eqb others 0 && all p (drop i s)) ≡ false = rw (one_more h, q) (and_false (eqb others 0)) in
      rw e (sym z ∙ so)

  pub none_found : (k : ℕ) → k ≡ others → i < length s → p (get_or s i 0) ≡ true → (eqb k 0 && all p (drop (i + 1) s)) ≡ all p s
  none_found k e h q = let z : all p (drop i s) ≡ all p (drop (i + 1) s) = rw (one_more h, q) in rw (e, ← z) so

  pub passed : length s ≤ i → eqb others 0 ≡ all p s
  unfolding all
  passed h = sym (and_true (eqb others 0)) ∙ (ap (λ (l : List ℕ). eqb others 0 && all p l) (sym (drop_of_length-le s h)) ∙ so)

  -- as a callee told it
  pub told_found : (k : ℕ) (r : Bool) → k ≡ 1 → i < length s → r ≡ p (get_or s i 0) → not r ≡ true → (eqb k 0 && all p (drop (i + 1) s)) ≡ all p s
  told_found k r e h q w = other_found k e h (sym q ∙ not-true r w)

  pub told_none : (k : ℕ) (r : Bool) → k ≡ others → i < length s → r ≡ p (get_or s i 0) → not r ≡ false → (eqb k 0 && all p (drop (i + 1) s)) ≡ all p s
  told_none k r e h q w = none_found k e h (sym q ∙ not-false r w)

-- blanks only
module _ (s : List ℕ) (marks i : ℕ) (so : (eqb marks 0 && blank (drop i s)) ≡ blank s) where
  pub mark_found : (k : ℕ) → k ≡ 1 → i < length s → (get_or s i 0 ≡ 32 → ⊥) → (eqb k 0 && blank (drop (i + 1) s)) ≡ blank s
  unfolding blank is_blank
  mark_found k e h q = other_found is_blank s marks i so k e h (ne_eqb (get_or s i 0) 32 q)

  pub no_mark : (k : ℕ) → k ≡ marks → i < length s → get_or s i 0 ≡ 32 → (eqb k 0 && blank (drop (i + 1) s)) ≡ blank s
  unfolding blank is_blank
  no_mark k e h q = none_found is_blank s marks i so k e h (eq-eqb (get_or s i 0) 32 q)

  pub blank_passed : length s ≤ i → eqb marks 0 ≡ blank s
  unfolding blank is_blank
  blank_passed h = passed is_blank s marks i so h

-- 48 columns in three parts
pub blank_parts : (s : List ℕ) → length s ≡ 48 → blank s ≡ (blank (take 16 s) && (blank (take 16 (drop 16 s)) && blank (take 16 (drop 32 s))))
unfolding blank
blank_parts s size = rw (all_parts is_blank 16 16 16 s) (sym (all_parts is_blank 0 16 32 s ∙ ap (all is_blank) (take_all 48 s (omega (arith, size)))))

-- ---- the bytes at the front that pass

pub filled_by : (p : ℕ → Bool) (s : List ℕ) (k : ℕ) (r : Bool) → (span p s).rest ≡ drop k s → r ≡ blank (take (length s - k) (drop k s)) → r ≡ filled p s
unfolding filled
filled_by p s k r e q = rw (e, ← rest_is s k) q

-- ---- the word: the text up to the first blank

pub word_stop : (s : List ℕ) (i : ℕ) → i < length s → get_or s i 0 ≡ 32 → word (drop i s) ≡ []
word_stop s i h q = rw (drop-cons s i 0 h) (word_blank _ _ q)

pub word_more : (s : List ℕ) (i : ℕ) → i < length s → (get_or s i 0 ≡ 32 → ⊥) → word (drop i s) ≡ get_or s i 0 ∷ word (drop (suc i) s)
word_more s i h q = rw (drop-cons s i 0 h) (word_byte _ _ q)
