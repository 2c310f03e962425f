-- Every byte of a field in its form is one of 32..126. Assumes nothing.
use Prim.Native.Nat.{ℕ, zero, suc, ◌+◌, ◌-◌, ◌*◌, ◌<◌}
use native.Mathlib.Omega.{arith}
use mathlib.Core.Path.{◌≡◌, refl, ap, ◌∙◌}
use mathlib.Core.Bool.{Bool, true, false, ◌&&◌}
use mathlib.Core.List.{List, [], ◌∷◌}
use lib.ListN.{length, get_or, take, drop, length-drop}
use lib.Seq.{drop-cons, take_all, drop-drop}
use lib.Dec.{leb, eqb}
use borrow.Author.Tests.{eqb-true, leb-true, le-leb}
use Rattle.text.specs.Pick.{pick, all, among}
use Rattle.text.specs.Reading.{span, is_digit}
use Rattle.text.specs.Bytes.{bytes}
use Rattle.text.proofs.Texts.{and_left, and_right}
use Rattle.rules.specs.declared.Number.{Number}
use Rattle.rules.specs.declared.Number.TheVariants.{Bad, Is}
use Rattle.rules.specs.Columns.{is_blank, blank, filled, justified, digits_from, zero_alone, numeral, number_in, between}
use Rattle.rules.specs.Conditions.{is_condition, letters_formed}
use Rattle.rules.specs.Line.{is_printable, is_market}

-- ---- blanks

printable_blank_byte : (c : ℕ) → is_blank c ≡ true → is_printable c ≡ true
unfolding is_blank is_printable between
printable_blank_byte c h = rw (eqb-true c 32 h)

pub printable_blank : (s : List ℕ) → blank s ≡ true → all is_printable s ≡ true
unfolding blank all
printable_blank [] h = refl
printable_blank (c ∷ s) h = rw (printable_blank_byte c (and_left (is_blank c) (all is_blank s) h), printable_blank s (and_right (is_blank c) (all is_blank s) h))

-- ---- numbers

printable_digit : (c : ℕ) → is_digit c ≡ true → is_printable c ≡ true
unfolding is_digit is_printable between
printable_digit c h =
    let l = leb-true 48 c (and_left (leb 48 c) (leb c 57) h) in
    let m = leb-true c 57 (and_right (leb 48 c) (leb c 57) h) in
    rw (le-leb 32 c (omega arith), le-leb c 126 (omega arith))

picked : (x y : Number) (b : Bool) (n : ℕ) → pick b x y ≡ Is n → b ≡ true → x ≡ Is n
unfolding pick
picked x y b n h e = rw e at h

other_picked : (x y : Number) (b : Bool) (n : ℕ) → pick b x y ≡ Is n → b ≡ false → y ≡ Is n
unfolding pick
other_picked x y b n h e = rw e at h

not_bad : (n : ℕ) (a b : Bool) → Bad ≡ Is n → a ≡ b
not_bad n a b h = cc

printable_digits : (s : List ℕ) (a n : ℕ) → digits_from a s ≡ Is n → all is_printable s ≡ true
unfolding digits_from all
printable_digits [] a n h = refl
printable_digits (c ∷ s) a n h = go (is_digit c) refl (printable_digits s (a * 10 + (c - 48)) n)
  where
    go : (b : Bool) → is_digit c ≡ b → (digits_from (a * 10 + (c - 48)) s ≡ Is n → all is_printable s ≡ true) → (is_printable c && all is_printable s) ≡ true
    go true e ih = rw (printable_digit c e, ih (picked _ Bad (is_digit c) n h e))
    go false e ih = not_bad n _ _ (other_picked (digits_from (a * 10 + (c - 48)) s) Bad (is_digit c) n h e)

printable_zero : (s : List ℕ) (n : ℕ) → zero_alone s ≡ Is n → all is_printable s ≡ true
unfolding zero_alone all
printable_zero [] n h = refl
printable_zero (c ∷ s) n h = not_bad n _ _ h

printable_first : (c : ℕ) (s : List ℕ) → c ≡ 48 → all is_printable s ≡ true → all is_printable (c ∷ s) ≡ true
unfolding all is_printable between
printable_first c s e h = rw (e, h)

printable_numeral : (c n : ℕ) (s : List ℕ) → numeral (c ∷ s) ≡ Is n → all is_printable (c ∷ s) ≡ true
unfolding numeral
printable_numeral c n s h = go (eqb c 48) refl
  where
    go : (b : Bool) → eqb c 48 ≡ b → all is_printable (c ∷ s) ≡ true
    go true e = printable_first c s (eqb-true c 48 e) (printable_zero s n (picked _ (digits_from 0 (c ∷ s)) (eqb c 48) n h e))
    go false e = printable_digits (c ∷ s) 0 n (other_picked (zero_alone s) _ (eqb c 48) n h e)

passed : (c : ℕ) (s : List ℕ) (n : ℕ) → number_in (c ∷ s) ≡ Is n → is_blank c ≡ true → number_in s ≡ Is n
unfolding number_in justified pick
passed c s n h e = rw e at h

kept : (c : ℕ) (s : List ℕ) (n : ℕ) → number_in (c ∷ s) ≡ Is n → is_blank c ≡ false → numeral (c ∷ s) ≡ Is n
unfolding number_in justified pick
kept c s n h e = rw e at h

pub printable_number : (s : List ℕ) (n : ℕ) → number_in s ≡ Is n → all is_printable s ≡ true
unfolding number_in justified all
printable_number [] n h = refl
printable_number (c ∷ s) n h = go (is_blank c) refl (printable_number s n)
  where
    go : (b : Bool) → is_blank c ≡ b → (number_in s ≡ Is n → all is_printable s ≡ true) → (is_printable c && all is_printable s) ≡ true
    go true e ih = rw (printable_blank_byte c e, ih (passed c s n h e))
    go false e ih = printable_numeral c n s (kept c s n h e)

-- ---- markets and condition letters

among_passes : (p : ℕ → Bool) (c : ℕ) (s : List ℕ) → among c s ≡ true → all p s ≡ true → p c ≡ true
unfolding among all
among_passes p c [] h g = cc
among_passes p c (b ∷ s) h g = go (eqb c b) refl (λ k. among_passes p c s k (and_right (p b) (all p s) g))
  where
    go : (x : Bool) → eqb c b ≡ x → (among c s ≡ true → p c ≡ true) → p c ≡ true
    go true e ih = ap p (eqb-true c b e) ∙ and_left (p b) (all p s) g
    go false e ih = ih (rw e at h)

printable_markets : all is_printable (bytes "ABWMCDTNPX") ≡ true
unfolding all is_printable between
printable_markets = refl

pub printable_market : (c : ℕ) → is_market c ≡ true → is_printable c ≡ true
unfolding is_market
printable_market c h = among_passes is_printable c (bytes "ABWMCDTNPX") h printable_markets

printable_conditions : all is_printable (bytes "OSLNMCKBTRJG") ≡ true
unfolding all is_printable between
printable_conditions = refl

printable_condition : (c : ℕ) → is_condition c ≡ true → is_printable c ≡ true
unfolding is_condition
printable_condition c h = among_passes is_printable c (bytes "OSLNMCKBTRJG") h printable_conditions

first_letter : (c : ℕ) (s : List ℕ) → is_condition c ≡ true → letters_formed (c ∷ s) ≡ true → letters_formed s ≡ true
unfolding letters_formed filled span pick
first_letter c s e h = rw e at h

no_more_letters : (c : ℕ) (s : List ℕ) → is_condition c ≡ false → letters_formed (c ∷ s) ≡ true → blank (c ∷ s) ≡ true
unfolding letters_formed filled span pick
no_more_letters c s e h = rw e at h

pub printable_letters : (s : List ℕ) → letters_formed s ≡ true → all is_printable s ≡ true
unfolding all
printable_letters [] h = refl
printable_letters (c ∷ s) h = go (is_condition c) refl (printable_letters s)
  where
    go : (b : Bool) → is_condition c ≡ b → (letters_formed s ≡ true → all is_printable s ≡ true) → (is_printable c && all is_printable s) ≡ true
    go true e ih = rw (printable_condition c e, ih (first_letter c s e h))
    go false e ih = printable_blank (c ∷ s) (no_more_letters c s e h)

pub printable_kind : is_printable 84 ≡ true
unfolding is_printable between
printable_kind = refl

-- ---- parts of a text that pass

module _ (p : ℕ → Bool) where
  all_both : (k : ℕ) (s : List ℕ) → all p (take k s) ≡ true → all p (drop k s) ≡ true → all p s ≡ true
  unfolding all
  all_both zero s h g = g
  all_both (suc k) [] h g = refl
  all_both (suc k) (c ∷ s) h g = rw (and_left (p c) (all p (take k s)) h, all_both k s (and_right (p c) (all p (take k s)) h) g)

  -- a byte, then what is left
  pub one_then : (s : List ℕ) (j : ℕ) → j < length s → p (get_or s j 0) ≡ true → all p (drop (suc j) s) ≡ true → all p (drop j s) ≡ true
  unfolding all
  one_then s j l h g = rw (drop-cons s j 0 l, h, g)

  -- a part of k from j on, then what is left
  pub part_then : (s : List ℕ) (j k : ℕ) → all p (take k (drop j s)) ≡ true → all p (drop (j + k) s) ≡ true → all p (drop j s) ≡ true
  part_then s j k h g = all_both k (drop j s) h (rw (drop-drop k j s) g)

  -- the last part
  pub part_last : (s : List ℕ) (j k : ℕ) → length s ≡ j + k → all p (take k (drop j s)) ≡ true → all p (drop j s) ≡ true
  part_last s j k l h = rw (take_all k (drop j s) (rw length-drop (omega arith))) at h
