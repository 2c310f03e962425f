-- Laws of a side's columns: what its volume and its price are written from, and that a blank where letters begin is no letter. Assumes nothing.
use Prim.Native.Nat.{ℕ, ◌<◌}
use native.Mathlib.Omega.{arith}
use mathlib.Core.Path.{◌≡◌, ap, ◌∙◌}
use mathlib.Core.Bool.{Bool, true, false, not}
use mathlib.Core.List.{List, [], ◌∷◌, append-nil}
use lib.Dec.{eqb}
use lib.ListN.{length, get_or, take, drop, length-take, length-drop}
use lib.Seq.{drop-cons, take-take}
use borrow.Author.Tests.{eqb-true, not-false}
use Rattle.text.specs.Pick.{opt, among}
use Rattle.text.specs.Put.{Written}
use Rattle.text.proofs.Writing.{written_nothing}
use Rattle.rules.specs.Columns.{number_in}
use Rattle.rules.specs.Conditions.{letters_in, after_name, after_price, at_end}
use Rattle.rules.specs.Side.{head_text, tail_text}
use Rattle.rules.specs.declared.Letters.{Letters}
use Rattle.rules.specs.declared.Side.{Side}
use Rattle.rules.proofs.Fields.{word_blank}
use Rattle.print_amounts.specs.Columns.{VolumeColumns, PriceColumns}
use Rattle.line_owed.specs.Owed.{SideColumns}

abbrev no_letters : Letters
no_letters = record { o = false; s = false; l = false; n = false; m = false; c = false; k = false; b = false; t = false; r = false; j = false; g = false }

none_in : (c : ℕ) (s : List ℕ) → c ≡ 32 → letters_in (c ∷ s) ≡ no_letters
unfolding letters_in among
none_in c s h = rw (word_blank c s h)

field_begins : (part : List ℕ) → 24 < length part → take 4 (drop 24 part) ≡ get_or part 24 0 ∷ take 3 (drop 25 part)
field_begins part h = ap (take 4) (drop-cons part 24 0 h)

module _ (part : List ℕ) (x : Side) (h : SideColumns part x) where
  pub volume_columns : VolumeColumns part x.volume
  volume_columns = record { size = h.size; volume_is = h.volume_is; some = h.owed.some }

  pub price_columns : PriceColumns (take 37 (drop 9 part)) x.price
  price_columns = record { size = omega (arith, h.size, length-take 37 (drop 9 part), length-drop 9 part); n_is = ap number_in (take-take 14 37 (drop 9 part) (omega arith)) ∙ h.n_is; sound = h.owed.price }

  pub no_letters_lem : eqb (get_or part 24 0) 32 ≡ true → x.letters ≡ no_letters
  no_letters_lem e = h.letters_is ∙ (ap letters_in (field_begins part (omega (arith, h.size))) ∙ none_in (get_or part 24 0) (take 3 (drop 25 part)) (eqb-true (get_or part 24 0) 32 e))

  module _ (marked : Bool) (e : not (eqb (get_or part 24 0) 32) ≡ marked) where
    blank_there : marked ≡ false → eqb (get_or part 24 0) 32 ≡ true
    blank_there m = not-false (eqb (get_or part 24 0) 32) (e ∙ m)

    pub no_head : marked ≡ false → after_name x.letters ≡ []
    unfolding after_name opt
    no_head m = rw (no_letters_lem (blank_there m))

    pub no_tail : marked ≡ false → tail_text x ≡ []
    unfolding tail_text after_price at_end opt
    no_tail m = rw (no_letters_lem (blank_there m))

-- where nothing is marked
module _ (marked : Bool) (h : marked ≡ false) where
  pub head_alone : (name b a : List ℕ) (x : Letters) (n : ℕ) → (marked ≡ false → after_name x ≡ []) → Written name b a n → Written (head_text name x) b a n
  unfolding head_text
  head_alone name b a x n f w = rw (f h, append-nil) w

  pub no_tail_written : (x : Side) (b : List ℕ) → (marked ≡ false → tail_text x ≡ []) → Written (tail_text x) b b 0
  no_tail_written x b f = rw (f h) (written_nothing b)
