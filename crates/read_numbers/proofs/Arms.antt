-- The numbers of a side and of each answer of the reader. Assumes nothing.
use Prim.Native.Nat.{ℕ, ◌+◌, ◌-◌}
use mathlib.Core.Path.{◌≡◌}
use mathlib.Core.List.{List, ◌∷◌}
use Rattle.std.specs.Prelude.{Result, Ok, Err}
use Rattle.text.specs.Pick.{pick}
use Rattle.rules.specs.Price.{units}
use Rattle.rules.specs.Shown.{shown_letters, conditions_of}
use Rattle.rules.specs.declared.Letters.{Letters}
use Rattle.rules.specs.declared.Refusal.{Refusal}
use Rattle.rules.specs.declared.Side.{Side}
use Rattle.reader.specs.declared.PrintRead.{PrintRead}
use Rattle.reader.specs.declared.CorrectionRead.{CorrectionRead}
use Rattle.reader.specs.declared.Print.TheVariants.{Announcement, Trade, Cancel, Error, Correction}
use Rattle.reader.specs.Read.{read_at}
use Rattle.reader.specs.Told.{length_of, name_from, name_length, part_in, fact_in}
use Rattle.reader.specs.declared.Print.{Print}
use Rattle.read_numbers.specs.declared.SideNumbers.{SideNumbers}
use Rattle.read_numbers.specs.Numbers.{letters_number, side_numbers, no_side, part_numbers, volume_number, kind_and_sides, fact_numbers, numbers_of, numbers_at}

-- ---- a side

pub letters_are : (x : Letters) (o s l m k r b t j g : ℕ) → o ≡ pick x.o 1 0 → s ≡ pick x.s 2 0 → l ≡ pick x.l 4 0 → m ≡ pick x.m 8 0 → k ≡ pick x.k 16 0
    → r ≡ pick x.r 32 0 → b ≡ pick x.b 64 0 → t ≡ pick x.t 128 0 → j ≡ pick x.j 256 0 → g ≡ pick x.g 512 0 → o + s + l + m + k + r + b + t + j + g ≡ letters_number x
unfolding letters_number
letters_are x o s l m k r b t j g e f h i p q u v w z = rw (e, f, h, i, p, q, u, v, w, z)

pub side_is : (x : Side) (price previous n : ℕ) (l : Letters) → price ≡ units x.price → previous ≡ units x.previous → l ≡ shown_letters x.letters → n ≡ letters_number l
    → ◌≡◌ {A = SideNumbers} (record { price = price; letters = n; days = x.days; previous = previous; volume = x.volume }) (part_numbers (part_in x))
unfolding part_numbers side_numbers conditions_of
side_is x price previous n l e f g h = rw (e, f, h, g)

-- two sides gathered, each by what it is
pub gathered_is : (n from to kind : ℕ) (x y a b : SideNumbers) (r : List ℕ) → r ≡ n ∷ from ∷ (to - from) ∷ kind_and_sides kind x y → x ≡ a → y ≡ b → r ≡ n ∷ from ∷ (to - from) ∷ kind_and_sides kind a b
gathered_is n from to kind x y a b r e f g = rw (← f, ← g) e

pub unnamed_is : (n kind : ℕ) (x y : SideNumbers) (r : List ℕ) → r ≡ n ∷ 0 ∷ (0 - 0) ∷ kind_and_sides kind x y → x ≡ no_side → y ≡ no_side → r ≡ n ∷ 0 ∷ 0 ∷ kind_and_sides kind no_side no_side
unnamed_is n kind x y r e f g = gathered_is n 0 0 kind x y no_side no_side r e f g

-- ---- an answer

module _ (tape : List ℕ) (place : ℕ) (r : Result Print Refusal) (out : List ℕ) (e : r ≡ read_at tape place) where
  pub refused : (x : Refusal) → r ≡ Err x → out ≡ 0 ∷ 0 ∷ 0 ∷ kind_and_sides 0 no_side no_side → out ≡ numbers_at tape place
  unfolding numbers_at numbers_of length_of name_from name_length fact_in fact_numbers
  refused x k h = rw (← e, k) h

  module _ (print : Print) (o : r ≡ Ok print) where
    pub announced : (n : ℕ) → print ≡ Announcement n → out ≡ n ∷ 0 ∷ 0 ∷ kind_and_sides 65 no_side no_side → out ≡ numbers_at tape place
    unfolding numbers_at numbers_of length_of name_from name_length fact_in fact_numbers
    announced n k h = rw (← e, o, k) h

    module _ (p : PrintRead) where
      pub traded : print ≡ Trade p → out ≡ p.length ∷ p.from ∷ (p.to - p.from) ∷ kind_and_sides 84 (part_numbers (part_in p.side)) no_side → out ≡ numbers_at tape place
      unfolding numbers_at numbers_of length_of name_from name_length fact_in fact_numbers part_numbers volume_number
      traded k h = rw (← e, o, k) h

      pub cancelled : print ≡ Cancel p → out ≡ p.length ∷ p.from ∷ (p.to - p.from) ∷ kind_and_sides 88 (part_numbers (part_in p.side)) no_side → out ≡ numbers_at tape place
      unfolding numbers_at numbers_of length_of name_from name_length fact_in fact_numbers
      cancelled k h = rw (← e, o, k) h

      pub erred : print ≡ Error p → out ≡ p.length ∷ p.from ∷ (p.to - p.from) ∷ kind_and_sides 69 (part_numbers (part_in p.side)) no_side → out ≡ numbers_at tape place
      unfolding numbers_at numbers_of length_of name_from name_length fact_in fact_numbers
      erred k h = rw (← e, o, k) h

    pub corrected : (p : CorrectionRead) → print ≡ Correction p → out ≡ p.length ∷ p.from ∷ (p.to - p.from) ∷ kind_and_sides 67 (part_numbers (part_in p.original)) (part_numbers (part_in p.correcting)) → out ≡ numbers_at tape place
    unfolding numbers_at numbers_of length_of name_from name_length fact_in fact_numbers
    corrected p k h = rw (← e, o, k) h

pub ruleset arms = (announced, refused, traded, cancelled, erred, corrected)
