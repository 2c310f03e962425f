-- An answer of the reader that is not 0. Assumes nothing.
use Prim.Native.Nat.{ℕ, ◌≤◌}
use native.Mathlib.Omega.{arith}
use mathlib.Core.Path.{◌≡◌, refl, ap}
use mathlib.Core.List.{List}
use lib.ListN.{drop}
use Rattle.std.specs.Prelude.{Result, Ok, Err}
use Rattle.rules.specs.Refusal.{number_of}
use Rattle.rules.specs.declared.Refusal.{Refusal}
use Rattle.reader.specs.Read.{read_at}
use Rattle.reader.specs.Told.{answer_number, length_of, name_from, name_length, fact_in}
use Rattle.read_numbers.specs.Numbers.{fact_numbers, numbers_of, numbers_at}
use Rattle.reader.proofs.Numbers.{refused_by}
use Rattle.reader.specs.declared.Print.{Print}
use Rattle.exports.specs.Reading.{ReadNumbers, Unread}

module _ (tape : List ℕ) (place : ℕ) where
  -- by the answer r
  unread_by : (r : Result Print Refusal) → read_at tape place ≡ r → 1 ≤ answer_number r → Unread tape place (numbers_of (drop place tape) r) (answer_number r)
  unfolding number_of numbers_of length_of name_from name_length fact_in fact_numbers
  unread_by (Ok print) e h = absurd (omega arith)
  unread_by (Err r) e h = record {
    answer_is = refused_by tape place r e;
    numbers_are = refl;
    facts_are = ap (fact_in (drop place tape)) e;
  }

  pub not_read : (numbers' : List ℕ) (answer : ℕ) → ReadNumbers tape place numbers' answer → 1 ≤ answer → Unread tape place numbers' answer
  unfolding numbers_at
  not_read numbers' answer t h = rw (t.numbers_are, t.answer_is) (unread_by (read_at tape place) refl (rw t.answer_is at h))
