-- The reader at a place, as numbers. Assumes nothing.
use Rattle.std.specs.Prelude.{ℕ, ◌≡◌, List, replicate, drop}
use Rattle.std.proofs.Math.Option.{none}
use Rattle.reader.specs.Read.{read_at}
use Rattle.reader.specs.Told.{answer_number, fact_in}
use Rattle.read_numbers.specs.Numbers.{numbers_at}

pub record ReadNumbers (tape : List ℕ) (place : ℕ) (numbers' : List ℕ) (answer : ℕ) : Type 0 where
  pub numbers_are : numbers' ≡ numbers_at tape place
  pub answer_is : answer ≡ answer_number (read_at tape place)

-- what every answer but 0 says (proofs/Places, `not_read`): refusal 14, no numbers, and no facts, so that no normal print begins there (longest, `longest_print_lem`)
pub record Unread (tape : List ℕ) (place : ℕ) (numbers' : List ℕ) (answer : ℕ) : Type 0 where
  pub answer_is : answer ≡ 14
  pub numbers_are : numbers' ≡ replicate 14 0
  pub facts_are : fact_in (drop place tape) (read_at tape place) ≡ none
