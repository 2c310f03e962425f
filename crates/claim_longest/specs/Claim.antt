-- THE CLAIM (document 01, "Reader"): the answer at a place is the longest normal print there. Assumes nothing.
use Rattle.std.specs.Prelude.{ℕ, ◌≤◌, ◌≡◌, List, ◌++◌, length, take, drop}
use Rattle.std.proofs.Math.Option.{none, some}
use Rattle.rules.specs.NormalPrint.{ReadFact, NormalPrint}
use Rattle.reader.specs.Read.{read_at}
use Rattle.reader.specs.Told.{length_of, name_at, fact_in}

pub record Longest (tape : List ℕ) (place : ℕ) : Type 0 where
  -- facts are told of a normal print of that length, with that name
  pub told : (fact : ReadFact) → fact_in (drop place tape) (read_at tape place) ≡ some fact → NormalPrint (take (length_of (read_at tape place)) (drop place tape)) (name_at tape place) fact
  -- no longer one begins there
  pub longest : (text name rest : List ℕ) (fact : ReadFact) → NormalPrint text name fact → drop place tape ≡ text ++ rest → length text ≤ length_of (read_at tape place)
  -- it refuses exactly where none begins
  pub refused : fact_in (drop place tape) (read_at tape place) ≡ none → (text name rest : List ℕ) (fact : ReadFact) → NormalPrint text name fact → drop place tape ≡ text ++ rest → ⊥
