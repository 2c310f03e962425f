-- What the reader gives at a print with `rest` behind it. Assumes nothing.
use Rattle.std.specs.Prelude.{ℕ, ◌≡◌, List, ◌++◌, length}
use Rattle.std.proofs.Math.Option.{some}
use Rattle.rules.specs.NormalPrint.{ReadFact}
use Rattle.reader.specs.Read.{read_at}
use Rattle.reader.specs.Told.{length_of, name_at, fact_in}

-- its length, its name and its facts
pub record Back (text name rest : List ℕ) (fact : ReadFact) : Type 0 where
  pub length_back : length_of (read_at (text ++ rest) 0) ≡ length text
  pub name_back : name_at (text ++ rest) 0 ≡ name
  pub fact_back : fact_in (text ++ rest) (read_at (text ++ rest) 0) ≡ some fact
