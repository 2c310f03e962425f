-- A tape of normal prints, and what is read of a tape print after print. Assumes nothing.
use Rattle.std.specs.Prelude.{ℕ, zero, suc, List, [], ◌∷◌, ◌++◌, take, drop}
use Rattle.std.proofs.Math.Option.{none, some}
use Rattle.rules.specs.NormalPrint.{ReadFact, NormalPrint}
use Rattle.reader.specs.Read.{read_at}
use Rattle.reader.specs.Told.{length_of, name_at, fact_in}

-- a print: its text, its name, its facts
pub record Reading : Type 0 where
  pub text : List ℕ
  pub name : List ℕ
  pub fact : ReadFact

-- normal prints one behind the other, and nothing else
pub data Prints : List ℕ → List Reading → Type 0 where
  blank : Prints [] []
  onward : (text name rest : List ℕ) (fact : ReadFact) (l : List Reading) → NormalPrint text name fact → Prints rest l → Prints (text ++ rest) (record { text = text; name = name; fact = fact } ∷ l)

-- one print after the other, at most k, up to the tape's end or the first place where none begins
unfoldable pub readings : ℕ → List ℕ → List Reading
readings zero s = []
readings (suc k) [] = []
readings (suc k) (c ∷ s) =
    elim (fact_in (c ∷ s) (read_at (c ∷ s) 0)) [
      | none ↦ []
      | some f ↦ record { text = take (length_of (read_at (c ∷ s) 0)) (c ∷ s); name = name_at (c ∷ s) 0; fact = f } ∷ readings k (drop (length_of (read_at (c ∷ s) 0)) (c ∷ s))
    ]
