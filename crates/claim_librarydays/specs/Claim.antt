-- Lists of calls of `lekphimon_take_line`, each on the memory that the last one left, and DEMAND 3 of them. Assumes nothing.
use Rattle.std.specs.Prelude.{ℕ, ◌≡◌, List, [], ◌∷◌, ◌++◌, length, take}
use Rattle.call_table.specs.Sizes.{table_size, names_size}
use Rattle.rules.specs.Day.{opened, fresh}
use Rattle.rules.specs.Shown.{shown}
use Rattle.claim_calls.specs.Run.{State, Lent}
use Rattle.claim_wholeday.specs.Claim.{calls_of, RunsAlike}
use Rattle.claim_normalday.specs.Prints.{InNormal}
use Rattle.claim_normalday.specs.Claim.{ReadBack}
use Rattle.exports.specs.Numbers.{numbers_of, settings_of, TakenNumbers}

-- what a call is lent as its state: four numbers and two tables
pub record Memory : Type 0 where
  pub settings : List ℕ
  pub table : List ℕ
  pub names : List ℕ

-- the engine's state that it is
abbrev pub state_of : Memory → State
state_of m = record { settings = settings_of m.settings; table = m.table; names = m.names }

-- from the first memory the calls lead to the second, and their prints, joined, are the tape. A link is what `lekphimon_take_line` ensures
pub data Calls : Memory → List Lent → Memory → List ℕ → Type 0 where
  ended : {s : Memory} → Calls s [] s []
  called : {s m e : Memory} {c : Lent} {cs : List Lent} {b out : List ℕ} {count answer : ℕ} → TakenNumbers s.settings s.table s.names c.line c.tape m.settings m.table m.names b count answer → Calls m cs e out → Calls s (c ∷ cs) e (take count b ++ out)

-- what `lekphimon_fresh` leaves, beside tables of their sizes and any contents
pub record Fresh (s : Memory) : Type 0 where
  pub settings_are : s.settings ≡ numbers_of (opened 0)
  pub rows : length s.table ≡ table_size
  pub places : length s.names ≡ names_size

-- demand 3
abbrev pub WholeDayCalls : Type 0
WholeDayCalls =
    (s e t f : Memory) (cs ks : List Lent) (out put : List ℕ) → Fresh s → Calls s cs e out → Fresh t → Calls t ks f put → RunsAlike cs ks out put
    → shown fresh (calls_of cs) ≡ shown fresh (calls_of ks)

-- the tape of a day in normal mode is read back
abbrev pub NormalCalls : Type 0
NormalCalls = (s e : Memory) (cs : List Lent) (out : List ℕ) → Fresh s → Calls s cs e out → InNormal fresh (calls_of cs) → ReadBack cs out
