-- Lists of calls of the engine, each on the state that the last one left, and what the rules say of them. Assumes nothing.
use Rattle.std.specs.Prelude.{ℕ, ◌≡◌, List, [], ◌∷◌, ◌++◌, length, take}
use Rattle.call_table.specs.Sizes.{table_size, names_size}
use Rattle.rules.specs.Day.{Day, Call, opened, fresh, tape_of, after}
use Rattle.rules.specs.declared.Settings.{Settings}
use Rattle.call_table.specs.Rows.{day_of}
use Rattle.engine.specs.declared.Answer.{Answer}
use Rattle.engine.specs.Taken.{Taken, count_of}

-- what a call finds and leaves: settings by value, two lent tables
pub record State : Type 0 where
  pub settings : Settings
  pub table : List ℕ
  pub names : List ℕ

-- the tables have their sizes
pub record Sized (s : State) : Type 0 where
  pub rows : length s.table ≡ table_size
  pub places : length s.names ≡ names_size

-- what a call is lent beside them: a line and a tape, of any bytes and any length
pub record Lent : Type 0 where
  pub line : List ℕ
  pub tape : List ℕ

-- from the first state the calls lead to the second, and their prints, joined, are the tape. A link is what `take_line` ensures
pub data Run : State → List Lent → State → List ℕ → Type 0 where
  done : {s : State} → Run s [] s []
  call : {s m e : State} {c : Lent} {cs : List Lent} {b out : List ℕ} {r : Answer} → Taken s.settings s.table s.names c.line c.tape m.table m.names b r → r.settings ≡ m.settings → Run m cs e out → Run s (c ∷ cs) e (take (count_of r.outcome) b ++ out)

-- ---- by the rules

abbrev pub call_of : Lent → Call
call_of c = record { line = c.line; room = length c.tape }

-- a list's tape is its prints joined in order
unfoldable pub tape_from : Day → List Lent → List ℕ
tape_from day [] = []
tape_from day (c ∷ cs) = tape_of day (call_of c) ++ tape_from (after day (call_of c)) cs

unfoldable pub day_from : Day → List Lent → Day
day_from day [] = day
day_from day (c ∷ cs) = day_from (after day (call_of c)) cs

-- the state holds the day: its tables do, or no date line was accepted yet, and then they may hold anything
pub data Holds (s : State) (day : Day) : Type 0 where
  held : day_of s.settings s.table s.names ≡ day → Holds s day
  undated : s.settings ≡ opened 0 → day ≡ fresh → Holds s day
