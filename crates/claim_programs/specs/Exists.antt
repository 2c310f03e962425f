-- That there are sessions: what a program tells fits the memory that it is lent, and what a session of an input leaves unread. Assumes nothing.
use Rattle.std.specs.Prelude.{ℕ, ◌≤◌, ◌<◌, ◌≡◌, Bool, true, List, [], ◌++◌, length}
use Rattle.rules.specs.declared.Settings.{Settings}
use Rattle.call_table.specs.Sizes.{table_size, names_size}
use Rattle.call_table.specs.Rows.{day_of}
use Rattle.line_owed.specs.Reached.{Reached}
use Rattle.feed_gather.specs.Gather.{last_line, Program}
use Rattle.feed_step.specs.Session.{Session, next, last}
use Rattle.feed_step.specs.declared.Standing.{Standing}

-- what is told of a line fits what is left, where that is as much as the program asks for
pub record Fits (g : Program) : Type 0 where
  pub out_fits : (st : Settings) (table names : List ℕ) (number : ℕ) (line : List ℕ) (n : ℕ) → length table ≡ table_size → length names ≡ names_size → Reached (day_of st table names) → number ≤ last_line → g.out_most ≤ n → length (g.out st table names number (record { line = line; room = g.lent n })) ≤ n
  pub err_fits : (st : Settings) (table names : List ℕ) (number : ℕ) (line : List ℕ) (n k : ℕ) → length table ≡ table_size → length names ≡ names_size → Reached (day_of st table names) → number ≤ last_line → g.err_most ≤ k → length (g.err st table names number (record { line = line; room = g.lent n })) ≤ k

-- where a session ends
unfoldable pub final : {g : Program} {s : Standing} {table names block input out err : List ℕ} {whole : Bool} → Session g s table names block input whole out err → Standing
final (next t o s) = final s
final (last {r = r} t o) = r.standing

-- all is read; or the last line is behind, and reading has ended
pub data Ends (unread : List ℕ) (s : Standing) : Type 0 where
  all_read : unread ≡ [] → Ends unread s
  behind_last : last_line < s.number → Ends unread s

-- an input has a session, in which no read fails
pub record Has (g : Program) (s : Standing) (table names block input : List ℕ) : Type 0 where
  pub read : List ℕ
  pub unread : List ℕ
  pub out : List ℕ
  pub err : List ℕ
  pub whole : Bool
  pub whole_is : whole ≡ true
  pub input_is : input ≡ read ++ unread
  pub session : Session g s table names block read whole out err
  pub ends : Ends unread (final session)
