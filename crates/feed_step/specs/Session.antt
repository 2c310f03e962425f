-- A SESSION: the reads and steps of a program that takes a day file, in any order that its answers allow, to its last step. A read brings any bytes, as many as there is room for, or none at the input's end, or it fails; each link is what a step promises. Assumes nothing.
use Rattle.std.specs.Prelude.{ℕ, suc, ◌≤◌, ◌≡◌, Bool, true, false, not, List, ◌++◌, length, take}
use Rattle.feed_gather.specs.Gather.{Program}
use Rattle.feed_input.specs.Answers.{Answers}
use Rattle.feed_input.specs.Place.{Answer, Within}
use Rattle.feed_step.specs.Step.{Steps}
use Rattle.feed_step.specs.declared.Standing.{Standing}
use Rattle.feed_step.specs.declared.Stepped.{Stepped}

-- one turn: a read, where one is asked for, and a step, lent room for what is told of a line at least
pub record Turn (g : Program) (s : Standing) (table names block bytes : List ℕ) (out err : List ℕ) (table' names' block' : List ℕ) (r : Stepped) : Type 0 where
  pub answer : Answer
  pub read : List ℕ
  pub lent_out : List ℕ
  pub lent_err : List ℕ
  pub told_out : List ℕ
  pub told_err : List ℕ
  pub answers : Answers s.place block bytes answer read
  pub steps : Steps g s answer table names read lent_out lent_err table' names' block' told_out told_err r
  pub out_room : g.out_most ≤ length lent_out
  pub err_room : g.err_most ≤ length lent_err
  -- what is written
  pub out_is : out ≡ take r.out told_out
  pub err_is : err ≡ take r.err told_err

-- from where a program stands, its tables and its block: `input` is read; `whole` is whether it came to its end, and did not break off by a failed read; `out` and `err` are written, all turns joined
pub data Session (g : Program) : Standing → List ℕ → List ℕ → List ℕ → List ℕ → Bool → List ℕ → List ℕ → Type 0 where
  next : {s : Standing} {table names block bytes out err table' names' block' input out' err' : List ℕ} {whole : Bool} {r : Stepped} → Turn g s table names block bytes out err table' names' block' r → r.over ≡ false
      → Session g r.standing table' names' block' input whole out' err' → Session g s table names block (bytes ++ input) whole (out ++ out') (err ++ err')
  last : {s : Standing} {table names block bytes out err table' names' block' : List ℕ} {r : Stepped} → Turn g s table names block bytes out err table' names' block' r → r.over ≡ true
      → Session g s table names block bytes (not r.standing.place.failed) out err

-- how many turns it has
unfoldable pub turns : {g : Program} {s : Standing} {table names block input out err : List ℕ} {whole : Bool} → Session g s table names block input whole out err → ℕ
turns (next t o s) = suc (turns s)
turns (last t o) = 1

-- ---- what a program promises of a turn: a read, for some bytes, and a step with what it lends
pub record Turned (g : Program) (s : Standing) (table names block out err table' names' block' out' err' : List ℕ) (r : Stepped) : Type 0 where
  pub bytes : List ℕ
  pub answer : Answer
  pub read : List ℕ
  pub answers : Answers s.place block bytes answer read
  pub steps : Steps g s answer table names read out err table' names' block' out' err' r
  pub within : Within r.standing.place (length block')
  pub out_fits : r.out ≤ length out'
  pub err_fits : r.err ≤ length err'
