-- A SESSION: reads and steps of one program over a tape, from where it stands to its end. Each link is what a read may do and what a step promises. Assumes nothing.
use Rattle.std.specs.Prelude.{ℕ, suc, ◌≤◌, ◌<◌, ◌≡◌, Bool, true, false, not, List, ◌++◌, length, take}
use Rattle.feed_input.specs.Place.{Answer, Within}
use Rattle.feed_input.specs.Answers.{Answers}
use Rattle.read_tape.specs.Tape.{Line}
use Rattle.read_step.specs.declared.Standing.{Standing}
use Rattle.read_step.specs.declared.Stepped.{Stepped}
use Rattle.read_step.specs.Step.{Steps}

-- from where it stands and its block, `input` is read and `output` is written, each step's text; it is whole unless a read failed
pub data Session (line : Line) (most : ℕ) : Standing → List ℕ → List ℕ → Bool → List ℕ → Type 0 where
  next : {s : Standing} {block bytes block' block'' lines lines' input output : List ℕ} {answer : Answer} {r : Stepped} {whole : Bool} → most ≤ length lines → Answers s.place block bytes answer block' → Steps line most s answer block' lines block'' lines' r → r.over ≡ false
      → Session line most r.standing block'' input whole output → Session line most s block (bytes ++ input) whole (take r.count lines' ++ output)
  last : {s : Standing} {block bytes block' block'' lines lines' : List ℕ} {answer : Answer} {r : Stepped} → most ≤ length lines → Answers s.place block bytes answer block' → Steps line most s answer block' lines block'' lines' r → r.over ≡ true
      → Session line most s block bytes (not r.standing.place.failed) (take r.count lines')

-- how many steps it has
unfoldable pub turns : {line : Line} {most : ℕ} {s : Standing} {block input output : List ℕ} {whole : Bool} → Session line most s block input whole output → ℕ
turns (next room a st o s) = suc (turns s)
turns (last room a st o) = 1

-- where it stood at its end
unfoldable pub final : {line : Line} {most : ℕ} {s : Standing} {block input output : List ℕ} {whole : Bool} → Session line most s block input whole output → Standing
final (next room a st o s) = final s
final (last {r = r} room a st o) = r.standing

-- wherever it asked for a read, its block had room for a byte: a read that brings none is the input's end
unfoldable pub HasRoom : {line : Line} {most : ℕ} {s : Standing} {block input output : List ℕ} {whole : Bool} → Session line most s block input whole output → Type 0
HasRoom {s = s} {block = block} (next room a st o x) = (s.place.asks ≡ true → s.place.have < length block) × HasRoom x
HasRoom {s = s} {block = block} (last room a st o) = s.place.asks ≡ true → s.place.have < length block

-- what a program promises of a turn, a read and a step behind it: they are links of a session, for some bytes (which, no contract of a call to the system can say); the next turn may follow, and what is to be written lies in the lines
pub record Turn (line : Line) (most : ℕ) (s : Standing) (block lines block'' lines' : List ℕ) (r : Stepped) : Type 0 where
  pub bytes : List ℕ
  pub answer : Answer
  pub block' : List ℕ
  pub answers : Answers s.place block bytes answer block'
  pub steps : Steps line most s answer block' lines block'' lines' r
  pub within : Within r.standing.place (length block'')
  pub count : r.count ≤ length lines'
