-- One step of a program that takes a day file, whatever it tells of a line. Assumes nothing.
use Rattle.std.specs.Prelude.{ℕ, ◌+◌, ◌≡◌, Bool, true, false, List, [], ◌∷◌, leb, ltb, eqb, length, drop}
use Rattle.text.specs.Pick.{pick}
use Rattle.text.specs.Put.{Written}
use Rattle.rules.specs.Day.{opened}
use Rattle.rules.specs.declared.Settings.{Settings}
use Rattle.feed_blocks.specs.Lines.{line_end}
use Rattle.feed_gather.specs.Gather.{last_line, Program, Progress, started, lines_taken, block_taken}
use Rattle.feed_gather.specs.declared.Fed.{Fed}
use Rattle.feed_input.specs.Place as input
use Rattle.feed_input.specs.Place.{Answer, held, taken_in, gone_on, block_on}
use Rattle.feed_input.specs.declared.Place.{Place}
use Rattle.feed_step.specs.declared.Standing.{Standing}
use Rattle.feed_step.specs.declared.Stepped.{Stepped}
use Rattle.feed_step.specs.declared.Way.{Way}
use Rattle.feed_step.specs.declared.Way.TheVariants.{Lines, Line, Pass, Stop}

-- before the first read: a fresh state, the first line
unfoldable pub opening : Standing
opening = record { place = input.opening; settings = opened 0; number = 1; passing = false }

-- ---- the way of a step, where `n` bytes are held and their first line feed stands at `end` (`n`, where they have none)

-- a line longer than the block is being passed over: at its line feed, or at the input's end, an empty line stands for it
unfoldable pub long_way : Bool → ℕ → ℕ → Way
long_way ended end n = pick (ltb end n) (Line n (end + 1)) (pick ended (Line n n) (Pass n))

-- lines that a line feed ends; at the input's end what is left is a line, if it has a byte; a block of `size` bytes without a line feed is the front of a longer line; otherwise more is to be read
unfoldable pub lines_way : Bool → ℕ → ℕ → ℕ → Way
lines_way ended end n size = pick (ltb end n) Lines (pick ended (pick (eqb n 0) Stop (Line 0 n)) (pick (leb size n) (Pass n) (Pass 0)))

-- nothing more is taken after a failed read, and behind the last line
unfoldable pub way_of : Bool → Place → ℕ → ℕ → List ℕ → Way
way_of passing p number size u =
    pick p.failed Stop (pick (ltb last_line number) Stop
    (pick passing (long_way p.ended (line_end u 0) (length u)) (lines_way p.ended (line_end u 0) (length u) size)))

-- ---- what it asks for

-- the place in the held bytes where its line begins
unfoldable pub from_by : Way → ℕ
from_by Lines = 0
from_by (Line from used) = from
from_by (Pass used) = 0
from_by Stop = 0

-- the lines that are taken of the held bytes `u`, with `out` and `err` bytes lent for what is told
unfoldable pub taken_by : Program → ℕ → ℕ → Way → List ℕ → Progress → Progress
taken_by g out err Lines u p = block_taken g out err u p
taken_by g out err (Line from used) u p = lines_taken g out err (drop from u ∷ []) p
taken_by g out err (Pass used) u p = p
taken_by g out err Stop u p = p

-- how many of the held bytes are used, where lines used `lines`
unfoldable pub used_by : Way → ℕ → ℕ
used_by Lines lines = lines
used_by (Line from used) lines = used
used_by (Pass used) lines = used
used_by Stop lines = 0

-- a line longer than the block is passed over
unfoldable pub passing_by : Way → Bool → Bool
passing_by Lines passing = false
passing_by (Line from used) passing = false
passing_by (Pass used) passing = pick (ltb 0 used) true passing
passing_by Stop passing = passing

-- a read comes next
unfoldable pub reads_by : Way → Bool
reads_by Lines = false
reads_by (Line from used) = false
reads_by (Pass used) = true
reads_by Stop = false

-- it was the last step
unfoldable pub is_over : Way → Bool
is_over Lines = false
is_over (Line from used) = false
is_over (Pass used) = false
is_over Stop = true

-- ---- where the program then stands

abbrev pub standing_by : Bool → Place → Way → ℕ → Settings → ℕ → Standing
standing_by passing p way lines settings number = record { place = gone_on (reads_by way) p (used_by way lines); settings = settings; number = number; passing = passing_by way passing }

-- the promise of `settle`
pub record Settles (passing : Bool) (p : Place) (way : Way) (f : Fed) (block block' : List ℕ) (r : Stepped) : Type 0 where
  pub standing_is : r.standing ≡ standing_by passing p way f.at f.settings f.number
  pub block_is : block' ≡ block_on (reads_by way) p (used_by way f.at) block
  pub out_is : r.out ≡ f.out
  pub err_is : r.err ≡ f.err
  pub over_is : r.over ≡ is_over way

-- ---- THE STEP of a program: from where it stands, the answer of a read, both tables, the block and the memory lent for what is told

abbrev pub place_in : Standing → Answer → List ℕ → Place
place_in s answer block = taken_in s.place answer (length block)

abbrev pub way_in : Standing → Answer → List ℕ → Way
way_in s answer block = way_of s.passing (place_in s answer block) s.number (length block) (held (place_in s answer block) block)

abbrev pub progress_in : Program → Standing → Answer → List ℕ → List ℕ → List ℕ → ℕ → ℕ → Progress
progress_in g s answer table names block out err = taken_by g out err (way_in s answer block) (held (place_in s answer block) block) (started s.settings table names s.number)

-- the promise of a program's `step`: where it then stands, both tables, the block, what is told, and whether it was the last
pub record Steps (g : Program) (s : Standing) (answer : Answer) (table names block out err table' names' block' out' err' : List ℕ) (r : Stepped) : Type 0 where
  pub standing_is : r.standing ≡ standing_by s.passing (place_in s answer block) (way_in s answer block) (progress_in g s answer table names block (length out) (length err)).at (progress_in g s answer table names block (length out) (length err)).settings (progress_in g s answer table names block (length out) (length err)).number
  pub table_is : table' ≡ (progress_in g s answer table names block (length out) (length err)).table
  pub names_is : names' ≡ (progress_in g s answer table names block (length out) (length err)).names
  pub block_is : block' ≡ block_on (reads_by (way_in s answer block)) (place_in s answer block) (used_by (way_in s answer block) (progress_in g s answer table names block (length out) (length err)).at) block
  pub out_is : Written (progress_in g s answer table names block (length out) (length err)).out out out' r.out
  pub err_is : Written (progress_in g s answer table names block (length out) (length err)).err err err' r.err
  pub over_is : r.over ≡ is_over (way_in s answer block)
