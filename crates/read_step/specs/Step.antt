-- One step of a program over a tape (document 01, "Reader"), whatever its lines tell of a print. Assumes nothing.
use Rattle.std.specs.Prelude.{ℕ, ◌+◌, ◌≡◌, Bool, true, false, List, [], eqb, length}
use Rattle.text.specs.Pick.{pick}
use Rattle.text.specs.Put.{Written}
use Rattle.feed_input.specs.declared.Place.{Place}
use Rattle.feed_input.specs.Place.{Answer, opening, held, taken_in, gone_on, block_on}
use Rattle.read_tape.specs.declared.Reading.{Reading}
use Rattle.read_tape.specs.Tape.{Line}
use Rattle.read_tape.specs.Block.{Progress, block_read}
use Rattle.read_step.specs.declared.Standing.{Standing}
use Rattle.read_step.specs.declared.Stepped.{Stepped}

-- before the first read, at the tape's front
abbrev pub opened : Standing
opened = record { place = opening; at = 0 }

-- ---- behind the reading of what is held, of which `n` bytes are read

-- it is the last step: the reading goes on no more, or nothing was read and the input is at its end
unfoldable pub is_over : Bool → ℕ → Bool → Bool
is_over going n ended = pick going (pick (eqb n 0) ended false) true

-- after the last step nothing moves; else the bytes that are read are used, and where none was, a read comes next
unfoldable pub standing_on : Bool → Place → ℕ → ℕ → Standing
standing_on over p at n = pick over (record { place = p; at = at }) (record { place = gone_on (eqb n 0) p n; at = at + n })

unfoldable pub block_over : Bool → Place → ℕ → List ℕ → List ℕ
block_over over p n block = pick over block (block_on (eqb n 0) p n block)

-- ---- the step

-- where it leads, the text that it hands out, whether it was the last, and the block then
pub record Step : Type 0 where
  pub standing : Standing
  pub text : List ℕ
  pub over : Bool
  pub block : List ℕ

-- a read failed: nothing more is told
abbrev pub failing : Place → ℕ → List ℕ → Step
failing p at block = record { standing = record { place = p; at = at }; text = []; over = true; block = block }

-- the reading `b` of what is held
abbrev pub telling : Place → ℕ → List ℕ → Progress → Step
telling p at block b =
    record {
      standing = standing_on (is_over b.going b.at p.ended) p at b.at;
      text = b.text;
      over = is_over b.going b.at p.ended;
      block = block_over (is_over b.going b.at p.ended) p b.at block;
    }

-- from the place that a read left
unfoldable pub step_from : Line → ℕ → Place → ℕ → List ℕ → ℕ → Step
step_from line most p at block room = pick p.failed (failing p at block) (telling p at block (block_read line most room (held p block) at p.ended))

-- THE STEP: the answer of a read is taken in, and the prints of what is held are told, in `room` bytes for lines
unfoldable pub step_of : Line → ℕ → Standing → Answer → List ℕ → ℕ → Step
step_of line most s answer block room = step_from line most (taken_in s.place answer (length block)) s.at block room

-- ---- the promises: the block and the lent lines were `block` and `lines`, and are `block'` and `lines'`

-- `go_further`
pub record Further (p : Place) (at : ℕ) (r : Reading) (block block' : List ℕ) (s : Stepped) : Type 0 where
  pub standing_is : s.standing ≡ standing_on (is_over r.going r.at p.ended) p at r.at
  pub over_is : s.over ≡ is_over r.going r.at p.ended
  pub block_is : block' ≡ block_over (is_over r.going r.at p.ended) p r.at block
  pub count_is : s.count ≡ r.written

-- a step that leads where `x` says
pub record Leads (x : Step) (lines block' lines' : List ℕ) (r : Stepped) : Type 0 where
  pub standing_is : r.standing ≡ x.standing
  pub over_is : r.over ≡ x.over
  pub block_is : block' ≡ x.block
  pub text_is : Written x.text lines lines' r.count

-- `step`
pub record Steps (line : Line) (most : ℕ) (s : Standing) (answer : Answer) (block lines block' lines' : List ℕ) (r : Stepped) : Type 0 where
  pub leads : Leads (step_of line most s answer block (length lines)) lines block' lines' r
