-- What is read of a block, the front of the rest of a tape, and the lines that are written of it. Assumes nothing.
use Rattle.std.specs.Prelude.{ℕ, zero, suc, ◌+◌, ◌-◌, ◌≡◌, Bool, true, false, ◌&&◌, ◌||◌, List, [], ◌++◌, leb, length, drop}
use Rattle.text.specs.Put.{Written}
use Rattle.rules.specs.Sizes.{longest_print}
use Rattle.reader.specs.Read.{read_at}
use Rattle.reader.specs.Told.{length_of}
use Rattle.read_tape.specs.Tape.{Line}
use Rattle.read_tape.specs.declared.Reading.{Reading}

-- where the reading of a block stands: the bytes that are read, the lines so far, and whether it goes on (not after a refusal, not above the last place)
pub record Progress : Type 0 where
  pub at : ℕ
  pub text : List ℕ
  pub going : Bool

-- the block begins at a place of the tape
abbrev pub started : ℕ → Progress
started place = record { at = 0; text = []; going = leb place 9999999999 }

-- a print is read: its line is written
unfoldable pub print_read : Line → List ℕ → ℕ → Progress → Progress
print_read line block place p =
    let n = length_of (read_at block p.at) in
    record {
      at = p.at + n;
      text = p.text ++ line (place + p.at) (drop p.at block);
      going = leb 1 n && leb (place + p.at + n) 9999999999;
    }

-- a print is read where `left` bytes of the block are left: at least one, and `longest_print` unless the tape ends with the block; and where there is room for a line of the most bytes
unfoldable pub may_read : ℕ → ℕ → Bool → ℕ → Bool
may_read most left ended room = leb 1 left && (leb most room && (ended || leb longest_print left))

-- at most k prints, one behind the other
unfoldable pub block_from : Line → ℕ → ℕ → ℕ → List ℕ → ℕ → Bool → Progress → Progress
block_from line most zero room block place ended p = p
block_from line most (suc k) room block place ended p = elim (p.going && may_read most (length block - p.at) ended (room - length p.text)) [ true ↦ block_from line most k room block place ended (print_read line block place p) | false ↦ p ]

-- a block, lent `room` bytes for lines
unfoldable pub block_read : Line → ℕ → ℕ → List ℕ → ℕ → Bool → Progress
block_read line most room block place ended = block_from line most (length block) room block place ended (started place)

-- ---- the promise of a block's reading and of each step: the answer, and the lent lines at exit, which held `lines₀` at the start
pub record Stands (lines₀ : List ℕ) (p : Progress) (lines : List ℕ) (r : Reading) : Type 0 where
  pub at_is : r.at ≡ p.at
  pub going_is : r.going ≡ p.going
  pub lines_are : Written p.text lines₀ lines r.written

-- a step from wherever the reading stands
abbrev pub Steps : Line → List ℕ → ℕ → List ℕ → Reading → List ℕ → Reading → Type 0
Steps line block place lines r lines' r' = (lines₀ : List ℕ) (p : Progress) → Stands lines₀ p lines r → Stands lines₀ (print_read line block place p) lines' r'
