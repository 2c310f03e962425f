-- A tape that is read in blocks, each call where the one before it stopped. Assumes nothing.
use Rattle.std.specs.Prelude.{ℕ, ◌+◌, ◌≡◌, Bool, true, false, List, [], ◌++◌, drop}
use Rattle.read_tape.specs.Tape.{Line}
use Rattle.read_tape.specs.Block.{block_read}

-- the rest s of a tape, from a place on, and the text of all calls joined: any blocks, any room for lines; a call is told that the tape has ended only where nothing follows its block
pub data Pieces (line : Line) (most : ℕ) : List ℕ → ℕ → List ℕ → Type 0 where
  -- the tape is read to its end
  over : (place : ℕ) → Pieces line most [] place []
  -- the last call: after a refusal, or above the last place
  last : (room : ℕ) (block t : List ℕ) (place : ℕ) (ended : Bool) → (ended ≡ true → t ≡ []) → (block_read line most room block place ended).going ≡ false → Pieces line most (block ++ t) place (block_read line most room block place ended).text
  -- a call, and those after it
  call : (room : ℕ) (block t : List ℕ) (place : ℕ) (ended : Bool) (text : List ℕ) → (ended ≡ true → t ≡ []) → (block_read line most room block place ended).going ≡ true → Pieces line most (drop (block_read line most room block place ended).at (block ++ t)) (place + (block_read line most room block place ended).at) text → Pieces line most (block ++ t) place ((block_read line most room block place ended).text ++ text)
