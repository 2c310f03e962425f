-- Where a program stands in its input, which is read in blocks: what is held of it, what a read answered, what is used. Assumes nothing.
use Rattle.std.specs.Prelude.{ℕ, ◌+◌, ◌-◌, ◌≤◌, min, ◌≡◌, Bool, true, false, List, eqb, Result, Ok, Err, take, drop}
use Rattle.text.specs.Pick.{pick}
use Rattle.text.specs.Put.{put}
use Rattle.feed_input.specs.declared.Place.{Place}
use Rattle.feed_input.specs.declared.ReadFailed.{ReadFailed}

-- before the first read: nothing is held, and a read comes next
abbrev pub opening : Place
opening = record { at = 0; have = 0; asks = true; ended = false; failed = false }

-- what is held lies in a block of `size` bytes
pub record Within (p : Place) (size : ℕ) : Type 0 where
  pub from_to : p.at ≤ p.have
  pub to_end : p.have ≤ size

-- the bytes that are held: read, and not yet used; those from a place on
abbrev pub held_from : Place → ℕ → List ℕ → List ℕ
held_from p at block = take (p.have - at) (drop at block)

abbrev pub held : Place → List ℕ → List ℕ
held p block = held_from p p.at block

-- ---- a read's answer: how many bytes came, or it failed

abbrev pub Answer : Type 0
Answer = Result ℕ ReadFailed

-- how many bytes came, where there was room for so many: none where the read failed
unfoldable pub came_of : Answer → ℕ → ℕ
came_of (Ok n) room = min n room
came_of (Err f) room = 0

-- the read failed
unfoldable pub is_failure : Answer → Bool
is_failure (Ok n) = false
is_failure (Err f) = true

-- what is held, within a block of `size` bytes
abbrev pub have_in : Place → ℕ → ℕ
have_in p size = min p.have size

abbrev pub at_in : Place → ℕ → ℕ
at_in p size = min p.at (have_in p size)

-- the answer of a read, where one was asked for: the bytes that came are held; none came, and the input is at its end; or it failed, and nothing more comes either. Where none was asked for, the answer does not count
unfoldable pub taken_in : Place → Answer → ℕ → Place
taken_in p answer size =
    pick p.asks
    (record {
      at = at_in p size;
      have = have_in p size + came_of answer (size - have_in p size);
      asks = false;
      ended = eqb (came_of answer (size - have_in p size)) 0;
      failed = is_failure answer;
    })
    (record { at = at_in p size; have = have_in p size; asks = false; ended = p.ended; failed = p.failed })

-- ---- what is used

-- `n` bytes are used
abbrev pub used_up : Place → ℕ → Place
used_up p n = record { at = p.at + n; have = p.have; asks = false; ended = p.ended; failed = p.failed }

-- what is held from a place on stands at the block's front, and a read comes next
abbrev pub front_from : Place → ℕ → Place
front_from p at = record { at = 0; have = p.have - at; asks = true; ended = p.ended; failed = p.failed }

-- the place and the block after a step that used `n` bytes; `reads` is whether a read comes next
unfoldable pub gone_on : Bool → Place → ℕ → Place
gone_on reads p n = pick reads (front_from p (p.at + n)) (used_up p n)

unfoldable pub block_on : Bool → Place → ℕ → List ℕ → List ℕ
block_on reads p n block = pick reads (put (held_from p (p.at + n) block) block) block

-- the promise of `go_on`
pub record GoesOn (reads : Bool) (p : Place) (n : ℕ) (block block' : List ℕ) (r : Place) : Type 0 where
  pub place_is : r ≡ gone_on reads p n
  pub block_is : block' ≡ block_on reads p n block
