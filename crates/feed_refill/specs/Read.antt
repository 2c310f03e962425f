-- A read of standard input, as a link of a session; and what it took of a reader whose bytes are known. Assumes nothing.
use Rattle.std.specs.Prelude.{ℕ, ◌<◌, ◌≡◌, Bool, true, false, List, Ok, Err, length, take}
use Rattle.std.specs.Io.KnownBytes.{Keeps, Consumes, IsAtEnd}
use Rattle.std.specs.declared.option.Option.{Option}
use Rattle.feed_input.specs.Place.{Answer}
use Rattle.feed_input.specs.Answers.{Answers}
use Rattle.feed_input.specs.declared.Place.{Place}

-- some bytes came, as many as the answer says; which, no contract of a call to the system can say
pub record Reading (p : Place) (block block' : List ℕ) (answer : Answer) : Type 0 where
  pub bytes : List ℕ
  pub answers : Answers p block bytes answer block'

-- what was known of a reader's bytes, and is: as many as the answer says are taken, and stand now at the front of the room behind what was held; none are where none were asked for or the read failed, nor else but at their end or for want of room
abbrev pub Taken : (asks : Bool) → Answer → Option (List ℕ) → Option (List ℕ) → List ℕ → Type 0
Taken false answer known known' room = Keeps known known'
Taken true (Ok n) known known' room = Consumes known known' (take n room) × (n ≡ 0 → 0 < length room → IsAtEnd known')
Taken true (Err f) known known' room = Keeps known known'
