-- THE ROUND TRIP: a run of the engine in normal mode, and what the reader gives of its tape. Assumes nothing.
use Rattle.std.specs.Prelude.{◌≡◌, List, map, ℕ, length}
use Rattle.rules.specs.Day.{fresh, opened}
use Rattle.rules.specs.Shown.{shown}
use Rattle.rules.specs.NormalPrint.{read_fact}
use Rattle.claim_calls.specs.Run.{State, Sized, Lent, Run}
use Rattle.claim_wholeday.specs.Claim.{calls_of}
use Rattle.claim_longest.specs.Tape.{readings}
use Rattle.claim_normalday.specs.Prints.{printed_from, InNormal}

pub record ReadBack (cs : List Lent) (out : List ℕ) : Type 0 where
  -- the prints of the calls, in order, each with its text, its name and its facts
  pub prints : readings (length out) out ≡ printed_from fresh (calls_of cs)
  -- their facts are the shown facts
  pub facts : map (λ r. r.fact) (readings (length out) out) ≡ map read_fact (shown fresh (calls_of cs))

-- from a fresh state, with tables of any contents, each call finding the day in normal mode
abbrev pub NormalRun : Type 0
NormalRun = (s e : State) (cs : List Lent) (out : List ℕ) → s.settings ≡ opened 0 → Sized s → Run s cs e out → InNormal fresh (calls_of cs) → ReadBack cs out
