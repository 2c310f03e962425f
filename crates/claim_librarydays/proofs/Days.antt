-- A list of calls of the library is a run of the engine. Assumes nothing.
use Prim.Native.Nat.{ℕ}
use mathlib.Core.Path.{◌≡◌, refl, ap, ◌∙◌}
use mathlib.Core.List.{List}
use Rattle.rules.specs.Day.{opened}
use Rattle.claim_calls.specs.Run.{Sized, Lent, Run}
use Rattle.claim_calls.specs.Run.Run.{done, call}
use Rattle.claim_wholeday.proofs.WholeDay.{whole_day_runs}
use Rattle.claim_normalday.proofs.Back.{normal_run}
use Rattle.exports.specs.Numbers.{settings_of}
use Rattle.exports.proofs.Calls.{settings_back, as_call}
use Rattle.claim_librarydays.specs.Claim.{Memory, state_of, Calls, Fresh, WholeDayCalls, NormalCalls}
use Rattle.claim_librarydays.specs.Claim.Calls.{ended, called}

pub as_run : {s e : Memory} {cs : List Lent} {out : List ℕ} → Calls s cs e out → Run (state_of s) cs (state_of e) out
as_run ended = done
as_run (called t rest) = rw t.count_is (call (as_call _ _ _ _ _ _ _ _ _ _ _ t) refl (as_run rest))

module _ (s : Memory) (h : Fresh s) where
  opened_at : (state_of s).settings ≡ opened 0
  opened_at = ap settings_of h.settings_are ∙ settings_back (opened 0)

  sized : Sized (state_of s)
  sized = record { rows = h.rows; places = h.places }

pub whole_day_calls : WholeDayCalls
whole_day_calls s e t f cs ks out put a r b q h = whole_day_runs (state_of s) (state_of e) (state_of t) (state_of f) cs ks out put (opened_at s a) (sized s a) (as_run r) (opened_at t b) (sized t b) (as_run q) h

pub normal_calls : NormalCalls
normal_calls s e cs out a r h = normal_run (state_of s) (state_of e) cs out (opened_at s a) (sized s a) (as_run r) h
