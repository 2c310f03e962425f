-- DEMAND 3: two lists of calls, each from a fresh state, with equal tapes, show the same facts. Assumes nothing.
use Rattle.std.specs.Prelude.{ℕ, ◌≡◌, Bool, true, false, ◌&&◌, List, [], ◌∷◌, ◌++◌, map, eqb}
use Rattle.std.proofs.Math.Option.{none, some}
use Rattle.text.specs.Pick.{pick, member}
use Rattle.rules.specs.Columns.{column}
use Rattle.rules.specs.Day.{Day, Call, opened, fresh, refusal_of, after}
use Rattle.rules.specs.Shown.{shown}
use Rattle.rules.specs.Premise.{Premise}
use Rattle.claim_calls.specs.Run.{State, Sized, Lent, Run, call_of}
use Rattle.claim_wholeday.specs.Decodes.{tape}

-- the call's line is accepted
unfoldable pub accepts : Day → Call → Bool
accepts day c = elim (refusal_of day c.line c.room) [ some r ↦ false | none ↦ true ]

-- the accepted lines of a kind, in order
unfoldable pub accepted_of : ℕ → Day → List Call → List (List ℕ)
accepted_of kind day [] = []
accepted_of kind day (c ∷ cs) = pick (accepts day c && eqb (column 1 c.line) kind) (c.line ∷ []) [] ++ accepted_of kind (after day c) cs

-- D lines and S lines
abbrev pub date_lines : List Call → List (List ℕ)
date_lines cs = accepted_of 68 fresh cs

abbrev pub security_lines : List Call → List (List ℕ)
security_lines cs = accepted_of 83 fresh cs

-- what demand 3 asks of the two lists: exactly one accepted date line in each, the same; the same accepted security lines, as sets; the premise on both; equal tapes
pub record Alike (cs ks : List Call) : Type 0 where
  pub date : List ℕ
  pub one_date : date_lines cs ≡ date ∷ []
  pub same_date : date_lines ks ≡ date ∷ []
  pub same_securities : (line : List ℕ) → member line (security_lines cs) ≡ member line (security_lines ks)
  pub premise : Premise fresh cs
  pub other_premise : Premise fresh ks
  pub same_tape : tape fresh cs ≡ tape fresh ks

-- the claim
abbrev pub WholeDay : Type 0
WholeDay = (cs ks : List Call) → Alike cs ks → shown fresh cs ≡ shown fresh ks

-- ---- the same of two runs of the engine: each from a fresh state with tables of any contents, each call with its own line and its own lent tape

abbrev pub calls_of : List Lent → List Call
calls_of cs = map call_of cs

pub record RunsAlike (cs ks : List Lent) (out put : List ℕ) : Type 0 where
  pub date : List ℕ
  pub one_date : date_lines (calls_of cs) ≡ date ∷ []
  pub same_date : date_lines (calls_of ks) ≡ date ∷ []
  pub same_securities : (line : List ℕ) → member line (security_lines (calls_of cs)) ≡ member line (security_lines (calls_of ks))
  pub premise : Premise fresh (calls_of cs)
  pub other_premise : Premise fresh (calls_of ks)
  pub same_tape : out ≡ put

abbrev pub WholeDayRuns : Type 0
WholeDayRuns =
    (s e t f : State) (cs ks : List Lent) (out put : List ℕ)
    → s.settings ≡ opened 0 → Sized s → Run s cs e out
    → t.settings ≡ opened 0 → Sized t → Run t ks f put
    → RunsAlike cs ks out put
    → shown fresh (calls_of cs) ≡ shown fresh (calls_of ks)
