-- What each call of a list owes to a decoder: its print is undone, and what it shows is carried on. Assumes nothing.
use Rattle.std.specs.Prelude.{ℕ, zero, suc, ◌<◌, ◌≡◌, List, [], ◌∷◌, ◌++◌, length}
use Rattle.std.proofs.Math.Option.{Option, none, some}
use Rattle.rules.specs.Day.{Day, Call, tape_of, after}
use Rattle.rules.specs.Shown.{Fact, shown_by}
use Rattle.claim_decoder.specs.Carried.{Carried, carried_of, next}
use Rattle.claim_decoder.specs.Decode.{Names, there, decode}
use Rattle.claim_decoder.proofs.Fresh.{Fresh}

pub record Told (names : Names) (day e : Day) (text : List ℕ) (f : Fact) : Type 0 where
  pub follows : carried_of e ≡ next (carried_of day) f
  pub some_text : 0 < length text
  pub starts : (s : List ℕ) → Fresh (text ++ s)
  pub undone : (s : List ℕ) → Fresh s → decode names (carried_of day) (text ++ s) ≡ there f s

pub record Silent (day e : Day) (text : List ℕ) : Type 0 where
  pub no_text : text ≡ []
  pub stays : carried_of e ≡ carried_of day

abbrev pub Decodes : Names → Day → Day → List ℕ → Option Fact → Type 0
Decodes names day e text none = Silent day e text
Decodes names day e text (some f) = Told names day e text f

-- all along a list of calls
abbrev pub AllDecode : Names → Day → List Call → Type 0
AllDecode names day [] = Unit {0}
AllDecode names day (c ∷ cs) = Decodes names day (after day c) (tape_of day c) (shown_by day c) × AllDecode names (after day c) cs

-- a list's tape is its prints joined in order
unfoldable pub tape : Day → List Call → List ℕ
tape day [] = []
tape day (c ∷ cs) = tape_of day c ++ tape (after day c) cs

unfoldable pub day_after : Day → List Call → Day
day_after day [] = day
day_after day (c ∷ cs) = day_after (after day c) cs

-- the facts of a tape, print by print, with fuel for each
unfoldable pub decode_all : Names → ℕ → Carried → List ℕ → List Fact
decode_all names zero d s = []
decode_all names (suc k) d s = elim (decode names d s) [ none ↦ [] | some r ↦ r.fact ∷ decode_all names k (next d r.fact) r.rest ]
