-- The prints of a list of calls, each with its name and its facts, by the rules. Assumes nothing.
use Rattle.std.specs.Prelude.{◌≡◌, List, [], ◌∷◌, ◌++◌}
use Rattle.std.proofs.Math.Option.{Option, none, some}
use Rattle.rules.specs.Line.{line_of}
use Rattle.rules.specs.Day.{Day, Call, tape_of, after}
use Rattle.rules.specs.Shown.{Fact, shown_by}
use Rattle.rules.specs.NormalPrint.{read_fact, name_of}
use Rattle.rules.specs.declared.Mode.TheVariants.{Normal}
use Rattle.claim_longest.specs.Tape.{Reading}

-- a call's print, if it shows a fact
unfoldable pub printed_by : Day → Call → Option Fact → List Reading
printed_by day c none = []
printed_by day c (some f) = record { text = tape_of day c; name = name_of day (line_of c.line); fact = read_fact f } ∷ []

unfoldable pub printed_from : Day → List Call → List Reading
printed_from day [] = []
printed_from day (c ∷ cs) = printed_by day c (shown_by day c) ++ printed_from (after day c) cs

-- each call finds the day in normal mode
pub data InNormal : Day → List Call → Type 0 where
  no_call : (day : Day) → InNormal day []
  a_call : (day : Day) (c : Call) (cs : List Call) → day.settings.mode ≡ Normal → InNormal (after day c) cs → InNormal day (c ∷ cs)
