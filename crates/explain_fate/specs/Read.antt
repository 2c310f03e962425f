-- What becomes of a line, by what the code has in hand: the plan that it asks for, and the line as it is read. Assumes nothing.
use Rattle.std.specs.Prelude.{ℕ, ◌-◌, List, Result, Ok, Err}
use Rattle.std.proofs.Math.Option.{Option, none, some}
use Rattle.rules.specs.declared.Refusal.{Refusal}
use Rattle.rules.specs.declared.Settings.{Settings}
use Rattle.rules.specs.declared.Line.{Line}
use Rattle.call_table.specs.Rows.{row}
use Rattle.line_owed.specs.Owed.{OwedLine}
use Rattle.explain_fate.specs.Explained.{security_of, fate_at}
use Rattle.explain_fate.specs.declared.Fate.{Fate}
use Rattle.explain_fate.specs.declared.Fate.TheVariants.{Refused}

unfoldable pub read_security : Result Line Refusal → ℕ
read_security (Err r) = 0
read_security (Ok l) = security_of l

unfoldable pub read_fate : Settings → List ℕ → Result Line Refusal → Fate
read_fate st table (Err r) = Refused r
read_fate st table (Ok l) = fate_at st (row table (security_of l - 1)) l

-- a refusal, or what becomes of the line if there is none
unfoldable pub fate_if : Option Refusal → Fate → Fate
fate_if (some r) taken = Refused r
fate_if none taken = taken

-- a line within its values has a security's number and sound prices
unfoldable pub SoundReading : Result Line Refusal → Type 0
SoundReading (Err r) = Unit {0}
SoundReading (Ok l) = OwedLine l
