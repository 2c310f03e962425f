-- What a tape shows from print to print: the mode, and the last printed price of each security. Assumes nothing.
use Rattle.std.specs.Prelude.{ℕ, ◌-◌, List, map, set}
use Rattle.std.proofs.Math.Option.{Option, none, some}
use Rattle.text.specs.Pick.{pick}
use Rattle.text.specs.Reading.{Read}
use Rattle.rules.specs.Day.{Day, is_entered}
use Rattle.rules.specs.Shown.{Fact, announced, traded, cancelled, erred, corrected}
use Rattle.rules.specs.declared.Mode.{Mode}
use Rattle.rules.specs.declared.Mode.TheVariants.{Normal, Dvd, Rpo, Mpv}
use Rattle.rules.specs.declared.Security.{Security}
use Rattle.print_announcement.specs.Reading.{Told, normal, dvd, rpo, minimum, level, read_announcement}

pub record Carried : Type 0 where
  pub mode : Mode
  pub printed : List ℕ

-- of one security: 0 where none is entered
unfoldable pub printed_of : Security → ℕ
printed_of s = pick (is_entered s) s.printed.price 0

unfoldable pub carried_of : Day → Carried
carried_of day = record { mode = day.settings.mode; printed = map printed_of day.securities }

-- every mode change prints
unfoldable pub mode_told : Mode → Told → Mode
mode_told m normal = Normal
mode_told m dvd = Dvd
mode_told m rpo = Rpo
mode_told m (minimum n) = Mpv
mode_told m (level n) = m

unfoldable pub mode_after : Mode → Option (Read Told) → Mode
mode_after m none = m
mode_after m (some r) = mode_told m r.got

-- what a print shows is carried on: announcements set the mode, trades their security's last printed price
unfoldable pub next : Carried → Fact → Carried
next d (announced text) = record { mode = mode_after d.mode (read_announcement text); printed = d.printed }
next d (traded i temporary price conditions volume) = record { mode = d.mode; printed = set d.printed (i - 1) price }
next d (cancelled i part) = d
next d (erred i part) = d
next d (corrected i original correcting) = d
