-- Document 01, "Shown facts and the whole day": one entry a print, prices by value, from the accepted lines alone. Assumes nothing.
use Rattle.std.specs.Prelude.{ℕ, Bool, false, ◌&&◌, ◌||◌, not, List, [], ◌∷◌, ◌++◌}
use Rattle.std.proofs.Math.Option.{Option, none, some}
use Rattle.text.specs.Pick.{pick, same}
use Rattle.rules.specs.Names.{has_temporary}
use Rattle.rules.specs.Volume.{volume_text}
use Rattle.rules.specs.Price.{units}
use Rattle.rules.specs.Trade.{prints_trade, trade_shows, is_normal}
use Rattle.rules.specs.Correction.{prints_correction}
use Rattle.rules.specs.Line.{line_of}
use Rattle.rules.specs.Day.{Day, Call, security_at, name_at, shows_temporary, print_of, refusal_of, after}
use Rattle.rules.specs.declared.Letters.{Letters}
use Rattle.rules.specs.declared.Side.{Side}
use Rattle.rules.specs.declared.Trade.{Trade}
use Rattle.rules.specs.declared.Line.{Line}
use Rattle.rules.specs.declared.Line.TheVariants.{Dated, Listed, Moded, Leveled, Stepped, Traded, Cancelled, Erred, Corrected}

-- the set of conditions (N as M, C as K) with days and previous last; 0 for none
pub record Conditions : Type 0 where
  pub letters : Letters
  pub days : ℕ
  pub previous : ℕ

-- N as M, C as K
unfoldable pub shown_letters : Letters → Letters
shown_letters x = record { o = x.o; s = x.s; l = x.l; n = false; m = x.n || x.m; c = false; k = x.c || x.k; b = x.b; t = x.t; r = x.r; j = x.j; g = x.g }

unfoldable pub conditions_of : Side → Conditions
conditions_of x = record { letters = shown_letters x.letters; days = x.days; previous = units x.previous }

-- a side: in normal price, conditions and volume; otherwise its conditions
pub data Part : Type 0 where
  in_full : ℕ → Conditions → ℕ → Part
  bare : Conditions → Part

unfoldable pub part_of : Bool → Side → Part
part_of normal x = pick normal (in_full (units x.price) (conditions_of x) x.volume) (bare (conditions_of x))

-- an entry. Announcement: its text. Trade: security, temporary suffix shown or not, price, conditions, volume if shown. C, X, E: security and sides
pub data Fact : Type 0 where
  announced : List ℕ → Fact
  traded : ℕ → Bool → ℕ → Conditions → Option ℕ → Fact
  cancelled : ℕ → Part → Fact
  erred : ℕ → Part → Fact
  corrected : ℕ → Part → Part → Fact

-- outside normal, the volume if it put characters on the tape, else none
unfoldable pub shown_volume : Day → Trade → Option ℕ
shown_volume day t =
    let s = security_at day t.security in
    pick (is_normal day.settings.mode || (trade_shows day.settings s t.market t.side && not (same (volume_text s.issue.network s.issue.unit t.side.volume) [])))
    (some t.side.volume) none

-- a blank temporary suffix is never shown
unfoldable pub trade_fact : Day → Trade → Fact
trade_fact day t =
    traded t.security (shows_temporary (security_at day t.security) && has_temporary (name_at day t.security)) (units t.side.price) (conditions_of t.side) (shown_volume day t)

-- an announcement, or nothing where nothing prints
unfoldable pub announced_if : List ℕ → Option Fact
announced_if [] = none
announced_if (c ∷ s) = some (announced (c ∷ s))

-- the entry of an accepted line
unfoldable pub fact_of : Day → Line → Option Fact
fact_of day (Dated n) = none
fact_of day (Listed l) = none
fact_of day (Moded m) = announced_if (print_of day (Moded m))
fact_of day (Leveled n) = announced_if (print_of day (Leveled n))
fact_of day (Stepped n) = announced_if (print_of day (Stepped n))
fact_of day (Traded t) = pick (prints_trade day.settings (security_at day t.security) t.market t.side) (some (trade_fact day t)) none
fact_of day (Cancelled t) = some (cancelled t.security (part_of (is_normal day.settings.mode) t.side))
fact_of day (Erred t) = some (erred t.security (part_of (is_normal day.settings.mode) t.side))
fact_of day (Corrected c) =
    pick (prints_correction day.settings (security_at day c.security) c.original c.correcting)
    (some (corrected c.security (part_of (is_normal day.settings.mode) c.original) (part_of (is_normal day.settings.mode) c.correcting)))
    none

-- the entries of one call
unfoldable pub shown_by : Day → Call → Option Fact
shown_by day c = elim (refusal_of day c.line c.room) [ some r ↦ none | none ↦ fact_of day (line_of c.line) ]

abbrev pub entries : Option Fact → List Fact
entries none = []
entries (some f) = f ∷ []

-- the shown facts of a list of calls
unfoldable pub shown : Day → List Call → List Fact
shown day [] = []
shown day (c ∷ l) = entries (shown_by day c) ++ shown (after day c) l
