-- What an accepted line owes: its values, and what the day that it found has for it (document 01, "Lines not taken"). Assumes nothing.
use Rattle.std.specs.Prelude.{ℕ, ◌≤◌, ◌≡◌, true, false, ◌&&◌, not, List, eqb, length}
use Rattle.rules.specs.Columns.{column, between}
use Rattle.rules.specs.Line.{is_shaped, is_kind, is_formed, is_ranged, line_of, name_columns}
use Rattle.rules.specs.Day.{Day, security_at, is_entered, taken_name, undated, print_of}
use Rattle.rules.specs.declared.Security.{Security}
use Rattle.rules.specs.declared.Listing.{Listing}
use Rattle.rules.specs.declared.Trade.{Trade}
use Rattle.rules.specs.declared.Correction.{Correction}
use Rattle.rules.specs.declared.Line.{Line}
use Rattle.rules.specs.declared.Line.TheVariants.{Dated, Listed, Moded, Leveled, Stepped, Traded, Cancelled, Erred, Corrected}
use Rattle.line_owed.specs.Shown.{Enterable, Showable, shown_side}
use Rattle.line_owed.specs.Owed.{OwedListing, OwedTrade, OwedCorrection}

-- S
pub record AcceptedListing (day : Day) (name : List ℕ) (l : Listing) : Type 0 where
  pub owed : OwedListing l
  pub enters : Enterable l.network l.unit name
  pub vacant_place : is_entered (security_at day l.number) ≡ false
  pub free_name : taken_name name day.securities day.names ≡ false

-- T, X, E; s: the security that the line names
pub record AcceptedTrade (s : Security) (t : Trade) : Type 0 where
  pub owed : OwedTrade t
  pub entered_there : is_entered s ≡ true
  pub shows : Showable s.issue.network (shown_side t.side)

-- C
pub record AcceptedCorrection (s : Security) (c : Correction) : Type 0 where
  pub owed : OwedCorrection c
  pub entered_there : is_entered s ≡ true
  pub shows_original : Showable s.issue.network (shown_side c.original)
  pub shows_correcting : Showable s.issue.network (shown_side c.correcting)

unfoldable pub AcceptedLine : Day → List ℕ → Line → Type 0
AcceptedLine day name (Dated n) = Unit {0}
AcceptedLine day name (Listed l) = AcceptedListing day name l
AcceptedLine day name (Moded m) = Unit {0}
AcceptedLine day name (Leveled n) = between 5000 100000 n ≡ true
AcceptedLine day name (Stepped n) = between 1 100 n ≡ true
AcceptedLine day name (Traded t) = AcceptedTrade (security_at day t.security) t
AcceptedLine day name (Cancelled t) = AcceptedTrade (security_at day t.security) t
AcceptedLine day name (Erred t) = AcceptedTrade (security_at day t.security) t
AcceptedLine day name (Corrected c) = AcceptedCorrection (security_at day c.security) c

-- 1 to 13 do not stop it
pub record Accepted (day : Day) (line : List ℕ) (room : ℕ) : Type 0 where
  pub shaped : is_shaped line ≡ true
  pub known : is_kind (column 1 line) ≡ true
  pub dated : (not (eqb (column 1 line) 68) && undated day) ≡ false
  pub formed : is_formed line ≡ true
  pub ranged : is_ranged line ≡ true
  pub owes : AcceptedLine day (name_columns line) (line_of line)
  pub fits : length (print_of day (line_of line)) ≤ room
