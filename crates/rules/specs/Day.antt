-- Document 01, "Day lines", "Trades by mode", "Lines not taken": a day's state, the refusals in order, the print of each line and what each accepted line does to the state. Assumes nothing.
use Rattle.std.specs.Prelude.{ℕ, ◌-◌, Bool, false, ◌&&◌, ◌||◌, not, List, [], ◌∷◌, leb, ltb, eqb, length, get_or, set, replicate}
use Rattle.std.proofs.Math.Option.{Option, none, some}
use Rattle.text.specs.Pick.{opt}
use Rattle.rules.specs.Sizes.{security_places, longest_print}
use Rattle.rules.specs.Columns.{column}
use Rattle.rules.specs.Names.{name_text, same_name}
use Rattle.rules.specs.Conditions.{on_network}
use Rattle.rules.specs.Side.{side_text}
use Rattle.rules.specs.Trade.{prints_trade, trade_form, trade_shows, after_trade}
use Rattle.rules.specs.Announcement.{mode_text, level_text, step_text}
use Rattle.rules.specs.Correction.{correction_text, cancel_text, cancel_opening, error_opening, prints_correction, correction_form, correction_shows, cancel_form, cancel_shows, after_correction}
use Rattle.rules.specs.Line.{is_shaped, is_kind, is_formed, is_ranged, line_of, name_columns}
use Rattle.rules.specs.Refusal.{refuse}
use Rattle.rules.specs.declared.Mode.TheVariants.{Normal}
use Rattle.rules.specs.declared.Listing.{Listing}
use Rattle.rules.specs.declared.Trade.{Trade}
use Rattle.rules.specs.declared.Correction.{Correction}
use Rattle.rules.specs.declared.Line.{Line}
use Rattle.rules.specs.declared.Line.TheVariants.{Dated, Listed, Moded, Leveled, Stepped, Traded, Cancelled, Erred, Corrected}
use Rattle.rules.specs.declared.Refusal.{Refusal}
use Rattle.rules.specs.declared.Refusal.TheVariants.{Shape, Kind, NoDate, Form, Value, NotEntered, InUse, Name, SameName, Conditions, Unmatched, DateOrder, Room}
use Rattle.rules.specs.declared.Settings.{Settings}
use Rattle.rules.specs.declared.Issue.{Issue}
use Rattle.rules.specs.declared.Printed.{Printed}
use Rattle.rules.specs.declared.Range.{Range}
use Rattle.rules.specs.declared.Counts.{Counts}
use Rattle.rules.specs.declared.Security.{Security}

-- ---- the state: settings, and 512 places for securities and for their names (columns 6 to 24 of the S line)
pub record Day : Type 0 where
  pub settings : Settings
  pub securities : List Security
  pub names : List (List ℕ)

-- a security before its first trade: none printed, no high, low or last, nothing counted
abbrev pub unprinted : Printed
unprinted = record { price = 0 }

abbrev pub no_range : Range
no_range = record { high = 0; low = 0; last = 0 }

abbrev pub no_counts : Counts
no_counts = record { trades = 0; qualified = 0; primaries = 0 }

abbrev pub untraded : Issue → Security
untraded i = record { issue = i; printed = unprinted; range = no_range; counts = no_counts }

-- no security
abbrev pub no_issue : Issue
no_issue = record { unit = 0; network = 0; market = 0; first = 0 }

unfoldable pub vacant : Security
vacant = untraded no_issue

-- no name: a place's 19 columns before an S line
unfoldable pub no_name : List ℕ
no_name = replicate 19 0

-- a day opens normal, level 5,000, MPV level 1
unfoldable pub opened : ℕ → Settings
opened date = record { date = date; mode = Normal; level = 5000; minimum = 1 }

-- a D line clears table, settings and day state
unfoldable pub cleared : ℕ → Day
cleared date = record { settings = opened date; securities = replicate security_places vacant; names = replicate security_places no_name }

-- a fresh state: no D accepted yet
unfoldable pub fresh : Day
fresh = cleared 0

-- the place of the security with number i, 1..512
abbrev pub security_at : Day → ℕ → Security
security_at day i = get_or day.securities (i - 1) vacant

abbrev pub name_at : Day → ℕ → List ℕ
name_at day i = get_or day.names (i - 1) no_name

unfoldable pub is_entered : Security → Bool
is_entered s = not (eqb s.issue.unit 0)

-- ---- the print of a line

-- the temporary suffix, on the first five trades of the security's day
unfoldable pub shows_temporary : Security → Bool
shows_temporary s = ltb s.counts.trades 5

unfoldable pub trade_print : Day → Trade → List ℕ
trade_print day t =
    let st = day.settings in
    let s = security_at day t.security in
    let x = t.side in
    opt (prints_trade st s t.market x)
    (side_text (name_text (shows_temporary s) (name_at day t.security)) s.issue.network s.issue.unit (trade_form st s t.market x) (trade_shows st s t.market x) x)

unfoldable pub cancel_print : List ℕ → Day → Trade → List ℕ
cancel_print opening day t =
    let st = day.settings in
    let s = security_at day t.security in
    let x = t.side in
    cancel_text opening (name_text false (name_at day t.security)) s.issue.network s.issue.unit (cancel_form st s x) (cancel_shows st x) x

unfoldable pub correction_print : Day → Correction → List ℕ
correction_print day c =
    let st = day.settings in
    let s = security_at day c.security in
    let x = c.original in
    let y = c.correcting in
    opt (prints_correction st s x y)
    (correction_text (name_text false (name_at day c.security)) s.issue.network s.issue.unit (correction_form st s x y) (correction_shows st x y) x y)

-- D and S lines print nothing
unfoldable pub print_of : Day → Line → List ℕ
print_of day (Dated n) = []
print_of day (Listed l) = []
print_of day (Moded m) = mode_text m day.settings.minimum
print_of day (Leveled n) = level_text n
print_of day (Stepped n) = step_text day.settings.mode n
print_of day (Traded t) = trade_print day t
print_of day (Cancelled t) = cancel_print cancel_opening day t
print_of day (Erred t) = cancel_print error_opening day t
print_of day (Corrected c) = correction_print day c

-- ---- the refusals that ask the state, each kind's by number

-- 9: a name, with or without temporary suffix, equals another security's
unfoldable pub taken_name : List ℕ → List Security → List (List ℕ) → Bool
taken_name name [] names = false
taken_name name (s ∷ l) [] = false
taken_name name (s ∷ l) (n ∷ names) = (is_entered s && same_name name n) || taken_name name l names

-- S: 7 number in use; 8; 9
unfoldable pub listing_refusal : Day → List ℕ → Listing → Option Refusal → Option Refusal
listing_refusal day name l later =
    refuse (is_entered (security_at day l.number)) InUse
    (refuse (not l.lawful) Name
    (refuse (taken_name name day.securities day.names) SameName later))

-- T, X, E: 6 security not entered; 10 letters repeated or excluded, J or G on the wrong network; 11
unfoldable pub trade_refusal : Security → Trade → Option Refusal → Option Refusal
trade_refusal s t later =
    refuse (not (is_entered s)) NotEntered
    (refuse (not (t.lawful && on_network s.issue.network t.side.letters)) Conditions
    (refuse (not t.matched) Unmatched later))

-- C: the same, 10 asked of both sides before 11
unfoldable pub correction_refusal : Security → Correction → Option Refusal → Option Refusal
correction_refusal s c later =
    refuse (not (is_entered s)) NotEntered
    (refuse (not (c.lawful && (on_network s.issue.network c.original.letters && on_network s.issue.network c.correcting.letters))) Conditions
    (refuse (not c.matched) Unmatched later))

-- D: 12 date not after the last accepted D
unfoldable pub date_refusal : Settings → ℕ → Option Refusal → Option Refusal
date_refusal st date later = refuse (leb date st.date) DateOrder later

-- 6 to 12
unfoldable pub state_refusal : Day → List ℕ → Line → Option Refusal → Option Refusal
state_refusal day name (Dated n) later = date_refusal day.settings n later
state_refusal day name (Listed l) later = listing_refusal day name l later
state_refusal day name (Moded m) later = later
state_refusal day name (Leveled n) later = later
state_refusal day name (Stepped n) later = later
state_refusal day name (Traded t) later = trade_refusal (security_at day t.security) t later
state_refusal day name (Cancelled t) later = trade_refusal (security_at day t.security) t later
state_refusal day name (Erred t) later = trade_refusal (security_at day t.security) t later
state_refusal day name (Corrected c) later = correction_refusal (security_at day c.security) c later

-- no D accepted yet
unfoldable pub undated : Day → Bool
undated day = eqb day.settings.date 0

-- checked by number, all of 4 before 5; a line that no row stops is accepted
unfoldable pub refusal_of : Day → List ℕ → ℕ → Option Refusal
refusal_of day line room =
    refuse (not (is_shaped line)) Shape
    (refuse (not (is_kind (column 1 line))) Kind
    (refuse (not (eqb (column 1 line) 68) && undated day) NoDate
    (refuse (not (is_formed line)) Form
    (refuse (not (is_ranged line)) Value
    (state_refusal day (name_columns line) (line_of line)
    (refuse (ltb room (length (print_of day (line_of line)))) Room none))))))

-- ---- what an accepted line does

abbrev pub with_settings : Day → Settings → Day
with_settings day st = record { settings = st; securities = day.securities; names = day.names }

abbrev pub with_security : Day → ℕ → Security → Day
with_security day i s = record { settings = day.settings; securities = set day.securities (i - 1) s; names = day.names }

unfoldable pub entered : Listing → Security
entered l = untraded (record { unit = l.unit; network = l.network; market = l.market; first = l.first })

unfoldable pub after_line : Day → List ℕ → Line → Day
after_line day name (Dated n) = cleared n
after_line day name (Listed l) = record { settings = day.settings; securities = set day.securities (l.number - 1) (entered l); names = set day.names (l.number - 1) name }
after_line day name (Moded m) = with_settings day (record { date = day.settings.date; mode = m; level = day.settings.level; minimum = day.settings.minimum })
after_line day name (Leveled n) = with_settings day (record { date = day.settings.date; mode = day.settings.mode; level = n; minimum = day.settings.minimum })
after_line day name (Stepped n) = with_settings day (record { date = day.settings.date; mode = day.settings.mode; level = day.settings.level; minimum = n })
after_line day name (Traded t) = with_security day t.security (after_trade day.settings (security_at day t.security) t.market t.side)
after_line day name (Cancelled t) = day
after_line day name (Erred t) = day
after_line day name (Corrected c) = with_security day c.security (after_correction (security_at day c.security) c.correcting)

-- ---- one call: a line of any bytes and any length, and the room lent for its print
pub record Call : Type 0 where
  pub line : List ℕ
  pub room : ℕ

-- a call with room for any print: the day program, the facts and the explanations lend so much
abbrev pub ample : List ℕ → Call
ample line = record { line = line; room = longest_print }

-- a refused line puts nothing on the tape and moves nothing
unfoldable pub tape_of : Day → Call → List ℕ
tape_of day c = elim (refusal_of day c.line c.room) [ some r ↦ [] | none ↦ print_of day (line_of c.line) ]

unfoldable pub after : Day → Call → Day
after day c = elim (refusal_of day c.line c.room) [ some r ↦ day | none ↦ after_line day (name_columns c.line) (line_of c.line) ]
