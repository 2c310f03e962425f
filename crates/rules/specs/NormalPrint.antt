-- Document 01, "Reader": what the reader must find. Assumes nothing.
use Rattle.std.specs.Prelude.{ℕ, ◌≤◌, ◌≡◌, true, false, List, [], length}
use Rattle.std.proofs.Math.Option.{Option, none, some}
use Rattle.rules.specs.Columns.{column, between}
use Rattle.rules.specs.Names.{name_text}
use Rattle.rules.specs.Line.{line_of, name_columns}
use Rattle.rules.specs.Day.{Day, cleared, with_settings, name_at, security_at, shows_temporary, print_of, refusal_of, after_line}
use Rattle.rules.specs.Shown.{Conditions, Part, Fact, announced, traded, cancelled, erred, corrected, fact_of}
use Rattle.rules.specs.declared.Mode.TheVariants.{Normal}
use Rattle.rules.specs.declared.Line.{Line}
use Rattle.rules.specs.declared.Line.TheVariants.{Dated, Listed, Moded, Leveled, Stepped, Traded, Cancelled, Erred, Corrected}

-- the facts that a reader gives hold no security or suffix mark
pub data ReadFact : Type 0 where
  read_announcement : List ℕ → ReadFact
  read_trade : ℕ → Conditions → Option ℕ → ReadFact
  read_cancel : Part → ReadFact
  read_error : Part → ReadFact
  read_correction : Part → Part → ReadFact

unfoldable pub read_fact : Fact → ReadFact
read_fact (announced t) = read_announcement t
read_fact (traded i shown price conditions volume) = read_trade price conditions volume
read_fact (cancelled i x) = read_cancel x
read_fact (erred i x) = read_error x
read_fact (corrected i x y) = read_correction x y

-- the undivided name of a line's print: of a correction the first one, of an announcement none
unfoldable pub name_of : Day → Line → List ℕ
name_of day (Dated n) = []
name_of day (Listed l) = []
name_of day (Moded m) = []
name_of day (Leveled n) = []
name_of day (Stepped n) = []
name_of day (Traded t) = name_text (shows_temporary (security_at day t.security)) (name_at day t.security)
name_of day (Cancelled t) = name_text false (name_at day t.security)
name_of day (Erred t) = name_text false (name_at day t.security)
name_of day (Corrected c) = name_text false (name_at day c.security)

-- a normal day with the two levels set and nothing entered
unfoldable pub level_day : ℕ → ℕ → ℕ → Day
level_day date level minimum = with_settings (cleared date) (record { date = date; mode = Normal; level = level; minimum = minimum })

-- the same with one security entered
unfoldable pub listed_day : ℕ → ℕ → ℕ → List ℕ → Day
listed_day date level minimum listing = after_line (level_day date level minimum) (name_columns listing) (line_of listing)

-- the term "normal print": a text of at least one character which some S line and one accepted line print in normal mode, with any two levels set before it
pub record NormalPrint (text name : List ℕ) (fact : ReadFact) : Type 0 where
  pub date : ℕ
  pub level : ℕ
  pub minimum : ℕ
  pub listing : List ℕ
  pub line : List ℕ
  pub shown : Fact
  pub dated : 1 ≤ date
  pub level_in_range : between 5000 100000 level ≡ true
  pub minimum_ranged : between 1 100 minimum ≡ true
  pub lists : column 1 listing ≡ 83
  pub listed : refusal_of (level_day date level minimum) listing 0 ≡ none
  pub accepted : refusal_of (listed_day date level minimum listing) line (length text) ≡ none
  pub prints : print_of (listed_day date level minimum listing) (line_of line) ≡ text
  pub some_text : 1 ≤ length text
  pub named : name_of (listed_day date level minimum listing) (line_of line) ≡ name
  pub shows : fact_of (listed_day date level minimum listing) (line_of line) ≡ some shown
  pub told : read_fact shown ≡ fact
