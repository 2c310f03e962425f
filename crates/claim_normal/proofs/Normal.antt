-- A normal print is what one line can show. Assumes nothing.
use Prim.Native.Nat.{ℕ}
use mathlib.Core.Path.{◌≡◌}
use mathlib.Core.Bool.{true}
use mathlib.Core.List.{List}
use mathlib.Core.Option.{none}
use lib.ListN.{length}
use Rattle.text.specs.Pick.{pick}
use Rattle.rules.specs.Columns.{column, between}
use Rattle.rules.specs.Line.{line_of, of_kind, name_columns, listing_of}
use Rattle.rules.specs.Day.{cleared, refusal_of, after_line}
use Rattle.rules.specs.NormalPrint.{ReadFact, level_day, listed_day, NormalPrint}
use Rattle.rules.specs.declared.Mode.TheVariants.{Normal}
use Rattle.rules.specs.declared.Line.TheVariants.{Listed}
use Rattle.line_owed.specs.Reached.{Reached}
use Rattle.line_owed.proofs.Accepted.{accepted}
use Rattle.line_owed.proofs.Reached.{kept_cleared, kept_set, kept_line}
use Rattle.claim_compose.specs.Printable.{Printable}
use Rattle.claim_compose.proofs.ByKind.{line_by}
use Rattle.claim_normal.proofs.Views.{printable_as, day_printable}

-- ---- the day with the security entered can be reached, and is in normal mode

module _ (date level minimum : ℕ) (listing : List ℕ) where
  reached_level : between 1 100 minimum ≡ true → Reached (level_day date level minimum)
  unfolding level_day
  reached_level k = kept_set (cleared date) _ (kept_cleared date) k

  reached_listed : between 1 100 minimum ≡ true → refusal_of (level_day date level minimum) listing 0 ≡ none → Reached (listed_day date level minimum listing)
  unfolding listed_day
  reached_listed k h = kept_line _ (name_columns listing) (line_of listing) (reached_level k) (accepted _ listing 0 h).owes

  is_listing : column 1 listing ≡ 83 → line_of listing ≡ Listed (listing_of listing)
  unfolding of_kind pick
  is_listing k = line_by 83 listing k

  normal_listed : column 1 listing ≡ 83 → (listed_day date level minimum listing).settings.mode ≡ Normal
  unfolding listed_day level_day after_line
  normal_listed k = rw (is_listing k)

-- A NORMAL PRINT IS WHAT ONE LINE CAN SHOW
pub normal_printable : {text name : List ℕ} {fact : ReadFact} → NormalPrint text name fact → Printable text name fact
normal_printable {text} p =
    let day = listed_day p.date p.level p.minimum p.listing in
    let reached = reached_listed p.date p.level p.minimum p.listing p.minimum_ranged p.listed in
    let normal = normal_listed p.date p.level p.minimum p.listing p.lists in
    printable_as (day_printable day reached normal p.line (length text) p.shown p.accepted p.shows) p.prints p.named p.told
