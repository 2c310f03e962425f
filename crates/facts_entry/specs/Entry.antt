-- The entry of a line as a value: the shown fact (rules, Shown) that it stands for, and the one that a plan asks for. Assumes nothing.
use Rattle.std.specs.Prelude.{ℕ, ◌+◌, ◌≤◌, ◌<◌, Bool, ◌&&◌, ◌||◌, not, List, []}
use Rattle.std.proofs.Math.Option.{Option, none, some}
use Rattle.text.specs.Pick.{pick, same}
use Rattle.rules.specs.Names.{has_temporary}
use Rattle.rules.specs.Volume.{volume_text}
use Rattle.rules.specs.Price.{units}
use Rattle.rules.specs.Trade.{is_normal}
use Rattle.rules.specs.Announcement.{mode_text, level_text, step_text}
use Rattle.rules.specs.Shown as shown
use Rattle.rules.specs.Shown.{Fact, announced, traded, cancelled, erred, corrected, in_full, bare, conditions_of, part_of, announced_if}
use Rattle.rules.specs.declared.Settings.{Settings}
use Rattle.rules.specs.Sizes.{security_places}
use Rattle.facts_side.specs.Sound.{SoundSide}
use Rattle.call_table.specs.Rows.{name_of}
use Rattle.call_plan.specs.declared.TradePlan.{TradePlan}
use Rattle.call_plan.specs.declared.CancelPlan.{CancelPlan}
use Rattle.call_plan.specs.declared.CorrectionPlan.{CorrectionPlan}
use Rattle.call_plan.specs.declared.Plan.{Plan}
use Rattle.call_plan.specs.declared.Plan.TheVariants.{Stop, Open, Enter, Change, Level, Step, Print, Cancel, Correct}
use Rattle.facts_entry.specs.declared.Conditions.{Conditions}
use Rattle.facts_entry.specs.declared.Part.{Part}
use Rattle.facts_entry.specs.declared.Part.TheVariants.{Full, Bare}
use Rattle.std.specs.Prelude as std
use Rattle.facts_entry.specs.declared.Entry.{Entry}
use Rattle.facts_entry.specs.declared.Entry.TheVariants.{Silent, Announced, Traded, Cancelled, Erred, Corrected}

-- ---- what an entry says

unfoldable pub conditions_in : Conditions → shown.Conditions
conditions_in x = record { letters = x.letters; days = x.days; previous = x.previous }

unfoldable pub part_in : Part → shown.Part
part_in (Full price x volume) = in_full price (conditions_in x) volume
part_in (Bare x) = bare (conditions_in x)

unfoldable pub volume_in : std.Option ℕ → Option ℕ
volume_in (std.Some n) = some n
volume_in std.None = none

-- the fact that an entry stands for; an announcement's text is the call's print
unfoldable pub fact_in : List ℕ → Entry → Option Fact
fact_in text Silent = none
fact_in text Announced = some (announced text)
fact_in text (Traded t) = some (traded t.security t.temporary t.price (conditions_in t.conditions) (volume_in t.volume))
fact_in text (Cancelled i x) = some (cancelled i (part_in x))
fact_in text (Erred i x) = some (erred i (part_in x))
fact_in text (Corrected i x y) = some (corrected i (part_in x) (part_in y))

-- ---- the entry of a fact: each has one

unfoldable pub conditions_as : shown.Conditions → Conditions
conditions_as x = record { letters = x.letters; days = x.days; previous = x.previous }

unfoldable pub part_as : shown.Part → Part
part_as (in_full price x volume) = Full price (conditions_as x) volume
part_as (bare x) = Bare (conditions_as x)

unfoldable pub volume_as : Option ℕ → std.Option ℕ
volume_as none = std.None
volume_as (some n) = std.Some n

unfoldable pub entry_of : Option Fact → Entry
entry_of none = Silent
entry_of (some (announced text)) = Announced
entry_of (some (traded i temporary price x volume)) = Traded (record { security = i; temporary = temporary; price = price; conditions = conditions_as x; volume = volume_as volume })
entry_of (some (cancelled i x)) = Cancelled i (part_as x)
entry_of (some (erred i x)) = Erred i (part_as x)
entry_of (some (corrected i x y)) = Corrected i (part_as x) (part_as y)

-- ---- the fact of a plan (call_plan, Plan), by settings and names

-- in normal always; otherwise where it puts characters on the tape
unfoldable pub shows_shares : Settings → TradePlan → Bool
shows_shares st t = is_normal st.mode || (t.shows && not (same (volume_text t.network t.unit t.side.volume) []))

unfoldable pub volume_of : Settings → TradePlan → Option ℕ
volume_of st t = pick (shows_shares st t) (some t.side.volume) none

unfoldable pub plan_fact : Settings → List ℕ → Plan → Option Fact
plan_fact st names (Stop r) = none
plan_fact st names (Open n) = none
plan_fact st names (Enter i s) = none
plan_fact st names (Change m) = announced_if (mode_text m st.minimum)
plan_fact st names (Level n) = announced_if (level_text n)
plan_fact st names (Step n) = announced_if (step_text st.mode n)
plan_fact st names (Print t) =
    pick t.prints
    (some (traded (t.place + 1) (t.temporary && has_temporary (name_of names t.place)) (units t.side.price) (conditions_of t.side) (volume_of st t)))
    none
plan_fact st names (Cancel t) =
    let x = part_of (is_normal st.mode) t.side in
    pick t.error (some (erred (t.place + 1) x)) (some (cancelled (t.place + 1) x))
plan_fact st names (Correct c) =
    pick c.prints
    (some (corrected (c.place + 1) (part_of (is_normal st.mode) c.original) (part_of (is_normal st.mode) c.correcting)))
    none

-- ---- what an accepted line owes: prices within their values, volume and days within their columns, a place in the tables, a unit

pub record SoundTrade (t : TradePlan) : Type 0 where
  pub place_is : t.place < security_places
  pub unit_is : 1 ≤ t.unit
  pub side_is : SoundSide t.side

pub record SoundCancel (t : CancelPlan) : Type 0 where
  pub place_is : t.place < security_places
  pub side_is : SoundSide t.side

pub record SoundCorrection (c : CorrectionPlan) : Type 0 where
  pub place_is : c.place < security_places
  pub original_is : SoundSide c.original
  pub correcting_is : SoundSide c.correcting

unfoldable pub SoundFact : Plan → Type 0
SoundFact (Stop r) = Unit {0}
SoundFact (Open n) = Unit {0}
SoundFact (Enter i s) = Unit {0}
SoundFact (Change m) = Unit {0}
SoundFact (Level n) = Unit {0}
SoundFact (Step n) = Unit {0}
SoundFact (Print t) = SoundTrade t
SoundFact (Cancel t) = SoundCancel t
SoundFact (Correct c) = SoundCorrection c
