-- The print of a plan (document 01, "Tape characters", "Lines not taken"). Assumes nothing.
use Rattle.std.specs.Prelude.{ℕ, ◌≤◌, ◌<◌, ◌≡◌, false, List, [], ltb, length}
use Rattle.text.specs.Pick.{pick, opt}
use Rattle.rules.specs.Names.{name_text}
use Rattle.rules.specs.Line.{first_side, second_side}
use Rattle.rules.specs.Side.{side_text}
use Rattle.rules.specs.Correction.{correction_text, cancel_text, cancel_opening, error_opening}
use Rattle.rules.specs.Announcement.{mode_text, level_text, step_text}
use Rattle.rules.specs.declared.Refusal.TheVariants.{Room}
use Rattle.rules.specs.declared.Settings.{Settings}
use Rattle.rules.specs.Sizes.{width, security_places}
use Rattle.call_table.specs.Rows.{name_of}
use Rattle.line_owed.specs.Owed.{SideColumns}
use Rattle.call_plan.specs.declared.TradePlan.{TradePlan}
use Rattle.call_plan.specs.declared.CancelPlan.{CancelPlan}
use Rattle.call_plan.specs.declared.CorrectionPlan.{CorrectionPlan}
use Rattle.call_plan.specs.declared.Plan.{Plan}
use Rattle.call_plan.specs.declared.Plan.TheVariants.{Stop, Open, Enter, Change, Level, Step, Print, Cancel, Correct}

-- ---- the print of a plan

-- the name as it prints, with its temporary suffix or without
unfoldable pub printed_name : List ℕ → Plan → List ℕ
printed_name names (Stop r) = []
printed_name names (Open n) = []
printed_name names (Enter i s) = []
printed_name names (Change m) = []
printed_name names (Level n) = []
printed_name names (Step n) = []
printed_name names (Print t) = name_text t.temporary (name_of names t.place)
printed_name names (Cancel t) = name_text false (name_of names t.place)
printed_name names (Correct c) = name_text false (name_of names c.place)

-- a trade, where it prints
unfoldable pub print_text : List ℕ → TradePlan → List ℕ
print_text name t = opt t.prints (side_text name t.network t.unit t.form t.shows t.side)

-- a cancel or an error: always
unfoldable pub cancelled : List ℕ → CancelPlan → List ℕ
cancelled name t = cancel_text (pick t.error error_opening cancel_opening) name t.network t.unit t.form t.shows t.side

-- a correction, where it prints
unfoldable pub corrected : List ℕ → CorrectionPlan → List ℕ
corrected name c = opt c.prints (correction_text name c.network c.unit c.form c.shows c.original c.correcting)

-- a print under a name
unfoldable pub text_of : Settings → List ℕ → Plan → List ℕ
text_of st name (Stop r) = []
text_of st name (Open n) = []
text_of st name (Enter i s) = []
text_of st name (Change m) = mode_text m st.minimum
text_of st name (Level n) = level_text n
text_of st name (Step n) = step_text st.mode n
text_of st name (Print t) = print_text name t
text_of st name (Cancel t) = cancelled name t
text_of st name (Correct c) = corrected name c

-- 13: a print that is longer than the tape lent for it
unfoldable pub fitted_of : Settings → List ℕ → Plan → ℕ → Plan
fitted_of st name p room = pick (ltb room (length (text_of st name p))) (Stop Room) p

-- what a plan prints
unfoldable pub print_of : Settings → List ℕ → Plan → List ℕ
print_of st names p = text_of st (printed_name names p) p

-- ---- what the plan of a line owes

pub record SoundPrint (line : List ℕ) (t : TradePlan) : Type 0 where
  pub place_is : t.place < security_places
  pub unit_is : 1 ≤ t.unit
  pub line_is : length line ≡ width
  pub stands : SideColumns (first_side line) t.side

pub record SoundCancel (line : List ℕ) (t : CancelPlan) : Type 0 where
  pub place_is : t.place < security_places
  pub unit_is : 1 ≤ t.unit
  pub line_is : length line ≡ width
  pub stands : SideColumns (first_side line) t.side

pub record SoundCorrect (line : List ℕ) (c : CorrectionPlan) : Type 0 where
  pub place_is : c.place < security_places
  pub unit_is : 1 ≤ c.unit
  pub line_is : length line ≡ width
  pub original_stands : SideColumns (first_side line) c.original
  pub correcting_stands : SideColumns (second_side line) c.correcting

unfoldable pub SoundPlan : List ℕ → Plan → Type 0
SoundPlan line (Stop r) = Unit {0}
SoundPlan line (Open n) = Unit {0}
SoundPlan line (Enter i s) = (i < security_places) × (length line ≡ width)
SoundPlan line (Change m) = Unit {0}
SoundPlan line (Level n) = n ≤ 100000
SoundPlan line (Step n) = n ≤ 100
SoundPlan line (Print t) = SoundPrint line t
SoundPlan line (Cancel t) = SoundCancel line t
SoundPlan line (Correct c) = SoundCorrect line c
