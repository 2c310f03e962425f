-- What a normal print can be, by its kinds: the text, the undivided name and the facts. Assumes nothing.
use Rattle.std.specs.Prelude.{ℕ, ◌≡◌, true, false, List, []}
use Rattle.std.proofs.Math.Option.{some}
use Rattle.rules.specs.Columns.{between}
use Rattle.rules.specs.Names.{name_text}
use Rattle.rules.specs.Price.{units}
use Rattle.rules.specs.Side.{side_text}
use Rattle.rules.specs.Announcement.{mode_text, level_text}
use Rattle.rules.specs.Correction.{cancel_text, correction_text, cancel_opening, error_opening}
use Rattle.rules.specs.Shown.{conditions_of, Part, in_full}
use Rattle.rules.specs.NormalPrint.{ReadFact, read_announcement, read_trade, read_cancel, read_error, read_correction}
use Rattle.rules.specs.declared.Mode.{Mode}
use Rattle.rules.specs.declared.Side.{Side}
use Rattle.line_owed.specs.Shown.{Enterable, Showable}
use Rattle.rules.specs.declared.PriceForm.TheVariants.{Full}

-- the part that a side is in normal mode
abbrev pub part_in : Side → Part
part_in x = in_full (units x.price) (conditions_of x) x.volume

-- an announcement of a mode, with the MPV level set before it, or of the volume delete level; or a trade, cancel, error or correction of a security that an S line can enter, with sides that a line can have, all in full
pub data Printable : List ℕ → List ℕ → ReadFact → Type 0 where
  by_mode : (m : Mode) (n : ℕ) → between 1 100 n ≡ true → Printable (mode_text m n) [] (read_announcement (mode_text m n))
  by_level : (n : ℕ) → between 5000 100000 n ≡ true → Printable (level_text n) [] (read_announcement (level_text n))
  by_trade : (network unit : ℕ) (name : List ℕ) (x : Side) → Enterable network unit name → Showable network x → Printable (side_text (name_text true name) network unit Full true x) (name_text true name) (read_trade (units x.price) (conditions_of x) (some x.volume))
  by_cancel : (network unit : ℕ) (name : List ℕ) (x : Side) → Enterable network unit name → Showable network x → Printable (cancel_text cancel_opening (name_text false name) network unit Full true x) (name_text false name) (read_cancel (part_in x))
  by_error : (network unit : ℕ) (name : List ℕ) (x : Side) → Enterable network unit name → Showable network x → Printable (cancel_text error_opening (name_text false name) network unit Full true x) (name_text false name) (read_error (part_in x))
  by_correction : (network unit : ℕ) (name : List ℕ) (x y : Side) → Enterable network unit name → Showable network x → Showable network y → Printable (correction_text (name_text false name) network unit Full true x y) (name_text false name) (read_correction (part_in x) (part_in y))
