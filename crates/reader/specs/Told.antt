-- What an answer of the reader tells (document 01, "Reader"): length, undivided name, facts. Assumes nothing.
use Rattle.std.specs.Prelude.{ℕ, ◌-◌, ◌≡◌, List, leb, take, drop, Result, Ok, Err}
use Rattle.std.proofs.Math.Option.{Option, none, some}
use Rattle.text.specs.Pick.{pick}
use Rattle.rules.specs.Price.{units}
use Rattle.rules.specs.Shown.{conditions_of, Part, in_full}
use Rattle.rules.specs.Refusal.{number_of}
use Rattle.rules.specs.NormalPrint.{ReadFact, read_announcement, read_trade, read_cancel, read_error, read_correction}
use Rattle.rules.specs.declared.Side.{Side}
use Rattle.rules.specs.declared.Refusal.{Refusal}
use Rattle.reader.specs.declared.Print.TheVariants.{Announcement, Trade, Cancel, Error, Correction}
use Rattle.reader.specs.Read.{read_at}
use Rattle.reader.specs.declared.Print.{Print}

-- document 01's number of an answer: 0 where a print stands there, else that of the refusal
abbrev pub answer_number : Result Print Refusal → ℕ
answer_number (Ok print) = 0
answer_number (Err r) = number_of r

-- 0 at a refusal
unfoldable pub length_of : Result Print Refusal → ℕ
length_of (Ok (Announcement n)) = n
length_of (Ok (Trade x)) = x.length
length_of (Ok (Cancel x)) = x.length
length_of (Ok (Error x)) = x.length
length_of (Ok (Correction x)) = x.length
length_of (Err r) = 0

-- where the name begins in the print, and how long it is; an announcement and a refusal have an empty name
unfoldable pub name_from : Result Print Refusal → ℕ
name_from (Ok (Announcement n)) = 0
name_from (Ok (Trade x)) = x.from
name_from (Ok (Cancel x)) = x.from
name_from (Ok (Error x)) = x.from
name_from (Ok (Correction x)) = x.from
name_from (Err r) = 0

unfoldable pub name_length : Result Print Refusal → ℕ
name_length (Ok (Announcement n)) = 0
name_length (Ok (Trade x)) = x.to - x.from
name_length (Ok (Cancel x)) = x.to - x.from
name_length (Ok (Error x)) = x.to - x.from
name_length (Ok (Correction x)) = x.to - x.from
name_length (Err r) = 0

-- the undivided name in the text s that the print begins
unfoldable pub name_in : List ℕ → Result Print Refusal → List ℕ
name_in s r = take (name_length r) (drop (name_from r) s)

-- the undivided name at a place of a tape
unfoldable pub name_at : List ℕ → ℕ → List ℕ
name_at tape place = name_in (drop place tape) (read_at tape place)

-- a side in full
abbrev pub part_in : Side → Part
part_in x = in_full (units x.price) (conditions_of x) x.volume

-- the facts; a refusal has none
unfoldable pub fact_in : List ℕ → Result Print Refusal → Option ReadFact
fact_in s (Ok (Announcement n)) = some (read_announcement (take n s))
fact_in s (Ok (Trade x)) = some (read_trade (units x.side.price) (conditions_of x.side) (some x.side.volume))
fact_in s (Ok (Cancel x)) = some (read_cancel (part_in x.side))
fact_in s (Ok (Error x)) = some (read_error (part_in x.side))
fact_in s (Ok (Correction x)) = some (read_correction (part_in x.original) (part_in x.correcting))
fact_in s (Err r) = none

-- ---- the promise of `read_at`: the answer at a place of a tape, and what it tells: document 01's number, 14 exactly where the length is 0; the print's length; its undivided name; its facts
pub record ReadIs (tape : List ℕ) (place : ℕ) (r : Result Print Refusal) : Type 0 where
  pub answer_is : r ≡ read_at tape place
  pub number_is : answer_number r ≡ pick (leb 1 (length_of (read_at tape place))) 0 14
  pub length_is : length_of r ≡ length_of (read_at tape place)
  pub name_is : name_in (drop place tape) r ≡ name_at tape place
  pub facts_are : fact_in (drop place tape) r ≡ fact_in (drop place tape) (read_at tape place)
