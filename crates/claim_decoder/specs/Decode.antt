-- The print at the front of a tape, in any mode, and what it shows. Securities go by their names, listed by number. Assumes nothing.
use Rattle.std.specs.Prelude.{ℕ, suc, ◌+◌, ◌-◌, ◌*◌, Bool, true, false, ◌&&◌, ◌||◌, not, List, [], ◌∷◌, leb, get_or}
use Rattle.std.proofs.Math.Option.{Option, none, some}
use Rattle.text.specs.Bytes.{bytes}
use Rattle.text.specs.Pick.{pick, same}
use Rattle.text.specs.Reading.{Read, starts, past}
use Rattle.rules.specs.Columns.{between}
use Rattle.rules.specs.Names.{name_text, has_temporary}
use Rattle.rules.specs.Trade.{tens, dollars, is_normal}
use Rattle.rules.specs.Announcement.{minimum_text, mode_text, level_text}
use Rattle.rules.specs.Day.{no_name}
use Rattle.rules.specs.Shown.{Conditions, Part, in_full, bare, Fact, announced, traded, cancelled, erred, corrected}
use Rattle.rules.specs.declared.Mode.{Mode}
use Rattle.rules.specs.declared.Mode.TheVariants.{Normal, Dvd, Rpo}
use Rattle.print_volume.specs.Reading.{Shown, unsaid, said, shares_of}
use Rattle.print_conditions.specs.Reading.{Tail}
use Rattle.print_side.specs.Reading.{SideRead, read_side}
use Rattle.print_announcement.specs.Reading.{Told, normal, dvd, rpo, minimum, level, read_announcement}
use Rattle.name_back.specs.Cut.{Sold, plain, opened, sold, last, After, after, divide}
use Rattle.claim_decoder.specs.Carried.{Carried}

-- the names of the day's securities, 19 columns each, by number from 1
abbrev pub Names : Type 0
Names = List (List ℕ)

-- ---- the security of a name, with or without its temporary suffix

unfoldable pub is_name_of : List ℕ → List ℕ → Bool
is_name_of text name = same text (name_text true name) || same text (name_text false name)

unfoldable pub number_from : ℕ → List ℕ → Names → Option ℕ
number_from i text [] = none
number_from i text (name ∷ l) = pick (is_name_of text name) (some i) (number_from (suc i) text l)

abbrev pub name_in : Names → ℕ → List ℕ
name_in names i = get_or names (i - 1) no_name

-- the temporary suffix stands: there is one, and the name is the one with it
unfoldable pub shows_suffix : List ℕ → List ℕ → Bool
shows_suffix text name = has_temporary name && same text (name_text true name)

-- ---- conditions: from the run after the name, and from the tail

abbrev pub given : Option ℕ → Bool
given none = false
given (some n) = true

abbrev pub value_in : Option ℕ → ℕ
value_in none = 0
value_in (some n) = n

abbrev pub is_opened : Sold → Bool
is_opened plain = false
is_opened opened = true
is_opened sold = false
is_opened last = false

abbrev pub is_sold : Sold → Bool
is_sold plain = false
is_sold opened = false
is_sold sold = true
is_sold last = false

abbrev pub is_last : Sold → Bool
is_last plain = false
is_last opened = false
is_last sold = false
is_last last = true

unfoldable pub conditions_by : After → Tail → Conditions
conditions_by a t = record {
  letters = record { o = is_opened a.how; s = is_sold a.how; l = is_last a.how; n = false; m = a.next; c = false; k = t.cash; b = t.average; t = t.stopped; r = given t.days; j = t.rule; g = given t.previous };
  days = value_in t.days;
  previous = value_in t.previous;
}

-- ---- price: outside normal one whole digit after a last printed price of 10 dollars or more is short

unfoldable pub price_by : Mode → ℕ → ℕ → ℕ
price_by mode printed price =
    pick (not (is_normal mode) && (between 1 9 (dollars price) && leb 10 (dollars printed)))
    (tens (dollars printed) * 10 * 100000000 + price)
    price

-- ---- volume: outside normal only what is shown

unfoldable pub volume_by : Mode → Shown → Option ℕ
volume_by mode unsaid = pick (is_normal mode) (some 100) none
volume_by mode (said n m) = some (shares_of (said n m))

-- a side of a correction, cancel or error
unfoldable pub part_by : Mode → After → SideRead → Part
part_by mode a r = pick (is_normal mode) (in_full r.price (conditions_by a r.tail) (shares_of r.volume)) (bare (conditions_by a r.tail))

-- ---- the print at the front

pub record Found : Type 0 where
  pub fact : Fact
  pub rest : List ℕ

abbrev pub there : Fact → List ℕ → Option Found
there f s = some (record { fact = f; rest = s })

-- the text that tells it
unfoldable pub told_text : Told → List ℕ
told_text normal = mode_text Normal 0
told_text dvd = mode_text Dvd 0
told_text rpo = mode_text Rpo 0
told_text (minimum n) = minimum_text n
told_text (level n) = level_text n

unfoldable pub announcement_by : Option (Read Told) → Option Found
announcement_by none = none
announcement_by (some r) = there (announced (told_text r.got)) r.rest

-- a run's name and conditions, and the number of its security
pub record Headed : Type 0 where
  pub number : ℕ
  pub name : List ℕ
  pub after : After

unfoldable pub headed_by : List ℕ → Option ℕ → Option After → Option Headed
headed_by name (some i) (some a) = some (record { number = i; name = name; after = a })
headed_by name (some i) none = none
headed_by name none a = none

unfoldable pub head_of : Names → List ℕ → Option Headed
head_of names run = headed_by (divide run).name (number_from 1 (divide run).name names) (divide run).conditions

unfoldable pub trade_by : Names → Carried → Read SideRead → Option Headed → Option Found
trade_by names d r none = none
trade_by names d r (some h) =
    there
    (traded h.number (shows_suffix h.name (name_in names h.number)) (price_by d.mode (get_or d.printed (h.number - 1) 0) r.got.price) (conditions_by h.after r.got.tail) (volume_by d.mode r.got.volume))
    r.rest

-- the end pair, unless a closing G pair served
unfoldable pub ended : Tail → List ℕ → List ℕ
ended t s = pick (given t.previous) s (past (bytes ">>") s)

unfoldable pub cancel_by : (ℕ → Part → Fact) → Mode → Read SideRead → Option Headed → Option Found
cancel_by kind mode r none = none
cancel_by kind mode r (some h) = there (kind h.number (part_by mode h.after r.got)) (ended r.got.tail r.rest)

-- the conditions after the name of a correcting trade, where the name is repeated
unfoldable pub after_by : List ℕ → After
after_by [] = after false plain
after_by (c ∷ s) = elim (divide (c ∷ s)).conditions [ none ↦ after false plain | some a ↦ a ]

unfoldable pub correction_by : Mode → Read SideRead → Read SideRead → Option Headed → Option Found
correction_by mode x y none = none
correction_by mode x y (some h) =
    there
    (corrected h.number (part_by mode h.after x.got) (part_by mode (after_by y.got.head) y.got))
    (ended y.got.tail y.rest)

unfoldable pub decode_correction : Names → Mode → List ℕ → Option Found
decode_correction names mode s =
    let x = read_side s in
    let y = read_side (past (bytes "WAS.") x.rest) in
    correction_by mode x y (head_of names x.got.head)

unfoldable pub decode_cancel : (ℕ → Part → Fact) → Names → Mode → List ℕ → Option Found
decode_cancel kind names mode s = let x = read_side s in cancel_by kind mode x (head_of names x.got.head)

unfoldable pub decode_trade : Names → Carried → List ℕ → Option Found
decode_trade names d s = let x = read_side s in trade_by names d x (head_of names x.got.head)

unfoldable pub decode : Names → Carried → List ℕ → Option Found
decode names d [] = none
decode names d (c ∷ s) =
    pick (starts (bytes "<<<") (c ∷ s)) (announcement_by (read_announcement (c ∷ s)))
    (pick (starts (bytes "<<CORR.") (c ∷ s)) (decode_correction names d.mode (past (bytes "<<CORR.") (c ∷ s)))
    (pick (starts (bytes "<<CXL.") (c ∷ s)) (decode_cancel cancelled names d.mode (past (bytes "<<CXL.") (c ∷ s)))
    (pick (starts (bytes "<<ERR.") (c ∷ s)) (decode_cancel erred names d.mode (past (bytes "<<ERR.") (c ∷ s)))
    (decode_trade names d (c ∷ s)))))
