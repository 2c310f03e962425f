-- The longest normal print at the front of a text (document 01, "Reader"), computed. Assumes nothing.
use Rattle.std.specs.Prelude.{ℕ, ◌+◌, Bool, true, false, List, leb, take, drop, Option, Some, None, Result, Ok, Err}
use Rattle.text.specs.Bytes.{bytes}
use Rattle.text.specs.Pick.{pick}
use Rattle.text.specs.Reading.{starts}
use Rattle.rules.specs.Correction.{repeats_name}
use Rattle.rules.specs.Line.{alike}
use Rattle.rules.specs.declared.Refusal.TheVariants.{NoPrint}
use Rattle.rules.specs.declared.Side.{Side}
use Rattle.rules.specs.declared.Refusal.{Refusal}
use Rattle.read_announcement.specs.Announced.{announced_length}
use Rattle.read_name.specs.declared.NameRead.{NameRead}
use Rattle.read_name.specs.Head.{head_at, again_at}
use Rattle.read_name.specs.declared.AgainRead.{AgainRead}
use Rattle.read_side.specs.declared.SideRead.{SideRead}
use Rattle.read_side.specs.Side.{side_at}
use Rattle.reader.specs.declared.PrintRead.{PrintRead}
use Rattle.reader.specs.declared.Print.TheVariants.{Announcement, Trade, Cancel, Error, Correction}
use Rattle.reader.specs.declared.Print.{Print}

-- ---- a trade: head and side

unfoldable pub trade_side : NameRead → Result SideRead Refusal → Result Print Refusal
trade_side h (Err r) = Err NoPrint
trade_side h (Ok x) = Ok (Trade (record { length = h.used + x.taken.used; from = 0; to = h.length; side = x.taken.side }))

unfoldable pub trade_head : List ℕ → Option NameRead → Result Print Refusal
trade_head s None = Err NoPrint
trade_head s (Some h) = trade_side h (side_at None h.letters h.a h.b (drop h.used s))

-- its temporary suffix may show
unfoldable pub trade_at : List ℕ → Result Print Refusal
trade_at s = trade_head s (head_at true s)

-- ---- the end pair: a closing G pair serves

-- the bytes up to and with the end pair, behind n that are used; none where it does not stand
unfoldable pub end_at : List ℕ → ℕ → Side → Option ℕ
end_at s n x = pick x.letters.g (Some n) (pick (starts (bytes ">>") (drop n s)) (Some (n + 2)) None)

-- ---- a cancel or an error: an opening of six bytes, head, side and end pair

unfoldable pub amended : Bool → PrintRead → Result Print Refusal
amended true p = Ok (Error p)
amended false p = Ok (Cancel p)

unfoldable pub ended_by : Bool → NameRead → Side → Option ℕ → Result Print Refusal
ended_by error h x None = Err NoPrint
ended_by error h x (Some n) = amended error (record { length = n; from = 6; to = 6 + h.length; side = x })

unfoldable pub cancel_side : List ℕ → Bool → NameRead → Result SideRead Refusal → Result Print Refusal
cancel_side s error h (Err r) = Err NoPrint
cancel_side s error h (Ok x) = ended_by error h x.taken.side (end_at s (6 + h.used + x.taken.used) x.taken.side)

unfoldable pub cancel_head : List ℕ → Bool → Option NameRead → Result Print Refusal
cancel_head s error None = Err NoPrint
cancel_head s error (Some h) = cancel_side s error h (side_at None h.letters h.a h.b (drop (6 + h.used) s))

unfoldable pub cancel_at : List ℕ → Bool → Result Print Refusal
cancel_at s error = cancel_head s error (head_at false (drop 6 s))

-- ---- a correction: an opening of seven bytes, the original, WAS., the correcting trade and end pair

unfoldable pub corrected_by : NameRead → Side → Side → Option ℕ → Result Print Refusal
corrected_by h x y None = Err NoPrint
corrected_by h x y (Some n) = Ok (Correction (record { length = n; from = 7; to = 7 + h.length; original = x; correcting = y }))

-- the correcting trade's side begins behind n bytes, u of them its head's; the name repeats exactly by its letters
unfoldable pub second_side : List ℕ → NameRead → Side → ℕ → ℕ → Result SideRead Refusal → Result Print Refusal
second_side s h x n u (Err r) = Err NoPrint
second_side s h x n u (Ok y) =
    pick (alike (repeats_name y.taken.side.letters) (leb 1 u))
    (corrected_by h x y.taken.side (end_at s (n + y.taken.used) y.taken.side))
    (Err NoPrint)

-- the correcting trade begins behind n bytes; one unit and one network explain both sides
unfoldable pub second_head : List ℕ → NameRead → SideRead → ℕ → Option AgainRead → Result Print Refusal
second_head s h x n None = Err NoPrint
second_head s h x n (Some g) =
    second_side s h x.taken.side (n + g.used) g.used (side_at (Some x.volume) g.letters x.taken.a x.taken.b (drop (n + g.used) s))

-- the original ends behind n bytes
unfoldable pub second_at : List ℕ → NameRead → SideRead → ℕ → Result Print Refusal
second_at s h x n =
    pick (starts (bytes "WAS.") (drop n s))
    (second_head s h x (n + 4) (again_at (take h.length (drop 7 s)) (drop (n + 4) s)))
    (Err NoPrint)

unfoldable pub correction_side : List ℕ → NameRead → Result SideRead Refusal → Result Print Refusal
correction_side s h (Err r) = Err NoPrint
correction_side s h (Ok x) = second_at s h x (7 + h.used + x.taken.used)

unfoldable pub correction_head : List ℕ → Option NameRead → Result Print Refusal
correction_head s None = Err NoPrint
correction_head s (Some h) = correction_side s h (side_at None h.letters h.a h.b (drop (7 + h.used) s))

unfoldable pub correction_at : List ℕ → Result Print Refusal
correction_at s = correction_head s (head_at false (drop 7 s))

-- ---- any print

unfoldable pub announced_by : Option ℕ → Result Print Refusal
announced_by None = Err NoPrint
announced_by (Some n) = Ok (Announcement n)

-- an announcement begins with three marks, a correction, cancel or error with two and its word
unfoldable pub print_at : List ℕ → Result Print Refusal
print_at s =
    pick (starts (bytes "<<<") s) (announced_by (announced_length s))
    (pick (starts (bytes "<<CORR.") s) (correction_at s)
    (pick (starts (bytes "<<CXL.") s) (cancel_at s false)
    (pick (starts (bytes "<<ERR.") s) (cancel_at s true)
    (trade_at s))))

-- the print at a place of a tape; past the end there is none
unfoldable pub read_at : List ℕ → ℕ → Result Print Refusal
read_at tape place = print_at (drop place tape)
