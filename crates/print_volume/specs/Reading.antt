-- Volumes read back from a text. Assumes nothing.
use Rattle.std.specs.Prelude.{ℕ, ◌+◌, ◌*◌, ◌-◌, ◌/◌, ◌%◌, ◌&&◌, ◌||◌, not, List, [], ◌∷◌, ◌++◌, eqb, leb, ltb}
use Rattle.std.proofs.Math.Option.{Option, none, some}
use Rattle.text.specs.Bytes.{bytes}
use Rattle.text.specs.Pick.{pick}
use Rattle.text.specs.Reading.{Read, found, heads, is_digit, starts, past}
use Rattle.rules.specs.Tape.{is_upper}
use Rattle.rules.specs.Volume.{full_volume, is_round}

-- ---- figures: digits, and figure dots that stand before a digit

pub data Figure : Type 0 where
  digit dot stop : Figure

unfoldable pub figure : ℕ → List ℕ → Figure
figure c s = pick (is_digit c) digit (pick (eqb c 44 && heads is_digit s) dot stop)

-- the figures at the front, their dots passed over, onto a number that stands before them
unfoldable pub figures : ℕ → List ℕ → Read ℕ
figures a [] = found a []
figures a (c ∷ s) = elim (figure c s) [ digit ↦ figures (10 * a + (c - 48)) s | dot ↦ figures a s | stop ↦ found a (c ∷ s) ]

-- ---- a volume: its figures and its mark

pub data Mark : Type 0 where
  hundreds tens shares : Mark

unfoldable pub mark_text : Mark → List ℕ
mark_text hundreds = bytes "s"
mark_text tens = bytes "$"
mark_text shares = bytes "SHRS"

-- SHRS is a mark where the upper row ends with it: a longer run is a name's
unfoldable pub mark_at : List ℕ → Option Mark
mark_at s =
    pick (starts (bytes "s") s) (some hundreds)
    (pick (starts (bytes "$") s) (some tens)
    (pick (starts (bytes "SHRS") s && not (heads is_upper (past (bytes "SHRS") s))) (some shares) none))

-- what is shown of a volume: nothing, or figures with a mark
pub data Shown : Type 0 where
  unsaid : Shown
  said : ℕ → Mark → Shown

unfoldable pub shown_at : Read ℕ → List ℕ → Option Mark → Read Shown
shown_at r s none = found unsaid s
shown_at r s (some m) = found (said r.got m) (past (mark_text m) r.rest)

-- the volume at the front: figures are a volume's only before a mark
unfoldable pub read_volume : List ℕ → Read Shown
read_volume s = shown_at (figures 0 s) s (mark_at (figures 0 s).rest)

-- the number of shares that is shown so: nothing is 100; hundreds and tens are counted below 10,000, full from there
unfoldable pub shares_of : Shown → ℕ
shares_of unsaid = 100
shares_of (said n hundreds) = pick (leb n 99) (n * 100) n
shares_of (said n tens) = pick (leb n 999) (n * 10) n
shares_of (said n shares) = n

-- what is shown of a volume, under a unit and a network
unfoldable pub shown_of : ℕ → ℕ → ℕ → Shown
shown_of network unit v =
    pick (not (is_round unit v) || (eqb network 66 && ltb unit 100)) (said v shares)
    (pick (eqb unit 100) (pick (eqb v 100) unsaid (pick (ltb v 10000) (said (v / 100) hundreds) (said v hundreds)))
    (pick (ltb v 10000) (pick (eqb (v % 10) 0) (said (v / 10) tens) (said v shares)) (said v tens)))

unfoldable pub shown_text : Shown → List ℕ
shown_text unsaid = []
shown_text (said n m) = full_volume n ++ mark_text m
