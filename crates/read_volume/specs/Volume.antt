-- A volume at the front of a tape (document 01, "Volume"), and the networks and units under which a volume prints so. Assumes nothing.
use Rattle.std.specs.Prelude.{ℕ, suc, zero, ◌+◌, ◌*◌, ◌-◌, ◌%◌, Bool, false, ◌&&◌, ◌||◌, not, List, [], ◌∷◌, ◌++◌, eqb, leb, ltb, take, drop, Option, Some, None}
use Rattle.text.specs.Bytes.{bytes}
use Rattle.text.specs.Pick.{pick, same}
use Rattle.text.specs.Reading.{heads, is_digit, starts}
use Rattle.rules.specs.Columns.{between}
use Rattle.rules.specs.Volume.{full_volume, is_round}
use Rattle.print_volume.specs.Reading.{digit, dot, stop, figure}
use Rattle.read_price.specs.declared.Digits.{Digits}
use Rattle.read_volume.specs.declared.Volume.{Volume}
use Rattle.read_volume.specs.declared.Volume.TheVariants.{Unsaid, Hundreds, Tens, Shares}
use Rattle.read_volume.specs.declared.VolumeRead.{VolumeRead}

-- a digit, or a figure dot before a digit
unfoldable pub is_figure : List ℕ → Bool
is_figure [] = false
is_figure (c ∷ s) = is_digit c || (eqb c 44 && heads is_digit s)

-- a figure behind those worth a; figure dots are passed over
unfoldable pub figure_onto : ℕ → ℕ → ℕ
figure_onto a c = pick (ltb c 48) a (10 * a + (c - 48))

-- at most k bytes more of figures, after j bytes of figures that are worth a: digits, and figure dots before a digit, passed over
unfoldable pub figures_onto : ℕ → ℕ → ℕ → List ℕ → Digits
figures_onto zero a j s = record { count = j; value = a }
figures_onto (suc k) a j [] = record { count = j; value = a }
figures_onto (suc k) a j (c ∷ s) = elim (figure c s) [
  | digit ↦ figures_onto k (10 * a + (c - 48)) (suc j) s
  | dot ↦ figures_onto k a (suc j) s
  | stop ↦ record { count = j; value = a }
]

-- a full volume has at most eleven
abbrev pub figures_at : List ℕ → Digits
figures_at s = figures_onto 12 0 0 s

-- the figures are exactly a full volume's, below 1,000,000,000: then the volume v, which has k bytes of mark behind them
unfoldable pub said_by : List ℕ → Digits → Volume → ℕ → Option VolumeRead
said_by s f v k = pick (ltb f.value 1000000000 && same (take f.count s) (full_volume f.value)) (Some (record { volume = v; used = f.count + k })) None

-- what stands behind the figures tells what they count
unfoldable pub marked_by : List ℕ → Digits → List ℕ → Option VolumeRead
marked_by s f rest =
    pick (starts (bytes "s") rest) (said_by s f (Hundreds f.value) 1)
    (pick (starts (bytes "$") rest) (said_by s f (Tens f.value) 1)
    (pick (starts (bytes "SHRS") rest) (said_by s f (Shares f.value) 4) None))

unfoldable pub volume_at : List ℕ → Option VolumeRead
volume_at s = marked_by s (figures_at s) (drop (figures_at s).count s)

-- the number of shares that is shown so: nothing is 100; hundreds and tens are counted below 10,000, full from there
unfoldable pub shares_in : Volume → ℕ
shares_in Unsaid = 100
shares_in (Hundreds n) = pick (leb n 99) (n * 100) n
shares_in (Tens n) = pick (leb n 999) (n * 10) n
shares_in (Shares n) = n

-- the figures that show it
unfoldable pub figures_of : Volume → ℕ
figures_of Unsaid = 0
figures_of (Hundreds n) = n
figures_of (Tens n) = n
figures_of (Shares n) = n

-- the text that shows it
unfoldable pub said_text : Volume → List ℕ
said_text Unsaid = []
said_text (Hundreds n) = full_volume n ++ bytes "s"
said_text (Tens n) = full_volume n ++ bytes "$"
said_text (Shares n) = full_volume n ++ bytes "SHRS"

-- a volume prints so on the network, with the unit of trading
unfoldable pub hundreds_explained : ℕ → ℕ → Bool
hundreds_explained unit n = eqb unit 100 && (between 2 99 n || (leb 10000 n && eqb (n % 100) 0))

unfoldable pub tens_explained : ℕ → ℕ → ℕ → Bool
tens_explained network unit n = eqb network 65 && (ltb unit 100 && ((between 1 999 n && is_round unit (n * 10)) || (leb 10000 n && is_round unit n)))

unfoldable pub shares_explained : ℕ → ℕ → ℕ → Bool
shares_explained network unit n = leb 1 n && (not (is_round unit n) || (ltb unit 100 && (eqb network 66 || (ltb n 10000 && not (eqb (n % 10) 0)))))

unfoldable pub explains : ℕ → ℕ → Volume → Bool
explains network unit Unsaid = eqb unit 100
explains network unit (Hundreds n) = hundreds_explained unit n
explains network unit (Tens n) = tens_explained network unit n
explains network unit (Shares n) = shares_explained network unit n

-- one unit of trading under which both volumes print so on the network
unfoldable pub explains_both : ℕ → ℕ → Volume → Volume → Bool
explains_both network unit x y = explains network unit x && explains network unit y

unfoldable pub explained : ℕ → Volume → Volume → Bool
explained network x y =
    explains_both network 100 x y
    || (explains_both network 50 x y
    || (explains_both network 25 x y
    || (explains_both network 10 x y
    || explains_both network 1 x y)))
