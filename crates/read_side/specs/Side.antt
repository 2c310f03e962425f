-- A side of a normal print behind its head (document 01, "Reader"): volume, price, conditions; one reader for T, C, X and E. Assumes nothing.
use Rattle.std.specs.Prelude.{ℕ, ◌+◌, Bool, ◌&&◌, ◌||◌, List, drop, Option, Some, None, Result, Ok, Err}
use Rattle.text.specs.Pick.{pick}
use Rattle.rules.specs.declared.Letters.{Letters}
use Rattle.rules.specs.declared.Refusal.TheVariants.{NoPrint}
use Rattle.rules.specs.declared.Refusal.{Refusal}
use Rattle.read_volume.specs.declared.Volume.{Volume}
use Rattle.read_volume.specs.declared.Volume.TheVariants.{Unsaid}
use Rattle.read_price.specs.Price.{price_at}
use Rattle.read_price.specs.declared.PriceRead.{PriceRead}
use Rattle.read_volume.specs.Volume.{volume_at, shares_in, explained}
use Rattle.read_volume.specs.declared.VolumeRead.{VolumeRead}
use Rattle.read_conditions.specs.Tail.{tail_at}
use Rattle.read_side.specs.declared.SideRead.{SideRead}

abbrev pub one : Bool → ℕ
one b = pick b 1 0

-- how many letters stand after the name
unfoldable pub head_count : Letters → ℕ
head_count x = one x.o + (one x.s + (one x.l + one x.m))

-- the volume that one unit of trading must explain beside v: the original's, where v is the correcting trade's
unfoldable pub beside : Option Volume → Volume → Volume
beside None v = v
beside (Some x) v = x

-- with a price read, the conditions behind it
unfoldable pub sided_by : List ℕ → Letters → Volume → ℕ → Bool → Bool → Option PriceRead → Result SideRead Refusal
sided_by part letters v used a b None = Err NoPrint
sided_by part letters v used a b (Some p) =
    Ok (record {
      volume = v;
      taken = tail_at part (record {
        side = record { volume = shares_in v; price = p.price; letters = letters; days = 0; previous = record { n = 0; d = 0 } };
        used = used + p.used;
        count = head_count letters;
        a = a;
        b = b;
      });
    })

-- a side with the volume v in its first bytes: some network that the head allows explains it
unfoldable pub side_with : Option Volume → Letters → Bool → Bool → List ℕ → Volume → ℕ → Result SideRead Refusal
side_with first letters a b part v used =
    pick ((a && explained 65 (beside first v) v) || (b && explained 66 (beside first v) v))
    (sided_by part letters v used (a && explained 65 (beside first v) v) (b && explained 66 (beside first v) v) (price_at (drop used part)))
    (Err NoPrint)

-- with a volume shown
unfoldable pub said_side : Option Volume → Letters → Bool → Bool → List ℕ → Option VolumeRead → Result SideRead Refusal
said_side first letters a b part None = Err NoPrint
said_side first letters a b part (Some v) = side_with first letters a b part v.volume v.used

unfoldable pub or_else : Result SideRead Refusal → Result SideRead Refusal → Result SideRead Refusal
or_else (Ok x) y = Ok x
or_else (Err r) y = y

-- with a volume shown, else without
unfoldable pub side_at : Option Volume → Letters → Bool → Bool → List ℕ → Result SideRead Refusal
side_at first letters a b part = or_else (said_side first letters a b part (volume_at part)) (side_with first letters a b part Unsaid 0)
