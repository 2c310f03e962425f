-- An announcement read back from a text. Assumes nothing.
use Rattle.std.specs.Prelude.{ℕ, ◌/◌, List}
use Rattle.std.proofs.Math.Option.{Option, none, some}
use Rattle.text.specs.Bytes.{bytes}
use Rattle.text.specs.Pick.{pick}
use Rattle.text.specs.Reading.{Read, found, number, starts, past}
use Rattle.print_volume.specs.Reading.{figures}

-- what an announcement tells: the mode entered, with the MPV level where it is MPV; or the volume delete level
pub data Told : Type 0 where
  normal dvd rpo : Told
  minimum : ℕ → Told
  level : ℕ → Told

-- level × 0.05 and its pair, after the text that begins it
unfoldable pub read_minimum : List ℕ → Read Told
read_minimum s =
    let w = number 0 s in
    let c = number w.got (past (bytes ",") w.rest) in
    found (minimum (c.got / 5)) (past (bytes ">>") c.rest)

unfoldable pub read_level : List ℕ → Read Told
read_level s =
    let v = figures 0 s in
    found (level v.got) (past (bytes "SHRS>>") v.rest)

-- the reader of the first text that stands at the front
unfoldable pub read_announcement : List ℕ → Option (Read Told)
read_announcement s =
    pick (starts (bytes "<<<TICKER.MODE.NORMAL>>") s) (some (found normal (past (bytes "<<<TICKER.MODE.NORMAL>>") s)))
    (pick (starts (bytes "<<<NOW.IN.DIGITS.&.VOLUME.DELETED.MODE>>") s) (some (found dvd (past (bytes "<<<NOW.IN.DIGITS.&.VOLUME.DELETED.MODE>>") s)))
    (pick (starts (bytes "<<<NOW.IN.REPEAT.PRICES.OMITTED.MODE>>") s) (some (found rpo (past (bytes "<<<NOW.IN.REPEAT.PRICES.OMITTED.MODE>>") s)))
    (pick (starts (bytes "<<<MIN.PRICE.CHGS.OMITTED.NOW") s) (some (read_minimum (past (bytes "<<<MIN.PRICE.CHGS.OMITTED.NOW") s)))
    (pick (starts (bytes "<<<VOLUME.DELETE.LEVEL.IS.NOW") s) (some (read_level (past (bytes "<<<VOLUME.DELETE.LEVEL.IS.NOW") s))) none))))
