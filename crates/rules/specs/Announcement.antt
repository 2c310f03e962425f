-- Document 01, "Announcements". Assumes nothing.
use Rattle.std.specs.Prelude.{ℕ, ◌*◌, ◌/◌, List, ◌++◌}
use Rattle.text.specs.Bytes.{bytes}
use Rattle.text.specs.Decimal.{places}
use Rattle.rules.specs.Volume.{full_volume}
use Rattle.rules.specs.Price.{whole_text}
use Rattle.rules.specs.declared.Mode.{Mode}
use Rattle.rules.specs.declared.Mode.TheVariants.{Normal, Dvd, Rpo, Mpv}

-- level × 0.05, two decimals
unfoldable pub minimum_dollars : ℕ → List ℕ
minimum_dollars minimum = whole_text (5 * minimum / 100) ++ bytes "," ++ places 2 (5 * minimum)

unfoldable pub minimum_text : ℕ → List ℕ
minimum_text minimum = bytes "<<<MIN.PRICE.CHGS.OMITTED.NOW" ++ minimum_dollars minimum ++ bytes ">>"

-- M: the mode entered, with the MPV level in force
unfoldable pub mode_text : Mode → ℕ → List ℕ
mode_text Normal minimum = bytes "<<<TICKER.MODE.NORMAL>>"
mode_text Dvd minimum = bytes "<<<NOW.IN.DIGITS.&.VOLUME.DELETED.MODE>>"
mode_text Rpo minimum = bytes "<<<NOW.IN.REPEAT.PRICES.OMITTED.MODE>>"
mode_text Mpv minimum = minimum_text minimum

-- V: the level as a full volume
unfoldable pub level_text : ℕ → List ℕ
level_text level = bytes "<<<VOLUME.DELETE.LEVEL.IS.NOW" ++ full_volume level ++ bytes "SHRS>>"

-- P prints this too while in MPV, otherwise nothing
unfoldable pub step_text : Mode → ℕ → List ℕ
step_text Normal minimum = bytes ""
step_text Dvd minimum = bytes ""
step_text Rpo minimum = bytes ""
step_text Mpv minimum = minimum_text minimum
