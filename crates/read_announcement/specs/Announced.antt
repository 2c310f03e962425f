-- Which texts are announcements, and the one at a place of a tape (document 01, "Announcements", "Reader"). Assumes nothing.
use Rattle.std.specs.Prelude.{ℕ, ◌+◌, ◌*◌, ◌-◌, ◌/◌, ◌≤◌, ◌≡◌, List, [], ◌∷◌, ltb, length, take, drop, Option, Some, None}
use Rattle.text.specs.Bytes.{bytes}
use Rattle.text.specs.Pick.{pick}
use Rattle.text.specs.Reading.{is_digit, starts}
use Rattle.rules.specs.Columns.{between}
use Rattle.rules.specs.Announcement.{minimum_text, mode_text, level_text}
use Rattle.rules.specs.declared.Mode.{Mode}

-- ---- an announcement: of a mode, with an MPV level that a P line may set, or of a level that a V line may set
pub data Announced (t : List ℕ) : Type 0 where
  mode : (m : Mode) (n : ℕ) → 1 ≤ n → n ≤ 100 → t ≡ mode_text m n → Announced t
  level : (n : ℕ) → 5000 ≤ n → n ≤ 100000 → t ≡ level_text n → Announced t

-- ---- the number that an announcement at the front would tell

-- one byte more onto a number, where it is a digit
unfoldable pub with_digit : ℕ → ℕ → ℕ
with_digit a c = pick (is_digit c) (10 * a + (c - 48)) a

-- the digits of a text, whatever stands between them, onto a number that stands before them
unfoldable pub digits_in : ℕ → List ℕ → ℕ
digits_in a [] = a
digits_in a (c ∷ s) = digits_in (with_digit a c) s

-- behind the 29 bytes that begin either text: at most k bytes, 0 where they are fewer
unfoldable pub number_at : ℕ → List ℕ → ℕ
number_at k s = pick (ltb (length s) (29 + k)) 0 (digits_in 0 (take k (drop 29 s)))

-- ---- the length of the announcement at the front, none where none stands

-- of the text t
unfoldable pub length_at : List ℕ → List ℕ → Option ℕ
length_at t s = pick (starts t s) (Some (length t)) None

-- of the text with the number n, from low to high
unfoldable pub length_by : (low high : ℕ) (text : ℕ → List ℕ) (n : ℕ) → List ℕ → Option ℕ
length_by low high text n s = pick (between low high n) (length_at (text n) s) None

-- of an MPV level: dollars of at most four bytes
unfoldable pub minimum_at : List ℕ → Option ℕ
minimum_at s = length_by 1 100 minimum_text (number_at 4 s / 5) s

-- of a volume delete level: a volume of at most seven
unfoldable pub level_at : List ℕ → Option ℕ
level_at s = length_by 5000 100000 level_text (number_at 7 s) s

unfoldable pub announced_in : List ℕ → Option ℕ
announced_in s =
    pick (starts (bytes "<<<TICKER.MODE.NORMAL>>") s) (Some 23)
    (pick (starts (bytes "<<<NOW.IN.DIGITS.&.VOLUME.DELETED.MODE>>") s) (Some 40)
    (pick (starts (bytes "<<<NOW.IN.REPEAT.PRICES.OMITTED.MODE>>") s) (Some 38)
    (pick (starts (bytes "<<<MIN.PRICE.CHGS.OMITTED.NOW") s) (minimum_at s) (level_at s))))

-- most places have no begin announce
unfoldable pub announced_length : List ℕ → Option ℕ
announced_length s = pick (starts (bytes "<<<") s) (announced_in s) None
