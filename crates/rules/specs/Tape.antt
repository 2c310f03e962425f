-- Document 01, "Tape characters". Assumes nothing.
use Rattle.std.specs.Prelude.{ℕ, Bool, ◌&&◌, ◌||◌, leb}
use Rattle.text.specs.Bytes.{bytes}
use Rattle.text.specs.Pick.{among}

-- A-Z
unfoldable pub is_letter : ℕ → Bool
is_letter c = leb 65 c && leb c 90

-- upper row: A-Z, `&`, `.` (letter dot), `p` `r` `w` (raised Pr, Rt, Wi)
unfoldable pub is_upper : ℕ → Bool
is_upper c = is_letter c || among c (bytes "&.prw")

-- lower row: 0-9, `,` (figure dot), `s` (hundreds mark), `$` (tens mark), `t` (stopped), `b`, `c`, `<`, `>`
unfoldable pub is_lower : ℕ → Bool
is_lower c = among c (bytes "0123456789,s$tbc<>")

-- the raised letters
unfoldable pub is_raised : ℕ → Bool
is_raised c = among c (bytes "prw")
