-- What a program says on standard error where a read or a write fails: its name, which of the two, and after which line of a day file, or place of a tape. Assumes nothing.
use Rattle.std.specs.Prelude.{ℕ, Bool, List, [], ◌∷◌, ◌++◌}
use Rattle.text.specs.Pick.{pick}
use Rattle.text.specs.Bytes.{bytes}
use Rattle.text.specs.Decimal.{decimal}

unfoldable pub what_text : Bool → List ℕ
what_text reading = pick reading (bytes ": cannot read standard input after ") (bytes ": cannot write standard output after ")

-- `unit` is `line ` or `place `
unfoldable pub trouble_text : List ℕ → Bool → List ℕ → ℕ → List ℕ
trouble_text name reading unit after = (((name ++ what_text reading) ++ unit) ++ decimal after) ++ (10 ∷ [])
