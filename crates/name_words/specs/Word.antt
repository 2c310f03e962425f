-- What the length of a field's text says. Assumes nothing.
use Rattle.std.specs.Prelude.{ℕ, ◌≤◌, ◌≡◌, List, length, take}
use Rattle.rules.specs.Columns.{word}

-- the text at the field's left is its first n bytes
pub record WordOf (field : List ℕ) (n : ℕ) : Type 0 where
  pub count_is : n ≡ length (word field)
  pub within : n ≤ length field
  pub text_is : word field ≡ take n field
