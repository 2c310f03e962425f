-- What a layer leaves of the scratch that it is lent, and the letter dot before a part. Assumes nothing.
use Rattle.std.specs.Prelude.{ℕ, ◌≤◌, ◌≡◌, List, [], eqb, length, take}
use Rattle.text.specs.Pick.{pick}
use Rattle.rules.specs.Names.{letter_dot}

-- the text stands at the front; the bytes behind it are free
pub record Laid (text before after : List ℕ) (count : ℕ) : Type 0 where
  pub front : take (length text) after ≡ text
  pub count_is : count ≡ length text
  pub size : length after ≡ length before
  pub within : count ≤ length before

-- the letter dot of the part in a field that begins with this byte: a blank part has none
unfoldable pub dot_text : ℕ → List ℕ
dot_text b = pick (eqb b 32) [] (letter_dot b)
