-- The front of a correction, up to its correcting trade (document 01, "Corrections and cancels"). Assumes nothing.
use Rattle.std.specs.Prelude.{ℕ, Bool, List, ◌++◌}
use Rattle.text.specs.Bytes.{bytes}
use Rattle.rules.specs.Side.{side_text}
use Rattle.rules.specs.declared.Side.{Side}
use Rattle.rules.specs.declared.PriceForm.{PriceForm}

unfoldable pub original_text : List ℕ → ℕ → ℕ → PriceForm → Bool → Side → List ℕ
original_text name network unit form shows x = bytes "<<CORR." ++ side_text name network unit form shows x ++ bytes "WAS."
