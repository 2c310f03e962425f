-- The name at a place, as the code cuts it out. Assumes nothing.
use Prim.Native.Nat.{ℕ, ◌+◌, ◌-◌, ◌*◌, ◌<◌}
use native.Mathlib.Omega.{arith}
use mathlib.Core.Path.{◌≡◌}
use mathlib.Core.List.{List}
use lib.ListN.{length, take, drop, length-take, length-drop}
use Rattle.rules.specs.Sizes.{name_width, security_places}
use Rattle.call_table.specs.Sizes.{names_size}
use Rattle.call_table.specs.Rows.{name_of}

abbrev pub cut_out : List ℕ → ℕ → List ℕ
cut_out names i = take (i * name_width + name_width - i * name_width) (drop (i * name_width) names)

module _ (names : List ℕ) (i : ℕ) where
  pub slot : cut_out names i ≡ name_of names i
  unfolding name_of
  slot = let q : i * name_width + name_width - i * name_width ≡ name_width = omega arith in rw q

  pub slot_length : i < security_places → length names ≡ names_size → length (cut_out names i) ≡ name_width
  slot_length h l = rw (length-take, length-drop) (omega arith)
