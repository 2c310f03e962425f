-- Room for a line, and a print within its tape. Assumes nothing.
use Prim.Native.Nat.{ℕ, zero, suc, ◌+◌, ◌-◌, ◌^◌, ◌≤◌, ◌<◌}
use native.Mathlib.Omega.{arith}
use mathlib.Core.Path.{◌≡◌, refl}
use mathlib.Core.List.{List}
use lib.ListN.{length}
use Rattle.reader.specs.Read.{read_at}
use Rattle.reader.specs.Told.{length_of}
use Rattle.reader.proofs.Bounds.{read_length}
use Rattle.reader.specs.declared.Print.{Print}
use Rattle.read_told.specs.Lines.{told_line}
use Rattle.read_told.proofs.Short.{told_short}
use Rattle.rules.specs.declared.Refusal.{Refusal}

pub line_room : (tape : List ℕ) (place m : ℕ) → length tape ≤ 8192 → place < length tape → 8704 ≤ m → length (told_line tape place) ≤ m
line_room tape place m h k l = omega (arith, told_short tape place (omega arith) (omega arith), l)

module _ (tape : List ℕ) (place n : ℕ) (k : n ≡ length_of (read_at tape place)) (h : place < length tape) where
  pub next_place : place + n ≤ length tape
  next_place = read_length tape place (read_at tape place) refl n k (omega arith)

  pub next_fits : length tape < 2 ^ 64 → place + n < 2 ^ 64
  next_fits l = omega (arith, next_place)

  pub less_left : (n ≡ 0 → ⊥) → length tape - (place + n) < length tape - place
  less_left z = some n z
    where
      some : (m : ℕ) → (m ≡ 0 → ⊥) → length tape - (place + m) < length tape - place
      some zero y = absurd (y refl)
      some (suc m) y = omega arith
