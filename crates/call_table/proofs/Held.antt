-- The day that the tables hold: what is stored at a security's number is the day's list set there. Assumes nothing.
use Prim.Native.Nat.{ℕ, ◌+◌, ◌-◌, ◌*◌, ◌≤◌}
use native.Mathlib.Omega.{arith}
use mathlib.Core.Path.{◌≡◌, ap, ◌∙◌}
use mathlib.Core.List.{List}
use lib.ListN.{length, set, replicate}
use Rattle.call_table.specs.Sizes.{table_size, names_size}
use Rattle.rules.specs.Sizes.{name_width, security_places}
use Rattle.rules.specs.declared.Security.{Security}
use Rattle.rules.specs.declared.Settings.{Settings}
use Rattle.rules.specs.Day.{opened, cleared, security_at, name_at}
use Rattle.call_table.specs.Rows.{row, with_row, name_of, with_name, rows_from, names_from, day_of}
use Rattle.call_table.proofs.Places.{rows_get, rows_set, rows_cleared, names_get, names_set, names_cleared}

module _ (st : Settings) (t names : List ℕ) (i : ℕ) (low : 1 ≤ i) (high : i ≤ security_places) where
  pub held_security : security_at (day_of st t names) i ≡ row t (i - 1)
  unfolding day_of
  held_security = rows_get security_places 0 (i - 1) t (omega arith) ∙ ap (row t) (omega arith)

  pub held_name : name_at (day_of st t names) i ≡ name_of names (i - 1)
  unfolding day_of
  held_name = names_get security_places 0 (i - 1) names (omega arith) ∙ ap (name_of names) (omega arith)

  pub security_set : (s : Security) → length t ≡ table_size → rows_from security_places 0 (with_row t (i - 1) s) ≡ set (rows_from security_places 0 t) (i - 1) s
  security_set s l =
      let e : i - 1 ≡ 0 + (i - 1) = omega arith in
      ap (λ (k : ℕ). rows_from security_places 0 (with_row t k s)) e ∙ rows_set security_places 0 (i - 1) t s (omega arith) (omega arith)

  pub name_set : (name : List ℕ) → length name ≡ name_width → length names ≡ names_size → names_from security_places 0 (with_name names ((i - 1) * name_width) name) ≡ set (names_from security_places 0 names) (i - 1) name
  name_set name e l =
      let q : i - 1 ≡ 0 + (i - 1) = omega arith in
      ap (λ (k : ℕ). names_from security_places 0 (with_name names (k * name_width) name)) q ∙ names_set security_places 0 (i - 1) names name e (omega arith) (omega arith)

-- cleared tables hold a cleared day
pub held_cleared : (date : ℕ) → day_of (opened date) (replicate table_size 0) (replicate names_size 0) ≡ cleared date
unfolding day_of cleared
held_cleared date = rw (rows_cleared security_places 0 table_size, names_cleared security_places 0 names_size (omega arith))
