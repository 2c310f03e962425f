-- What every day has that calls lead to from a fresh one. Assumes nothing.
use Rattle.std.specs.Prelude.{ℕ, ◌<◌, ◌≡◌, true, false, List, length, get_or}
use Rattle.rules.specs.Sizes.{security_places}
use Rattle.rules.specs.Columns.{between}
use Rattle.rules.specs.Names.{same_name}
use Rattle.rules.specs.Day.{Day, vacant, no_name, is_entered}
use Rattle.rules.specs.declared.Security.{Security}
use Rattle.line_owed.specs.Shown.{Enterable}

-- the security and the name at a place, from 0
abbrev pub at_place : Day → ℕ → Security
at_place day i = get_or day.securities i vacant

abbrev pub named : Day → ℕ → List ℕ
named day i = get_or day.names i no_name

-- 512 places, each with a security that an S line can enter or none, no name twice, an MPV level that a P line can set
pub record Reached (day : Day) : Type 0 where
  pub places : length day.securities ≡ security_places
  pub lines : length day.names ≡ security_places
  pub unnamed : (i : ℕ) → i < security_places → is_entered (at_place day i) ≡ false → named day i ≡ no_name
  pub enterable : (i : ℕ) → i < security_places → is_entered (at_place day i) ≡ true → Enterable (at_place day i).issue.network (at_place day i).issue.unit (named day i)
  pub distinct : (i j : ℕ) → i < security_places → j < security_places → (i ≡ j → ⊥) → is_entered (at_place day i) ≡ true → is_entered (at_place day j) ≡ true → same_name (named day i) (named day j) ≡ false
  pub minimum_set : between 1 100 day.settings.minimum ≡ true

-- the second day has every security of the first, under the same name and network
pub record Later (day e : Day) : Type 0 where
  pub stays : (i : ℕ) → i < security_places → is_entered (at_place day i) ≡ true → is_entered (at_place e i) ≡ true
  pub same_network : (i : ℕ) → i < security_places → is_entered (at_place day i) ≡ true → (at_place e i).issue.network ≡ (at_place day i).issue.network
  pub name_kept : (i : ℕ) → i < security_places → is_entered (at_place day i) ≡ true → named e i ≡ named day i
