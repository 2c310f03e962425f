-- The names that an accepted S line has: what refusals 4 and 8 ask of its columns 6 to 24. Assumes nothing.
use Rattle.std.specs.Prelude.{ℕ, ◌≡◌, true, List}
use Rattle.rules.specs.Columns.{is_root}
use Rattle.rules.specs.Names.{root_field, lawful_name}

pub record NamePlain (network : ℕ) (name : List ℕ) : Type 0 where
  pub root : is_root (root_field name) ≡ true
  pub lawful : lawful_name network name ≡ true
