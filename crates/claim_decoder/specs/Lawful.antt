-- What an accepted line's side owes to a decoder: values within document 01's, letters that do not exclude each other, days and previous last only where their letters ask for them. Assumes nothing.
use Rattle.std.specs.Prelude.{◌≡◌, true, false}
use Rattle.rules.specs.Price.{units}
use Rattle.rules.specs.declared.Side.{Side}
use Rattle.name_back.specs.Cut.{one_sold}
use Rattle.line_owed.specs.Owed.{OwedSide}

pub record LawfulSide (x : Side) : Type 0 where
  pub owed : OwedSide x
  pub sold : one_sold x.letters ≡ true
  pub days : x.letters.r ≡ false → x.days ≡ 0
  pub last : x.letters.g ≡ false → units x.previous ≡ 0
