use Rattle.read_conditions.proofs.Steps.{days_none, days_zero, days_are}
use Rattle.read_conditions.proofs.seller_days.Goals.{then-not-stands-via-then-not-stands, then-not-stands-via-else-not-stands+then-stands}
use Rattle.read_conditions.proofs.seller_days.Goals as goal

pub returns-then-not-stands : goal.returns-then-not-stands
returns-then-not-stands c = elim c.then-not-stands.branch [
  | then-not-stands-via-then-not-stands w ↦ search days_none
  | then-not-stands-via-else-not-stands+then-stands w ↦ search days_zero
]

pub returns : goal.returns
returns c = search days_are
