use Rattle.read_conditions.proofs.Steps.{stands_within}
use Rattle.read_conditions.proofs.stands.Goals as goal

pub returns-clause-within : goal.returns-clause-within
returns-clause-within c = search stands_within
