use Rattle.call_table.proofs.Parts.{stored}
use Rattle.call_table.proofs.store.Goals as goal

pub returns : goal.returns
returns c = search stored
