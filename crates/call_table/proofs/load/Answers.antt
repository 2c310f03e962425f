use Rattle.call_table.proofs.Parts.{loaded}
use Rattle.call_table.proofs.load.Goals as goal

pub returns : goal.returns
returns c = search loaded
