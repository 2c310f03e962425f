use Rattle.call_state.proofs.Opened.{table_open}
use Rattle.call_state.proofs.update_table.Goals as goal

pub returns-in-Open : goal.returns-in-Open
returns-in-Open c = search table_open
