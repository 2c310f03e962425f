use Rattle.print_volume.proofs.Forms.{unsaid_long, said_long}
use borrow.Author.Rules.{rules}
use Rattle.print_volume.proofs.volume_length.Goals as goal

pub returns-then-is_unsaid : goal.returns-then-is_unsaid
returns-then-is_unsaid c = (search unsaid_long, search rules)

pub returns-else-is_unsaid : goal.returns-else-is_unsaid
returns-else-is_unsaid c = (search said_long, search rules)
