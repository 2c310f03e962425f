use Rattle.read_conditions.proofs.Steps.{last_fits, last_room}
use borrow.Author.Rules.{rules}
use Rattle.read_conditions.proofs.previous_at.Goals as goal

pub overflow_add-p : goal.overflow_add-p
overflow_add-p c = record { fits = search last_fits }

pub further-taken-requires : goal.further-taken-requires
further-taken-requires c = (search last_room, search rules)
