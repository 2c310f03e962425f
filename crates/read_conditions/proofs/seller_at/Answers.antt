use Rattle.read_conditions.proofs.Steps.{days_fit, days_room}
use borrow.Author.Rules.{rules}
use Rattle.read_conditions.proofs.seller_at.Goals as goal

pub overflow_add-days : goal.overflow_add-days
overflow_add-days c = record { fits = search days_fit }

pub further-requires : goal.further-requires
further-requires c = (search days_room, search rules)
