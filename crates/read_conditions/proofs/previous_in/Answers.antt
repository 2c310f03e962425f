use Rattle.read_conditions.proofs.Steps.{previous_none, previous_is, price_part, closed_room, closed_fits, closed_yes, closed_no, closed_none}
use Rattle.read_conditions.proofs.previous_in.Goals as goal

pub returns-then-not-stands : goal.returns-then-not-stands
returns-then-not-stands c = search previous_none

pub returns-in_err-p : goal.returns-in_err-p
returns-in_err-p c = let h = c.in_err-p.was in rw c.from_residual.ensures (search (previous_is, closed_none))

pub overflow_add-i-2 : goal.overflow_add-i-2
overflow_add-i-2 c = let h = c.in_ok-p.was in let k = c.if-not-stands.ensures.within in record { fits = search (closed_fits, price_part) }

pub stands-requires-2 : goal.stands-requires-2
stands-requires-2 c = let h = c.in_ok-p.was in let k = c.if-not-stands.ensures.within in search (closed_room, price_part)

pub returns-then-stands : goal.returns-then-stands
returns-then-stands c = let h = c.in_ok-p.was in search (previous_is, closed_yes)

pub returns-else-stands : goal.returns-else-stands
returns-else-stands c = let h = c.in_ok-p.was in search (previous_is, closed_no)
