use Rattle.call_plan.proofs.Plans.{planned}
use Rattle.call_plan.proofs.print_plan.Goals as goal

-- each call answered what the rules say of the side; the law is applied outright, since a search among a whole security is too wide
pub returns : goal.returns
returns c = planned _ _ _ _ _ _ _ _ _ _ _ _ _
    c.after_by.ensures
    c.shows_by.ensures
    c.form_by.ensures
    c.prints_by-prints.ensures
    c.shows_temporary.ensures
    c.in_units-value.ensures.0
    c.whole_part-whole.ensures
    c.for_range-ranges.ensures
    c.for_last-lasts.ensures
    c.has_rule-rule.ensures
