use mathlib.Core.Path.{ap}
use mathlib.Core.Bool.{not}
use Rattle.call_trade.proofs.Carried.{left_off, decided}
use Rattle.call_trade.proofs.decide.Goals as goal

-- left off: the values are those that the rules ask for, nothing prints, and the security after it is stored
pub returns-then-not-prints : goal.returns-then-not-prints
returns-then-not-prints c = left_off _ _ _ _ _ _ _ _ _ _ c.in_units-value.ensures.0 c.for_range-ranges.ensures c.for_last-lasts.ensures c.has_rule-rule.ensures c.prints_by-prints.ensures c.after_by-after.ensures _ _ _ _ _ (ap not c.if-not-prints.true) c.store.ensures

-- each value that was worked out is the one that the rules ask for, and the trade prints
pub print_out-requires : goal.print_out-requires
print_out-requires c = (c.requires.0, c.requires.1, c.requires.2, decided _ _ _ _ _ _ _ _ _ _ c.in_units-value.ensures.0 c.for_range-ranges.ensures c.for_last-lasts.ensures c.has_rule-rule.ensures c.prints_by-prints.ensures c.after_by-after.ensures (ap not c.if-not-prints.false))
