use Rattle.text.proofs.Writing.{choices}
use Rattle.facts_value.specs.Values.{value_or_none}
use Rattle.facts_value.proofs.write_value_or_none.Goals as goal

pub write_bytes-requires : goal.write_bytes-requires
unfolding value_or_none
write_bytes-requires c = search choices

pub returns-then-u-eq0 : goal.returns-then-u-eq0
unfolding value_or_none
returns-then-u-eq0 c = search choices

pub write_value-requires : goal.write_value-requires
unfolding value_or_none
write_value-requires c = search choices

pub returns-else-u-eq0 : goal.returns-else-u-eq0
unfolding value_or_none
returns-else-u-eq0 c = search choices
