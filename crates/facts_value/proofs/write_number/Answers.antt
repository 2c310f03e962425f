use Rattle.text.proofs.Writing.{choices}
use Rattle.facts_value.specs.Values.{number_text}
use Rattle.facts_value.proofs.write_number.Goals as goal

pub write_bytes-requires : goal.write_bytes-requires
unfolding number_text
write_bytes-requires c = search choices

pub returns-then-n-eq0 : goal.returns-then-n-eq0
unfolding number_text
returns-then-n-eq0 c = search choices

pub write_decimal-requires : goal.write_decimal-requires
unfolding number_text
write_decimal-requires c = search choices

pub returns-else-n-eq0 : goal.returns-else-n-eq0
unfolding number_text
returns-else-n-eq0 c = search choices
