use Rattle.facts_side.proofs.Sets.{sets}
use Rattle.facts_side.proofs.write_set.Goals as goal

pub write_letters-n-requires : goal.write_letters-n-requires
write_letters-n-requires c = search sets

pub write_bytes-requires : goal.write_bytes-requires
write_bytes-requires c = search sets

pub returns-then-n-eq0 : goal.returns-then-n-eq0
returns-then-n-eq0 c = search sets

pub returns-else-n-eq0 : goal.returns-else-n-eq0
returns-else-n-eq0 c = search sets
