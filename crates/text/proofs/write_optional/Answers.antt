use Rattle.text.proofs.Writing.{options}
use Rattle.text.proofs.write_optional.Goals as goal

pub write_bytes-requires : goal.write_bytes-requires
write_bytes-requires c = search options

pub returns-then-test : goal.returns-then-test
returns-then-test c = search options

pub returns-else-test : goal.returns-else-test
returns-else-test c = search options
