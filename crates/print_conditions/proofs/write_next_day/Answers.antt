use Rattle.text.proofs.Writing.{answers}
use Rattle.print_conditions.proofs.write_next_day.Goals as goal

pub write_optional-requires : goal.write_optional-requires
write_optional-requires c = search answers

pub returns : goal.returns
returns c = search answers
