use Rattle.print_volume.proofs.Forms.{unsaid_written}
use Rattle.print_amounts.proofs.Volumes.{cut_digits, few_digits, short_written}
use borrow.Author.Rules.{rules}
use Rattle.print_amounts.proofs.write_short.Goals as goal

pub returns-then-is_unsaid : goal.returns-then-is_unsaid
returns-then-is_unsaid c = search unsaid_written

pub overflow_sub-k : goal.overflow_sub-k
overflow_sub-k c = search cut_digits

pub write_marked-requires : goal.write_marked-requires
write_marked-requires c = (search rules, search rules, search rules, search rules, search few_digits, search rules, search rules)

pub returns : goal.returns
returns c = search short_written
