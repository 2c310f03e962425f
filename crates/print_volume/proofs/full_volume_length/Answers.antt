use Rattle.text.proofs.Writing.{choices, length_joined}
use Rattle.print_volume.proofs.Lengths.{group_length, groups_length}
use Rattle.rules.specs.Volume.{full_volume}
use borrow.Author.Rules.{rules}
use Rattle.print_volume.proofs.full_volume_length.Goals as goal

pub returns-then-n-lt10000 : goal.returns-then-n-lt10000
unfolding full_volume
returns-then-n-lt10000 c = (search (choices, length_joined, group_length, groups_length), search rules)

pub returns-then-n-lt1000000 : goal.returns-then-n-lt1000000
unfolding full_volume
returns-then-n-lt1000000 c = (search (choices, length_joined, group_length, groups_length), search rules)

pub returns-else-n-lt1000000 : goal.returns-else-n-lt1000000
unfolding full_volume
returns-else-n-lt1000000 c = (search (choices, length_joined, group_length, groups_length), search rules)
