use Rattle.text.proofs.Writing.{length_joined}
use Rattle.rules.specs.Announcement.{level_text}
use borrow.Author.Rules.{rules}
use Rattle.print_announcement.proofs.level_length.Goals as goal

pub returns : goal.returns
unfolding level_text
returns c = (search length_joined, search rules)
