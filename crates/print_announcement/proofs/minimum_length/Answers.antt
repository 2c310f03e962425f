use Rattle.text.proofs.Writing.{length_joined}
use Rattle.rules.specs.Announcement.{minimum_text}
use borrow.Author.Rules.{rules}
use Rattle.print_announcement.proofs.minimum_length.Goals as goal

pub returns : goal.returns
unfolding minimum_text
returns c = (search length_joined, search rules)
