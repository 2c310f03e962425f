use Rattle.text.proofs.Writing.{length_named, length_joined}
use Rattle.print_announcement.proofs.Modes.{two_places, dollars_is}
use borrow.Author.Rules.{rules}
use Rattle.print_announcement.proofs.minimum_dollars_length.Goals as goal

pub returns : goal.returns
returns c = (search (length_named, length_joined, two_places, dollars_is), search rules)
