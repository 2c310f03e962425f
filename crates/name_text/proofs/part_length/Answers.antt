use Rattle.name_text.proofs.Text.{length_none, length_raised, length_dotted}
use borrow.Author.Rules.{rules}
use Rattle.name_text.proofs.part_length.Goals as goal

pub returns-then-n-eq0 : goal.returns-then-n-eq0
returns-then-n-eq0 c = (search length_none, search rules)

pub returns-then-is_raised : goal.returns-then-is_raised
returns-then-is_raised c = (search length_raised, search rules)

pub returns-else-is_raised : goal.returns-else-is_raised
returns-else-is_raised c = (search length_dotted, search rules)
