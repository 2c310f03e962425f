use Rattle.line_side.proofs.Amounts.{field_none}
use borrow.Author.Rules.{rules}
use Rattle.line_side.proofs.read_fields.Goals as goal

pub read_given-requires : goal.read_given-requires
read_given-requires c = (search rules, search (rules, field_none))

pub read_given-requires-2 : goal.read_given-requires-2
read_given-requires-2 c = (search rules, search (rules, field_none))

pub read_given-requires-3 : goal.read_given-requires-3
read_given-requires-3 c = (search rules, search (rules, field_none))
