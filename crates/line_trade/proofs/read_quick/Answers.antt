use mathlib.Core.Path.{ap}
use mathlib.Core.Bool.{not}
use Rattle.line_trade.proofs.Fields.{placed_told, second_blank, quick_read}
use borrow.Author.Rules.{rules}
use Rattle.line_trade.proofs.read_quick.Goals as goal

pub first_letter-letters-requires : goal.first_letter-letters-requires
first_letter-letters-requires c = (search rules, second_blank c.args.line.now c.requires.0 _ c.is_short.ensures (ap not c.if-not-is_short.false))

pub read_values-requires : goal.read_values-requires
read_values-requires c = (search rules, search placed_told)

pub returns : goal.returns
returns c = quick_read c.args.line.now c.requires.0 _ c.is_short.ensures (ap not c.if-not-is_short.false) _ _ _ c.is_placed.ensures (ap not c.if-not-is_placed.false) c.first_letter-letters.ensures c.if-letters.false c.if-letters-2.false c.read_values.ensures c.requires.1
