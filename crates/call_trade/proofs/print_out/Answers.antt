use mathlib.Core.Path.{ap}
use mathlib.Core.Bool.{not}
use Rattle.call_trade.proofs.Carried.{no_room, fits, printed}
use borrow.Author.Rules.{rules}
use Rattle.call_trade.proofs.print_out.Goals as goal

pub returns-then-not-has_room : goal.returns-then-not-has_room
returns-then-not-has_room c = search no_room

pub write_side-k-requires : goal.write_side-k-requires
write_side-k-requires c = (search rules, search rules, search rules, fits _ _ _ c.has_room.ensures (ap not c.if-not-has_room.false))

pub returns : goal.returns
returns c = search printed
