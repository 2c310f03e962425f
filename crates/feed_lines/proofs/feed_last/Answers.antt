use Rattle.feed_gather.proofs.Blocks.{here_err, here_number, last_stop}
use Rattle.feed_lines.specs.Feed.{day_program}
use Rattle.feed_lines.proofs.Blocks.{last_run, last_trade, last_line}
use borrow.Author.Rules.{rules}
use mathlib.Core.Path.{ap}
use mathlib.Core.Bool.{not}
use Rattle.feed_lines.proofs.feed_last.Goals as goal

pub returns-then-end-f : goal.returns-then-end-f
returns-then-end-f c = search last_trade

pub returns-then-not-room_left : goal.returns-then-not-room_left
returns-then-not-room_left c = last_stop (last_run c.feed_trades-f.ensures) c.if-end-f.false c.room_left.ensures (ap not c.if-not-room_left.true)

-- as in `feed`: the room that was asked for holds the print and the refusal line
pub feed_line-requires : goal.feed_line-requires
feed_line-requires c = let room = c.room_left.ensures in (search rules, search rules, search rules, here_err day_program _ _ _ _ _ _ room (ap not c.if-not-room_left.false), here_number day_program _ _ _ _ _ _ room (ap not c.if-not-room_left.false))

pub returns : goal.returns
returns c = search last_line
