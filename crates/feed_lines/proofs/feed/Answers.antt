use Rattle.feed_gather.proofs.Blocks.{from_to, here_err, here_number, turn_start, turn_less, turn_end, turn_stop, turn_on}
use Rattle.feed_lines.specs.Feed.{day_program}
use Rattle.feed_lines.proofs.Blocks.{turn_run, trades_none}
use borrow.Author.Rules.{rules}
use mathlib.Core.Path.{ap}
use mathlib.Core.Bool.{not}
use Rattle.feed_lines.proofs.feed.Goals as goal

pub loop-f-init : goal.loop-f-init
loop-f-init c = turn_start day_program _ _ _ _ _ _ _

pub returns-then-block-end : goal.returns-then-block-end
returns-then-block-end c = search trades_none

-- no room for the next line: what stands so far is what the definition stops at
pub returns-then-not-room_left : goal.returns-then-not-room_left
returns-then-not-room_left c = turn_stop (turn_run c.loop-f.invariant c.feed_trades-f.ensures) c.line_end-end.ensures c.if-block-end.false c.room_left.ensures (ap not c.if-not-room_left.true)

-- the line is the part of the block up to its line feed; the room that was asked for holds its print and its refusal line
pub feed_line-f-requires : goal.feed_line-f-requires
feed_line-f-requires c = let room = c.room_left.ensures in (search from_to, search rules, search rules, here_err day_program _ _ _ _ _ _ room (ap not c.if-not-room_left.false), here_number day_program _ _ _ _ _ _ room (ap not c.if-not-room_left.false))

pub loop-f-smaller : goal.loop-f-smaller
loop-f-smaller c = search turn_less

-- a turn: trades in a row, then one line of any kind, for which there was room; together the next lines of the block
pub loop-f-preserved : goal.loop-f-preserved
loop-f-preserved c = turn_on (turn_run c.loop-f.invariant c.feed_trades-f.ensures) c.line_end-end.ensures c.if-block-end.false c.room_left.ensures (ap not c.if-not-room_left.false) c.feed_line-f.ensures.0 c.feed_line-f.ensures.1

pub returns : goal.returns
returns c = search turn_end
