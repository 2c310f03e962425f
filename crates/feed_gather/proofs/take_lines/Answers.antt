use Rattle.std.proofs.Common.{◌≤◌, length, arith, ap, not}
use Rattle.feed_gather.specs.Gather.{telling}
use Rattle.feed_gather.proofs.Blocks.{from_to, room_is, here_out, here_number, turn_start, turn_less, turn_end, turn_none, turn_stop, turn_on}
use Rattle.feed_gather.proofs.take_lines.Goals as goal

pub loop-f-init : goal.loop-f-init
loop-f-init g c = rw c.nothing_read-f.ensures (turn_start (telling g.T.Tell.ROOM g.T.Tell.text) _ _ _ _ _ _ _)

pub returns-then-block-end : goal.returns-then-block-end
returns-then-block-end g c = search turn_none

pub returns-then-not-room_left : goal.returns-then-not-room_left
returns-then-not-room_left g c = turn_stop c.loop-f.invariant c.line_end-end.ensures c.if-block-end.false (room_is (telling g.T.Tell.ROOM g.T.Tell.text) _ _ _ _ _ _ (rw c.ROOM.ensures at c.room_left.ensures)) (ap not c.if-not-room_left.true)

pub take_line-f-requires : goal.take_line-f-requires
take_line-f-requires g c =
    let inside : c.line_end-end.result ≤ length c.args.block.now = omega arith in
    let room = room_is (telling g.T.Tell.ROOM g.T.Tell.text) _ _ _ _ _ _ (rw c.ROOM.ensures at c.room_left.ensures) in
    let on = ap not c.if-not-room_left.false in
    (from_to _ _ _ c.line_end-end.ensures, inside, c.loop-f.invariant.out_in, here_out (telling g.T.Tell.ROOM g.T.Tell.text) _ _ _ _ _ _ room on, here_number (telling g.T.Tell.ROOM g.T.Tell.text) _ _ _ _ _ _ room on)

pub loop-f-smaller : goal.loop-f-smaller
loop-f-smaller g c = turn_less _ _ _ _ _ (omega arith) c.line_end-end.ensures c.if-block-end.false c.take_line-f.ensures.1

pub loop-f-preserved : goal.loop-f-preserved
loop-f-preserved g c = turn_on c.loop-f.invariant c.line_end-end.ensures c.if-block-end.false (room_is (telling g.T.Tell.ROOM g.T.Tell.text) _ _ _ _ _ _ (rw c.ROOM.ensures at c.room_left.ensures)) (ap not c.if-not-room_left.false) c.take_line-f.ensures.0 c.take_line-f.ensures.1

pub returns : goal.returns
returns g c = search turn_end
