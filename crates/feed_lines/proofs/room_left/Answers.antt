use Rattle.feed_gather.proofs.Blocks.{room_is}
use Rattle.feed_lines.specs.Feed.{day_program}
use Rattle.feed_lines.proofs.room_left.Goals as goal

pub returns : goal.returns
returns c = room_is day_program _ _ _ _ _ _ c.room_left.ensures
