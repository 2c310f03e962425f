use Rattle.read_announcement.proofs.Reading.{number_none, number_is}
use Rattle.read_announcement.proofs.number_at.Goals as goal

pub returns-then-s-end : goal.returns-then-s-end
returns-then-s-end c = search number_none

pub returns : goal.returns
returns c = search number_is
