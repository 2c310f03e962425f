use Rattle.reader.proofs.Bounds.{past_end, read_is}
use Rattle.reader.proofs.Numbers.{answered}
use Rattle.reader.proofs.read_at.Goals as goal

pub returns-then-tape-place : goal.returns-then-tape-place
returns-then-tape-place c = search (answered, past_end)

pub returns : goal.returns
returns c = search (answered, read_is)
