-- The loop's invariant: as long as no line feed was seen, the line ends where it ended. Assumes nothing.
use mathlib.Core.Path.{◌≡◌}
use Rattle.feed_blocks.specs.Lines.{line_end}
use Rattle.feed_blocks.proofs.feed_near.Given as goal

abbrev pub invariant-loop-i : goal.invariant-loop-i
invariant-loop-i l = l.near ≡ 0 → line_end l.block l.i ≡ line_end l.block l.from
