-- The loop's invariant: the next print begins within the tape. The measure is what is left of it. Assumes nothing.
use Rattle.std.proofs.Common.{◌≤◌, ◌-◌, length}
use Rattle.tapes.proofs.show_tape.Given as goal

abbrev pub invariant-loop-place : goal.invariant-loop-place
invariant-loop-place g l = l.place ≤ length l.tape

abbrev pub decreases-loop-place : goal.decreases-loop-place
decreases-loop-place g l = length l.tape - l.place
