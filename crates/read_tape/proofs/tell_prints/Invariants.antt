-- The loop's invariant: going on from here leads where the whole block leads. Assumes nothing.
use Rattle.read_tape.proofs.Blocks.{Here, left}
use Rattle.read_tape.proofs.tell_prints.Given as goal

abbrev pub invariant-loop-r : goal.invariant-loop-r
invariant-loop-r g l = Here g.T.TellPrint.line g.T.TellPrint.MOST l.block l.place l.ended l.initial.lines l.lines l.r

abbrev pub decreases-loop-r : goal.decreases-loop-r
decreases-loop-r g l = left l.block l.r
