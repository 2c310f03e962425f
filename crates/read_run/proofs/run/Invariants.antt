-- The loop's invariant: what is held lies in the block; the turns so far go on to a session, where there is room for a line. Assumes nothing.
use Rattle.std.proofs.Common.{◌≤◌, length}
use Rattle.feed_input.specs.Place.{Within}
use Rattle.read_run.proofs.Laws.{Going}
use Rattle.read_run.proofs.run.Given as goal

abbrev pub invariant-loop : goal.invariant-loop
invariant-loop g l = record {
  within : Within l.s.place (length l.block);
  goes : g.T.TellPrint.MOST ≤ length l.lines → Going g.T.TellPrint.line g.T.TellPrint.MOST l.initial.block l.initial.s l.s l.block (g.R.Read.remaining l.initial.input) (g.R.Read.remaining l.input) (g.W.Write.contents l.initial.out) (g.W.Write.contents l.out);
}
