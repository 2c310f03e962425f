-- The loop's invariant: what is held lies in the block; the turns so far go on to a session, where there is room for what is told. Assumes nothing.
use Rattle.std.proofs.Common.{◌≤◌, length}
use Rattle.feed_input.specs.Place.{Within}
use Rattle.feed_run.proofs.Laws.{Going}
use Rattle.feed_run.proofs.run.Given as goal

abbrev pub invariant-loop : goal.invariant-loop
invariant-loop g l = record {
  within : Within l.s.place (length l.block);
  goes : g.G.Gather.program.out_most ≤ length l.out → g.G.Gather.program.err_most ≤ length l.err
      → Going g.G.Gather.program l.initial.table l.initial.names l.initial.block l.initial.s l.s l.table l.names l.block (g.R.Read.remaining l.initial.input) (g.R.Read.remaining l.input) (g.W.Write.contents l.initial.output) (g.W.Write.contents l.output);
}
