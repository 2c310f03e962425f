-- A program's turn, as the code has it. Assumes nothing.
use Prim.Native.Nat.{ℕ}
use mathlib.Core.List.{List}
use Rattle.feed_gather.specs.Gather.{Program}
use Rattle.feed_input.specs.Place.{Answer}
use Rattle.feed_input.specs.Answers.{Answers}
use Rattle.feed_step.specs.Step.{Steps}
use Rattle.feed_step.specs.Session.{Turned}
use Rattle.feed_step.specs.declared.Standing.{Standing}
use Rattle.feed_step.specs.declared.Stepped.{Stepped}
use Rattle.feed_step.proofs.Steps.{stands_within, out_fits, err_fits}

module _ {g : Program} {s : Standing} {z : Answer} {table names block bytes read out err table' names' block' out' err' : List ℕ} {r : Stepped} where
  pub turned : Answers s.place block bytes z read → Steps g s z table names read out err table' names' block' out' err' r → Turned g s table names block out err table' names' block' out' err' r
  turned a st = record { bytes = bytes; answer = z; read = read; answers = a; steps = st; within = stands_within st; out_fits = out_fits st; err_fits = err_fits st }
