-- The loop's invariant: no mark so far, and blanks from c on, is that all are blanks. Assumes nothing.
use mathlib.Core.Path.{◌≡◌}
use mathlib.Core.Bool.{◌&&◌}
use lib.Dec.{eqb}
use lib.ListN.{drop}
use Rattle.rules.specs.Columns.{blank}
use Rattle.line_fields.proofs.is_blank_part.Given as goal

abbrev pub invariant-loop-c : goal.invariant-loop-c
invariant-loop-c l = (eqb l.marks 0 && blank (drop l.c-index l.part)) ≡ blank l.part
