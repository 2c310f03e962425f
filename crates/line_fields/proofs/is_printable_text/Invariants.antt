-- The loop's invariant: none found so far, and those from c on pass, is that all pass. Assumes nothing.
use mathlib.Core.Path.{◌≡◌}
use mathlib.Core.Bool.{◌&&◌}
use lib.Dec.{eqb}
use lib.ListN.{drop}
use Rattle.text.specs.Pick.{all}
use Rattle.rules.specs.Line.{is_printable}
use Rattle.line_fields.proofs.is_printable_text.Given as goal

abbrev pub invariant-loop-c : goal.invariant-loop-c
invariant-loop-c l = (eqb l.others 0 && all is_printable (drop l.c-index l.text)) ≡ all is_printable l.text
