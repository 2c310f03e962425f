-- The loop's invariant: the letters before i are not repeated. Assumes nothing.
use mathlib.Core.Path.{◌≡◌}
use lib.ListN.{drop}
use Rattle.rules.specs.Conditions.{unrepeated}
use Rattle.line_letters.proofs.is_unrepeated.Given as goal

abbrev pub invariant-loop-i : goal.invariant-loop-i
invariant-loop-i l = unrepeated (drop l.i l.letters) ≡ unrepeated l.letters
