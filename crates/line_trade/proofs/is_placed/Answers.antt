use native.Mathlib.Omega.{arith}
use mathlib.Core.Path.{refl, sym, ◌∙◌}
use Rattle.text.specs.Pick.{pick}
use Rattle.line_columns.specs.Columns.{begins, placed}
use Rattle.line_trade.proofs.Fields.{tabled, all_placed}
use Rattle.line_trade.proofs.is_placed.Goals as goal
use Rattle.line_trade.proofs.is_placed.Goals.{then-is_formed, else-is_formed}

pub returns-then-is_blank_part : goal.returns-then-is_blank_part
unfolding tabled begins placed pick
returns-then-is_blank_part c = λ h. elim c.if-is_formed.branch [ then-is_formed w ↦ all_placed _ _ _ _ _ _ c.is_formed.ensures w.if-is_formed.true refl w.is_blank_part.ensures (sym w.value-is ∙ c.if-is_blank_part.true) c.is_blank_part-then-is_blank_part.ensures h | else-is_formed w ↦ grind arith ]
