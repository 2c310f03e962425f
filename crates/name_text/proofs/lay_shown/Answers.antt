use native.Mathlib.Omega.{arith}
use mathlib.Core.Path.{sym, ap, ◌∙◌}
use mathlib.Core.Bool.{not}
use borrow.Author.Tests.{eqb-true}
use Rattle.text.proofs.Booleans.{false_true}
use Rattle.name_text.proofs.Laying.{laid_hidden, laid_shown, laid_blank}
use Rattle.name_text.proofs.lay_shown.Goals as goal
use Rattle.name_text.proofs.lay_shown.Goals.{then-not-shown, else-not-shown}

pub returns-then-field-eq32 : goal.returns-then-field-eq32
returns-then-field-eq32 c =
    elim c.if-not-shown.branch [
      | then-not-shown w ↦ (search laid_hidden, omega arith)
      | else-not-shown w ↦ (laid_blank _ _ _ (omega arith) (eqb-true _ 32 (sym w.value-is ∙ c.if-field-eq32.true)), omega arith)
    ]

pub returns-else-field-eq32 : goal.returns-else-field-eq32
returns-else-field-eq32 c =
    elim c.if-not-shown.branch [
      | then-not-shown w ↦ absurd (false_true (sym c.if-field-eq32.false ∙ (w.value-is ∙ ap not w.if-not-shown.true)))
      | else-not-shown w ↦ (search laid_shown, omega arith)
    ]
