use borrow.Author.Rules.{rules}
use borrow.Author.Tests.{tests}
use mathlib.Core.Path.{◌≡◌, sym, ◌∙◌}
use mathlib.Core.Bool.{true, false}
use Rattle.std.proofs.lemmas.Iterator.{YieldsList-from_slice, IsFirst-from_position}
use Rattle.text.proofs.Parts.{rest_is}
use Rattle.text.proofs.Scans.{span_rest}
use Rattle.rules.specs.Columns.{is_blank}
use Rattle.line_numbers.proofs.Numbers.{justified_span}
use Rattle.line_numbers.proofs.justified.Goals as goal

pub returns-clause-text : goal.returns-clause-text
unfolding is_blank
returns-clause-text c =
    let s = c.args.field.now in
    rest_is s _ ∙ sym (justified_span s ∙ span_rest is_blank s _ _ (IsFirst-from_position _ _ _ (λ x. is_blank x ≡ false) (λ x. is_blank x ≡ true) c.position.ensures.ran (YieldsList-from_slice s cc) (λ x q k. search (rules, tests)) (λ x q k. search (rules, tests))) c.unwrap_or-blanks.ensures)
