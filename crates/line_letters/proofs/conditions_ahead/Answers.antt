use borrow.Author.Rules.{rules}
use borrow.Author.Tests.{tests}
use mathlib.Core.Path.{◌≡◌}
use mathlib.Core.Bool.{true, false}
use Rattle.std.proofs.lemmas.Iterator.{YieldsList-from_slice, IsFirst-from_position}
use Rattle.text.proofs.Scans.{span_front}
use Rattle.rules.specs.Conditions.{is_condition}
use Rattle.line_letters.proofs.conditions_ahead.Goals as goal

pub returns : goal.returns
returns c =
    span_front is_condition c.args.field.now _ _ (IsFirst-from_position _ _ _ (λ x. is_condition x ≡ false) (λ x. is_condition x ≡ true) c.position.ensures.ran (YieldsList-from_slice c.args.field.now cc) (λ x q k. search (rules, tests)) (λ x q k. search (rules, tests))) c.unwrap_or.ensures
