use borrow.Author.Rules.{rules}
use borrow.Author.Tests.{tests}
use mathlib.Core.Path.{◌≡◌, sym}
use mathlib.Core.Bool.{true, false}
use Rattle.std.proofs.lemmas.Iterator.{YieldsList-from_slice, IsFirst-from_position}
use Rattle.text.proofs.Scans.{span_got}
use Rattle.rules.specs.Columns.{not_blank, word, is_blank}
use Rattle.line_letters.proofs.word.Goals as goal

pub returns : goal.returns
unfolding word is_blank
returns c =
    sym (span_got not_blank c.args.field.now _ _ (IsFirst-from_position _ _ _ (λ x. not_blank x ≡ false) (λ x. not_blank x ≡ true) c.position.ensures.ran (YieldsList-from_slice c.args.field.now cc) (λ x q k. search (rules, tests)) (λ x q k. search (rules, tests))) c.unwrap_or-end.ensures)
