use mathlib.Core.Path.{◌≡◌}
use borrow.Author.Rules.{rules}
use borrow.Author.Tests.{tests}
use Rattle.std.proofs.lemmas.Iterator.{cases_from_all, YieldsList-from_slice}
use Rattle.name_words.proofs.Fields.{blank_told}
use Rattle.name_words.proofs.is_blank.Goals as goal

pub returns : goal.returns
returns c = blank_told c.args.field.now _ (cases_from_all _ _ _ (λ x. x ≡ 32) (λ x. x ≡ 32 → ⊥) c.all.ensures.ran (YieldsList-from_slice c.args.field.now cc) (λ x q k. search (rules, tests)) (λ x q k. search (rules, tests)))
