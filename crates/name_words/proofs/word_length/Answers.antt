use mathlib.Core.Path.{◌≡◌}
use borrow.Author.Rules.{rules}
use borrow.Author.Tests.{tests}
use Rattle.std.proofs.lemmas.Iterator.{IsFirst-from_position, YieldsList-from_slice}
use Rattle.name_words.proofs.Fields.{first_blank}
use Rattle.name_words.proofs.word_length.Goals as goal

pub returns : goal.returns
returns c = first_blank c.args.field.now _ _ (IsFirst-from_position _ _ _ (λ x. x ≡ 32) (λ x. x ≡ 32 → ⊥) c.position.ensures.ran (YieldsList-from_slice c.args.field.now cc) (λ x q k. search (rules, tests)) (λ x q k. search (rules, tests))) c.unwrap_or.ensures
