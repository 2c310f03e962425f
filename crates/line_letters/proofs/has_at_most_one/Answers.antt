use borrow.Author.Rules.{rules}
use borrow.Author.Tests.{tests}
use mathlib.Core.Path.{◌≡◌}
use mathlib.Core.Bool.{true, false}
use Rattle.std.proofs.lemmas.Iterator.{YieldsList-from_slice, IsFirst-from_position}
use Rattle.text.specs.Pick.{among}
use Rattle.line_letters.proofs.Letters.{most_one, most_none}
use Rattle.line_letters.proofs.has_at_most_one.Goals as goal

pub returns-in-Some : goal.returns-in-Some
returns-in-Some c =
    let g = c.args.group.now in
    let s = c.args.letters.now in
    most_one g s _ _ (IsFirst-from_position _ _ _ (λ x. among x g ≡ true) (λ x. among x g ≡ false) c.in-Some.ensures.ran (YieldsList-from_slice s cc) (λ x q k. search (rules, tests)) (λ x q k. search (rules, tests))) c.has_none_of.ensures

pub returns-in-None : goal.returns-in-None
returns-in-None c =
    let g = c.args.group.now in
    let s = c.args.letters.now in
    most_none g s (IsFirst-from_position _ _ _ (λ x. among x g ≡ true) (λ x. among x g ≡ false) c.in-None.ensures.ran (YieldsList-from_slice s cc) (λ x q k. search (rules, tests)) (λ x q k. search (rules, tests)))
