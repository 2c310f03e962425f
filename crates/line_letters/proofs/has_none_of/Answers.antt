use borrow.Author.Rules.{rules}
use borrow.Author.Tests.{tests}
use mathlib.Core.Path.{ap, ◌∙◌}
use mathlib.Core.Bool.{not}
use Rattle.std.proofs.lemmas.Iterator.{YieldsList-from_slice}
use Rattle.std.proofs.lemmas.Iterator.Search.{any_from_yields_List}
use Rattle.text.specs.Pick.{among}
use Rattle.line_letters.proofs.Letters.{none_any}
use Rattle.line_letters.proofs.has_none_of.Goals as goal

pub returns : goal.returns
returns c =
    let g = c.args.group.now in
    let s = c.args.letters.now in
    ap not (any_from_yields_List (λ x. among x g) _ _ _ c.any.ensures.ran (YieldsList-from_slice s cc) (λ x b q k. search (rules, tests))) ∙ none_any g s
