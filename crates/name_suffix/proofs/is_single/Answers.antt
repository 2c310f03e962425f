use mathlib.Core.Path.{refl, ◌∙◌}
use Rattle.text.specs.Pick.{pick}
use Rattle.rules.specs.Names.{listed_suffixes}
use Rattle.name_suffix.proofs.Lawful.{of_length, listed_of, listed_none}
use Rattle.name_suffix.proofs.is_single.Goals as goal

pub returns-in-1 : goal.returns-in-1
unfolding of_length pick listed_suffixes
returns-in-1 c = c.is_listed.ensures ∙ listed_of c.args.text.now 1 _ c.in-1.is refl

pub returns-in-2 : goal.returns-in-2
unfolding of_length pick listed_suffixes
returns-in-2 c = c.is_listed-in-2.ensures ∙ listed_of c.args.text.now 2 _ c.in-2.is refl

pub returns-in-3 : goal.returns-in-3
unfolding of_length pick listed_suffixes
returns-in-3 c = c.is_listed-in-3.ensures ∙ listed_of c.args.text.now 3 _ c.in-3.is refl

pub returns-in-4 : goal.returns-in-4
unfolding of_length pick listed_suffixes
returns-in-4 c = c.is_listed-in-4.ensures ∙ listed_of c.args.text.now 4 _ c.in-4.is refl

pub returns-in-5 : goal.returns-in-5
unfolding of_length pick listed_suffixes
returns-in-5 c = c.is_listed-in-5.ensures ∙ listed_of c.args.text.now 5 _ c.in-5.is refl

pub returns-in-6 : goal.returns-in-6
unfolding of_length pick listed_suffixes
returns-in-6 c = c.is_listed-in-6.ensures ∙ listed_of c.args.text.now 6 _ c.in-6.is refl

pub returns-in_default : goal.returns-in_default
returns-in_default c = search listed_none
