use mathlib.Core.Path.{refl}
use Rattle.read_volume.proofs.Volumes.{figures_no, figures_on, figures_small, figures_twelve, figure_there, one_more, onto_room}
use borrow.Author.Rules.{rules}
use Rattle.read_volume.proofs.figures_at.Goals as goal

pub loop-i-init : goal.loop-i-init
loop-i-init c = (search rules, refl, search rules)

pub returns-then-not-begins_figure : goal.returns-then-not-begins_figure
returns-then-not-begins_figure c = search figures_no

pub bounds-s-i : goal.bounds-s-i
bounds-s-i c = search figure_there

pub onto-value-requires : goal.onto-value-requires
onto-value-requires c = search onto_room

pub loop-i-preserved : goal.loop-i-preserved
loop-i-preserved c = (search one_more, search figures_on, search figures_small)

pub returns : goal.returns
returns c = figures_twelve c.args.s.now _ _ _ c.loop-i.invariant.1 c.loop-i.auto.i-end c.loop-i-test.false
