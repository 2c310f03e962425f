use mathlib.Core.Path.{◌∙◌}
use Rattle.text.proofs.Std.{pointwise_same}
use Rattle.text.proofs.same_text.Goals as goal

pub returns : goal.returns
returns c = c.eq.ensures ∙ pointwise_same c.args.a.now c.args.b.now
