use mathlib.Core.Path.{◌∙◌}
use Rattle.text.proofs.Std.{starts_with_starts}
use Rattle.text.proofs.begins.Goals as goal

pub returns : goal.returns
returns c = c.starts_with.ensures.value ∙ starts_with_starts c.args.front.now c.args.text.now
