use mathlib.Core.Path.{◌∙◌}
use Rattle.text.proofs.Std.{any_among}
use Rattle.text.proofs.is_among.Goals as goal

pub returns : goal.returns
returns c = c.contains.ensures.value ∙ any_among c.args.c c.args.text.now
