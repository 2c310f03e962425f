use mathlib.Core.Path.{◌∙◌}
use Rattle.name_suffix.proofs.Lawful.{any_member}
use Rattle.name_suffix.proofs.is_listed.Goals as goal

pub returns : goal.returns
returns c = c.contains.ensures.value ∙ any_member c.args.text.now c.args.listed.now
