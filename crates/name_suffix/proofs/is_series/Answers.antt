use Rattle.name_suffix.proofs.Lawful.{series_one}
use Rattle.name_suffix.proofs.is_series.Goals as goal

pub returns-in-len1 : goal.returns-in-len1
returns-in-len1 c = series_one c.args.text.now _ c.in-len1.len_at_least c.in-len1.len_below c.is_among.ensures
