use Rattle.print_price.proofs.Texts.{units_is, units_below, units_fit}
use Rattle.print_price.proofs.in_units.Goals as goal

pub overflow_mul-result : goal.overflow_mul-result
overflow_mul-result c = record { fits = search units_fit }

pub returns : goal.returns
returns c = (search units_is, search units_below)
