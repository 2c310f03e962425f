use Rattle.text.proofs.Decimal.{as_decimal}
use Rattle.text.proofs.write_decimal.Goals as goal

pub returns : goal.returns
returns c = as_decimal _ _ c.decimal_length-k.ensures.0 c.write_places.ensures
