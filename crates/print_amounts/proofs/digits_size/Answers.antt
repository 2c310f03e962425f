use native.Mathlib.Omega.{arith}
use Rattle.print_amounts.proofs.Digits.{six_limits}
use Rattle.print_amounts.proofs.digits_size.Goals as goal

pub returns : goal.returns
returns c = (search six_limits, omega arith, omega arith)
