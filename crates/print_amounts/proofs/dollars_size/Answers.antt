use native.Mathlib.Omega.{arith}
use Rattle.print_price.proofs.Texts.{full_length, one_length}
use Rattle.print_amounts.proofs.Prices.{whole_digits}
use Rattle.print_amounts.proofs.dollars_size.Goals as goal

pub returns-in-Full : goal.returns-in-Full
returns-in-Full c = (search (full_length, whole_digits), omega arith, omega arith)

pub returns-in-Short : goal.returns-in-Short
returns-in-Short c = (search one_length, omega arith, omega arith)
