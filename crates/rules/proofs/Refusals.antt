-- A refusal's number is at most 14. Assumes nothing.
use Prim.Native.Nat.{◌≤◌}
use native.Mathlib.Omega.{arith}
use Rattle.rules.specs.declared.Refusal.{Refusal}
use Rattle.rules.specs.declared.Refusal.TheVariants.{Shape, Kind, NoDate, Form, Value, NotEntered, InUse, Name, SameName, Conditions, Unmatched, DateOrder, Room, NoPrint}
use Rattle.rules.specs.Refusal.{number_of}

pub number_most : (r : Refusal) → number_of r ≤ 14
unfolding number_of
number_most Shape = omega arith
number_most Kind = omega arith
number_most NoDate = omega arith
number_most Form = omega arith
number_most Value = omega arith
number_most NotEntered = omega arith
number_most InUse = omega arith
number_most Name = omega arith
number_most SameName = omega arith
number_most Conditions = omega arith
number_most Unmatched = omega arith
number_most DateOrder = omega arith
number_most Room = omega arith
number_most NoPrint = omega arith
