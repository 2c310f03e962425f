use Prim.Native.Nat.{◌-◌}
use mathlib.Core.Path.{◌≡◌}
use Rattle.rules.specs.Day.{taken_name}
use Rattle.call_table.specs.Rows.{rows_from, names_from}
use Rattle.call_plan.proofs.is_name_taken.Given as goal

abbrev pub invariant-loop-i : goal.invariant-loop-i
invariant-loop-i l = taken_name l.name (rows_from (512 - l.i) l.i l.table) (names_from (512 - l.i) l.i l.names) ≡ taken_name l.name (rows_from 512 0 l.table) (names_from 512 0 l.names)
