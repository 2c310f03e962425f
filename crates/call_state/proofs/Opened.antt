-- Both tables after a D line. Assumes nothing.
use Prim.Native.Nat.{ℕ}
use mathlib.Core.Path.{◌≡◌}
use mathlib.Core.List.{List}
use lib.ListN.{replicate}
use Rattle.call_table.specs.Sizes.{table_size, names_size}
use Rattle.call_plan.specs.declared.Plan.{Plan}
use Rattle.call_plan.specs.declared.Plan.TheVariants.{Open}
use Rattle.call_state.specs.After.{table_after, names_after}

pub table_open : (table : List ℕ) (p : Plan) (n : ℕ) (x : List ℕ) → p ≡ Open n → x ≡ replicate table_size 0 → x ≡ table_after table p
unfolding table_after
table_open table p n x e h = rw e h

pub names_open : (names line : List ℕ) (p : Plan) (n : ℕ) (x : List ℕ) → p ≡ Open n → x ≡ replicate names_size 0 → x ≡ names_after names line p
unfolding names_after
names_open names line p n x e h = rw e h
