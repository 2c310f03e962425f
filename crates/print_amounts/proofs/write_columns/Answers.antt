use native.Mathlib.Omega.{arith}
use lib.ListN.{length-set}
use Rattle.print_amounts.proofs.Prices.{part_room, back_room, columns_size, columns_written}
use Rattle.print_amounts.proofs.write_columns.Goals as goal

pub slice_bounds-write_bytes-count : goal.slice_bounds-write_bytes-count
slice_bounds-write_bytes-count c = simp length-set (omega arith)

pub slice_bounds-write_bytes-start : goal.slice_bounds-write_bytes-start
slice_bounds-write_bytes-start c = simp length-set (omega arith)

pub write_bytes-requires-2 : goal.write_bytes-requires-2
write_bytes-requires-2 c = search part_room

pub write_bytes-requires-3 : goal.write_bytes-requires-3
write_bytes-requires-3 c = search back_room

-- three writes within the lent part, and a byte between them, leave its length as it was
pub shape_of-rest : goal.shape_of-rest
shape_of-rest c = let a = c.args in columns_size _ a.rest.now _ _ _ _ _ a.k a.m _ _ _ c.write_bytes.ensures c.write_bytes-2.ensures c.write_bytes-3.ensures (omega arith) (omega arith)

pub returns : goal.returns
returns c = search columns_written
