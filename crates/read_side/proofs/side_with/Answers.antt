use Rattle.read_side.proofs.Sides.{cut_room, cut_fits}
use Rattle.read_side.proofs.side_with.Goals as goal

pub overflow_add-bare : goal.overflow_add-bare
overflow_add-bare c = let h = c.in_ok-p.ensures.ok_part in record { fits = search cut_fits }

pub tail_at-requires : goal.tail_at-requires
tail_at-requires c = let h = c.in_ok-p.ensures.ok_part in search cut_room
