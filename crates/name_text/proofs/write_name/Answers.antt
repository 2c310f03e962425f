use Rattle.name_text.proofs.Layers.{cut_length, cut_room, cut_written}
use Rattle.name_text.proofs.write_name.Goals as goal

pub slice_bounds-write_bytes-end : goal.slice_bounds-write_bytes-end
slice_bounds-write_bytes-end c = search cut_length

pub write_bytes-requires : goal.write_bytes-requires
write_bytes-requires c = search cut_room

pub returns-then-rest-ge32 : goal.returns-then-rest-ge32
returns-then-rest-ge32 c = search cut_written

pub returns-else-n-le16 : goal.returns-else-n-le16
returns-else-n-le16 c = search cut_written
