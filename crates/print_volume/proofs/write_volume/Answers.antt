use Rattle.print_volume.proofs.Forms.{unsaid_written, figures_room, mark_room, said_written}
use Rattle.print_volume.proofs.write_volume.Goals as goal

pub returns-then-is_unsaid : goal.returns-then-is_unsaid
returns-then-is_unsaid c = search unsaid_written

pub write_full_volume-at-requires : goal.write_full_volume-at-requires
write_full_volume-at-requires c = search figures_room

pub write_bytes-requires : goal.write_bytes-requires
write_bytes-requires c = search mark_room

pub returns : goal.returns
returns c = search said_written
