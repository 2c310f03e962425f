use Rattle.read_volume.proofs.Volumes.{volume_long, said_many, said_yes, said_no}
use Rattle.text.proofs.Parts.{front_length, counted}
use Rattle.read_volume.proofs.said.Goals as goal

pub returns-then-f-ge1000000000 : goal.returns-then-f-ge1000000000
returns-then-f-ge1000000000 c = search said_many

pub write_full_volume-n-requires : goal.write_full_volume-n-requires
write_full_volume-n-requires c = search volume_long

pub slice_bounds-same_text-end : goal.slice_bounds-same_text-end
slice_bounds-same_text-end c = search counted

pub slice_bounds-same_text-end-2 : goal.slice_bounds-same_text-end-2
slice_bounds-same_text-end-2 c = search front_length

pub returns-then-not-same_text : goal.returns-then-not-same_text
returns-then-not-same_text c = search said_no

pub returns : goal.returns
returns c = search said_yes
