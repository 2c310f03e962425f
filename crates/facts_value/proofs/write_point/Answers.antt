use Rattle.facts_value.proofs.Trims.{point_room}
use Rattle.text.proofs.Writing.{choices, rooms, then}
use Rattle.facts_value.specs.Values.{point_text}
use Rattle.facts_value.proofs.write_point.Goals as goal

pub returns-then-f-eq0 : goal.returns-then-f-eq0
unfolding point_text
returns-then-f-eq0 c = search (choices, then)

pub write_bytes-at-requires : goal.write_bytes-at-requires
write_bytes-at-requires c = search point_room

pub write_trimmed-requires : goal.write_trimmed-requires
unfolding point_text
write_trimmed-requires c = search (choices, rooms) depth 12

pub returns : goal.returns
unfolding point_text
returns c = search (choices, then)
