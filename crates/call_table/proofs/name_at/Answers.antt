use Rattle.call_table.proofs.Slots.{slot, slot_length}
use Rattle.call_table.proofs.name_at.Goals as goal

pub returns : goal.returns
returns c = (search slot, search slot_length)
