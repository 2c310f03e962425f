use Rattle.text.proofs.Writing.{named, fits}
use Rattle.read_told.proofs.Lines.{told, ends}
use Rattle.read_told.proofs.Sound.{sounds}
use Rattle.read_told.proofs.write_facts.Goals as goal

pub overflow_add-place : goal.overflow_add-place
overflow_add-place c = search ends

pub slice_bounds-write_announcement-end : goal.slice_bounds-write_announcement-end
slice_bounds-write_announcement-end c = search ends

pub write_announcement-requires : goal.write_announcement-requires
write_announcement-requires c = search (fits, told, sounds)

pub write_trade-requires : goal.write_trade-requires
write_trade-requires c = search (fits, told, sounds)

pub write_among-requires : goal.write_among-requires
write_among-requires c = search (fits, told, sounds)

pub write_among-requires-in-Error : goal.write_among-requires-in-Error
write_among-requires-in-Error c = search (fits, told, sounds)

pub write_correction-requires : goal.write_correction-requires
write_correction-requires c = search (fits, told, sounds)

pub write_bytes-requires : goal.write_bytes-requires
write_bytes-requires c = search (fits, told, sounds)

pub returns-in-Announcement : goal.returns-in-Announcement
returns-in-Announcement c = search (named, told)

pub returns-in-Trade : goal.returns-in-Trade
returns-in-Trade c = search (named, told)

pub returns-in-Cancel : goal.returns-in-Cancel
returns-in-Cancel c = search (named, told)

pub returns-in-Error : goal.returns-in-Error
returns-in-Error c = search (named, told)

pub returns-in-Correction : goal.returns-in-Correction
returns-in-Correction c = search (named, told)

pub returns-in_default : goal.returns-in_default
returns-in_default c = search (named, told)
