use Rattle.read_told.proofs.Sound.{sounds}
use Rattle.read_numbers.proofs.Arms.{arms}
use Rattle.read_numbers.proofs.numbers_of.Goals as goal

pub print_numbers-requires : goal.print_numbers-requires
print_numbers-requires c = search sounds

pub print_numbers-requires-in-Cancel : goal.print_numbers-requires-in-Cancel
print_numbers-requires-in-Cancel c = search sounds

pub print_numbers-requires-in-Error : goal.print_numbers-requires-in-Error
print_numbers-requires-in-Error c = search sounds

pub correction_numbers-requires : goal.correction_numbers-requires
correction_numbers-requires c = (search sounds, search sounds)

pub returns-in-Announcement : goal.returns-in-Announcement
returns-in-Announcement c = search arms

pub returns-in-Trade : goal.returns-in-Trade
returns-in-Trade c = search arms

pub returns-in-Cancel : goal.returns-in-Cancel
returns-in-Cancel c = search arms

pub returns-in-Error : goal.returns-in-Error
returns-in-Error c = search arms

pub returns-in-Correction : goal.returns-in-Correction
returns-in-Correction c = search arms

pub returns-in_default : goal.returns-in_default
returns-in_default c = search arms
