use Rattle.read_announcement.specs.Announced.{level_at}
use Rattle.read_announcement.proofs.Reading.{cut_length, by}
use Rattle.read_announcement.proofs.Back.{level_fits}
use Rattle.read_announcement.proofs.level_at.Goals.{then-level-lt5000-via-then-level-lt5000, then-level-lt5000-via-else-level-lt5000+then-level-gt100000}
use Rattle.read_announcement.proofs.level_at.Goals as goal

pub returns-then-level-lt5000 : goal.returns-then-level-lt5000
unfolding level_at
returns-then-level-lt5000 c = elim c.then-level-lt5000.branch [
  | then-level-lt5000-via-then-level-lt5000 w ↦ search by
  | then-level-lt5000-via-else-level-lt5000+then-level-gt100000 w ↦ search by
]

pub write_level-n-requires : goal.write_level-n-requires
write_level-n-requires c = search level_fits

pub slice_bounds-text_at-end : goal.slice_bounds-text_at-end
slice_bounds-text_at-end c = search cut_length

pub returns : goal.returns
unfolding level_at
returns c = search by
