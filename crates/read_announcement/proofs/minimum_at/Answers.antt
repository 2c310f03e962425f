use Rattle.read_announcement.specs.Announced.{minimum_at}
use Rattle.read_announcement.proofs.Reading.{cut_length, by}
use Rattle.read_announcement.proofs.Back.{minimum_fits}
use Rattle.read_announcement.proofs.minimum_at.Goals.{then-minimum-lt1-via-then-minimum-lt1, then-minimum-lt1-via-else-minimum-lt1+then-minimum-gt100}
use Rattle.read_announcement.proofs.minimum_at.Goals as goal

pub returns-then-minimum-lt1 : goal.returns-then-minimum-lt1
unfolding minimum_at
returns-then-minimum-lt1 c = elim c.then-minimum-lt1.branch [
  | then-minimum-lt1-via-then-minimum-lt1 w ↦ search by
  | then-minimum-lt1-via-else-minimum-lt1+then-minimum-gt100 w ↦ search by
]

pub write_minimum-n-requires : goal.write_minimum-n-requires
write_minimum-n-requires c = search minimum_fits

pub slice_bounds-text_at-end : goal.slice_bounds-text_at-end
slice_bounds-text_at-end c = search cut_length

pub returns : goal.returns
unfolding minimum_at
returns c = search by
