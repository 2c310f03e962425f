use Rattle.read_step.proofs.Ways.{part_end, read_in, read_placed, step_told}
use Rattle.read_step.proofs.step_telling.Goals as goal

pub go_further-requires : goal.go_further-requires
go_further-requires g c = (search read_in, search part_end, search read_placed)

pub returns : goal.returns
returns g c = search step_told
