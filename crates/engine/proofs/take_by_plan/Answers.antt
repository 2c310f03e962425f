use Rattle.call_print.proofs.Sound.{sound_asked}
use Rattle.engine.proofs.Steps.{taken}
use Rattle.call_print.proofs.Room.{fitted_sound, print_fits}
use Rattle.engine.proofs.take_by_plan.Goals as goal

pub fitted-p-requires : goal.fitted-p-requires
fitted-p-requires c = search sound_asked

pub write_text-k-requires : goal.write_text-k-requires
write_text-k-requires c = (search (fitted_sound, sound_asked), search print_fits)

pub update_table-requires : goal.update_table-requires
update_table-requires c = search (fitted_sound, sound_asked)

pub update_names-requires : goal.update_names-requires
update_names-requires c = search (fitted_sound, sound_asked)

pub returns : goal.returns
returns c = search taken
