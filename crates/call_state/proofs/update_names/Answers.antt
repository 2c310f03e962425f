use Rattle.call_state.proofs.Opened.{names_open}
use Rattle.call_print.proofs.Arms.{place_enter, line_enter, line_room}
use Rattle.rules.proofs.Fields.{name_length}
use Rattle.call_state.proofs.update_names.Goals as goal

pub slice_bounds-store_name-end : goal.slice_bounds-store_name-end
slice_bounds-store_name-end c = search line_room

pub store_name-requires : goal.store_name-requires
store_name-requires c = (search place_enter, search (name_length, line_enter))

pub returns-in-Open : goal.returns-in-Open
returns-in-Open c = search names_open
