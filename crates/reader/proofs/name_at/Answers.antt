use Rattle.reader.proofs.Bounds.{no_name_lem, from_fits, to_fits, name_within, name_is}
use Rattle.reader.proofs.name_at.Goals as goal

pub overflow_add-from : goal.overflow_add-from
overflow_add-from c = record { fits = search from_fits }

pub overflow_add-to : goal.overflow_add-to
overflow_add-to c = record { fits = search to_fits }

pub slice_bounds-result-end : goal.slice_bounds-result-end
slice_bounds-result-end c = search name_within

pub returns-then-place-tape : goal.returns-then-place-tape
returns-then-place-tape c = search name_is

pub returns-else-place-tape : goal.returns-else-place-tape
returns-else-place-tape c = search no_name_lem
