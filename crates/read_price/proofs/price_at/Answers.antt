use Rattle.read_price.proofs.Bounds.{digits_count, digits_within, digits_below, fraction_count, fraction_below}
use Rattle.read_price.proofs.price_at.Goals as goal

pub slice_bounds-fraction_at-count : goal.slice_bounds-fraction_at-count
slice_bounds-fraction_at-count c = search digits_within

pub slice_bounds-fraction_at-start : goal.slice_bounds-fraction_at-start
slice_bounds-fraction_at-start c = search digits_within

pub priced-requires : goal.priced-requires
priced-requires c = (search digits_below, search digits_count, search fraction_below, search fraction_count)
