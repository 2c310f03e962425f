-- Document 01, "Price and conditions": which trades move high, low and last. Assumes nothing.
use Rattle.std.specs.Prelude.{Bool, ◌&&◌, ◌||◌, not}
use Rattle.rules.specs.declared.Letters.{Letters}

-- any of C N R B: neither range nor last
unfoldable pub for_neither : Letters → Bool
for_neither x = x.c || (x.n || (x.r || x.b))

-- otherwise any of O S L: high and low only
unfoldable pub for_range_only : Letters → Bool
for_range_only x = x.o || (x.s || x.l)

-- qualifies for high and low
unfoldable pub for_range : Letters → Bool
for_range x = not (for_neither x)

-- qualifies for last
unfoldable pub for_last : Letters → Bool
for_last x = not (for_neither x) && not (for_range_only x)
