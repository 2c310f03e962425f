-- The conditions after a price and at the end (document 01, "Price and conditions"), each taken where its text stands and a line may have it.
-- Assumes nothing.
use Rattle.std.specs.Prelude.{ℕ, ◌+◌, Bool, true, false, ◌&&◌, not, List, eqb, ltb, drop, Option, Some, None}
use Rattle.text.specs.Bytes.{bytes}
use Rattle.text.specs.Pick.{pick}
use Rattle.text.specs.Reading.{starts}
use Rattle.rules.specs.declared.Letters.{Letters}
use Rattle.rules.specs.declared.Price.{Price}
use Rattle.rules.specs.declared.Side.{Side}
use Rattle.read_price.specs.declared.Digits.{Digits}
use Rattle.read_price.specs.Digits.{digits_at}
use Rattle.read_price.specs.Price.{price_at}
use Rattle.read_price.specs.declared.PriceRead.{PriceRead}
use Rattle.read_conditions.specs.declared.Taken.{Taken}

-- ---- a side with one letter more

unfoldable pub plus_cash : Letters → Letters
plus_cash x = record { o = x.o; s = x.s; l = x.l; n = x.n; m = x.m; c = x.c; k = true; b = x.b; t = x.t; r = x.r; j = x.j; g = x.g }

unfoldable pub plus_average : Letters → Letters
plus_average x = record { o = x.o; s = x.s; l = x.l; n = x.n; m = x.m; c = x.c; k = x.k; b = true; t = x.t; r = x.r; j = x.j; g = x.g }

unfoldable pub plus_stopped : Letters → Letters
plus_stopped x = record { o = x.o; s = x.s; l = x.l; n = x.n; m = x.m; c = x.c; k = x.k; b = x.b; t = true; r = x.r; j = x.j; g = x.g }

unfoldable pub plus_seller : Letters → Letters
plus_seller x = record { o = x.o; s = x.s; l = x.l; n = x.n; m = x.m; c = x.c; k = x.k; b = x.b; t = x.t; r = true; j = x.j; g = x.g }

unfoldable pub plus_rule : Letters → Letters
plus_rule x = record { o = x.o; s = x.s; l = x.l; n = x.n; m = x.m; c = x.c; k = x.k; b = x.b; t = x.t; r = x.r; j = true; g = x.g }

unfoldable pub plus_previous : Letters → Letters
plus_previous x = record { o = x.o; s = x.s; l = x.l; n = x.n; m = x.m; c = x.c; k = x.k; b = x.b; t = x.t; r = x.r; j = x.j; g = true }

-- the side with its letters, days and previous last anew
unfoldable pub side_with : Side → Letters → ℕ → Price → Side
side_with x letters days previous = record { volume = x.volume; price = x.price; letters = letters; days = days; previous = previous }

-- a letter is taken in n bytes; a and b are whether the network still explains the print
unfoldable pub further : Taken → Side → ℕ → Bool → Bool → Taken
further st x n a b = record { side = x; used = st.used + n; count = st.count + 1; a = a; b = b }

-- ---- after the price

unfoldable pub takes_cash : List ℕ → Taken → Bool
takes_cash s st = ltb st.count 4 && (not st.side.letters.m && starts (bytes ",c") (drop st.used s))

unfoldable pub cash_at : List ℕ → Taken → Taken
cash_at s st = pick (takes_cash s st) (further st (side_with st.side (plus_cash st.side.letters) st.side.days st.side.previous) 2 st.a st.b) st

unfoldable pub takes_average : List ℕ → Taken → Bool
takes_average s st = ltb st.count 4 && starts (bytes ",b") (drop st.used s)

unfoldable pub average_at : List ℕ → Taken → Taken
average_at s st = pick (takes_average s st) (further st (side_with st.side (plus_average st.side.letters) st.side.days st.side.previous) 2 st.a st.b) st

unfoldable pub takes_stopped : List ℕ → Taken → Bool
takes_stopped s st = ltb st.count 4 && starts (bytes "t") (drop st.used s)

unfoldable pub stopped_at : List ℕ → Taken → Taken
stopped_at s st = pick (takes_stopped s st) (further st (side_with st.side (plus_stopped st.side.letters) st.side.days st.side.previous) 1 st.a st.b) st

-- ---- at the end

-- the days behind SELLER, without a zero first; none where it does not stand
unfoldable pub seller_days : List ℕ → Digits
seller_days s =
    pick (starts (bytes "SELLER") s)
    (pick (starts (bytes "0") (drop 6 s)) (record { count = 0; value = 0 }) (digits_at 3 (drop 6 s)))
    (record { count = 0; value = 0 })

-- d digits of days, some or none
unfoldable pub seller_by : Taken → Digits → Taken
seller_by st d = pick (eqb d.count 0) st (further st (side_with st.side (plus_seller st.side.letters) d.value st.side.previous) (6 + d.count) st.a st.b)

unfoldable pub seller_at : List ℕ → Taken → Taken
seller_at s st = pick (ltb st.count 4 && (not st.side.letters.m && not st.side.letters.k)) (seller_by st (seller_days (drop st.used s))) st

-- network A only
unfoldable pub takes_rule : List ℕ → Taken → Bool
takes_rule s st = ltb st.count 4 && (st.a && starts (bytes "RULE127") (drop st.used s))

unfoldable pub rule_at : List ℕ → Taken → Taken
rule_at s st = pick (takes_rule s st) (further st (side_with st.side (plus_rule st.side.letters) st.side.days st.side.previous) 7 st.a false) st

-- a price with the end pair behind it
unfoldable pub closed_by : List ℕ → Option PriceRead → Option PriceRead
closed_by s (Some p) = pick (starts (bytes ">>") (drop p.used s)) (Some p) None
closed_by s None = None

unfoldable pub previous_in : List ℕ → Option PriceRead
previous_in s = pick (starts (bytes ">>PREV.LAST") s) (closed_by (drop 11 s) (price_at (drop 11 s))) None

unfoldable pub previous_by : Taken → Option PriceRead → Taken
previous_by st (Some p) = further st (side_with st.side (plus_previous st.side.letters) st.side.days p.price) (13 + p.used) false st.b
previous_by st None = st

-- network B only
unfoldable pub previous_at : List ℕ → Taken → Taken
previous_at s st = pick (ltb st.count 4 && st.b) (previous_by st (previous_in (drop st.used s))) st

-- ---- all of them, in their order

unfoldable pub after_price_at : List ℕ → Taken → Taken
after_price_at s st = stopped_at s (average_at s (cash_at s st))

unfoldable pub at_end_at : List ℕ → Taken → Taken
at_end_at s st = previous_at s (rule_at s (seller_at s st))

unfoldable pub tail_at : List ℕ → Taken → Taken
tail_at s st = at_end_at s (after_price_at s st)
