-- Document 01, "Trades by mode" (001, section 4). Assumes nothing.
use Rattle.std.specs.Prelude.{ℕ, ◌+◌, ◌*◌, ◌/◌, ◌%◌, Bool, true, false, ◌&&◌, ◌||◌, not, leb, ltb, eqb}
use Rattle.text.specs.Pick.{pick}
use Rattle.rules.specs.Price.{whole_part, units, form_by}
use Rattle.rules.specs.Conditions.{has_rule}
use Rattle.rules.specs.Qualifying.{for_range, for_last}
use Rattle.rules.specs.declared.Mode.{Mode}
use Rattle.rules.specs.declared.Mode.TheVariants.{Normal, Dvd, Rpo, Mpv}
use Rattle.rules.specs.declared.Letters.{Letters}
use Rattle.rules.specs.declared.Side.{Side}
use Rattle.rules.specs.declared.Settings.{Settings}
use Rattle.rules.specs.declared.Issue.{Issue}
use Rattle.rules.specs.declared.Printed.{Printed}
use Rattle.rules.specs.declared.Range.{Range}
use Rattle.rules.specs.declared.Counts.{Counts}
use Rattle.rules.specs.declared.Security.{Security}
use Rattle.rules.specs.declared.PriceForm.{PriceForm}

-- the term "six": a first-day issue, its primary market, fewer than six such trades before
unfoldable pub six : Security → ℕ → Bool
six s market = eqb s.issue.first 1 && (eqb market s.issue.market && ltb s.counts.primaries 6)

-- the term "at the level": at or over the delete level
unfoldable pub at_level : Settings → ℕ → Bool
at_level st volume = leb st.level volume

-- the term "first trade qualifying", for last
unfoldable pub first_qualifying : Counts → Letters → Bool
first_qualifying c x = for_last x && eqb c.qualified 0

-- a new high is above the high or the first; low alike
unfoldable pub new_high : Range → ℕ → Bool
new_high r value = eqb r.high 0 || ltb r.high value

unfoldable pub new_low : Range → ℕ → Bool
new_low r value = eqb r.low 0 || ltb value r.low

-- new high or low by a trade that qualifies for them
unfoldable pub new_range : Range → Side → Bool
new_range r x = for_range x.letters && (new_high r (units x.price) || new_low r (units x.price))

-- tens or higher of a whole part
unfoldable pub tens : ℕ → ℕ
tens whole = whole / 10

unfoldable pub ends_in_zero : ℕ → Bool
ends_in_zero whole = eqb (whole % 10) 0

-- the dollars of a price in units
unfoldable pub dollars : ℕ → ℕ
dollars value = value / 100000000

-- full price, outside normal: none printed yet that day, tens or higher differ from the last printed price, whole part ends in 0, unit 1, 1,000 or over, six
unfoldable pub full_at : Security → ℕ → ℕ → Bool
full_at s market whole =
    eqb s.printed.price 0
    || (not (eqb (tens whole) (tens (dollars s.printed.price)))
    || (ends_in_zero whole
    || (eqb s.issue.unit 1
    || (leb 1000 whole
    || six s market))))

unfoldable pub full_price : Security → ℕ → Side → Bool
full_price s market x = full_at s market (whole_part x.price)

-- volume shown, outside normal: at the level, first trade qualifying for last, six, J or G
unfoldable pub shows_volume : Settings → Security → ℕ → Side → Bool
shows_volume st s market x =
    at_level st x.volume
    || (first_qualifying s.counts x.letters
    || (six s market
    || has_rule x.letters))

-- what prints a trade in RPO and in MPV: six; at the level; unit 1; J or G
unfoldable pub prints_anyhow : Settings → Security → ℕ → Side → Bool
prints_anyhow st s market x =
    six s market
    || (at_level st x.volume
    || (eqb s.issue.unit 1
    || has_rule x.letters))

-- a price unlike the last printed, or none printed
unfoldable pub unlike_printed : Printed → ℕ → Bool
unlike_printed p value = eqb p.price 0 || not (eqb value p.price)

-- level × 0.05 dollars
unfoldable pub distance : Settings → ℕ
distance st = st.minimum * 5000000

-- more than level × 0.05 from the last printed
unfoldable pub far_from_printed : Settings → Printed → ℕ → Bool
far_from_printed st p value = not (eqb p.price 0) && (ltb (p.price + distance st) value || ltb (value + distance st) p.price)

-- a trade prints
unfoldable pub prints_trade : Settings → Security → ℕ → Side → Bool
prints_trade st s market x = elim st.mode [
  | Normal ↦ true
  | Dvd ↦ true
  | Rpo ↦ new_range s.range x || ((for_last x.letters && unlike_printed s.printed (units x.price)) || prints_anyhow st s market x)
  | Mpv ↦ (for_last x.letters && far_from_printed st s.printed (units x.price)) || (first_qualifying s.counts x.letters || prints_anyhow st s market x)
]

-- the mode is normal
unfoldable pub is_normal : Mode → Bool
is_normal Normal = true
is_normal Dvd = false
is_normal Rpo = false
is_normal Mpv = false

-- normal: all in full
unfoldable pub trade_full : Settings → Security → ℕ → Side → Bool
trade_full st s market x = is_normal st.mode || full_price s market x

unfoldable pub trade_form : Settings → Security → ℕ → Side → PriceForm
trade_form st s market x = form_by (trade_full st s market x)

unfoldable pub trade_shows : Settings → Security → ℕ → Side → Bool
trade_shows st s market x = is_normal st.mode || shows_volume st s market x

-- ---- what an accepted line leaves of its security, part by part

-- high, low and last follow every accepted trade, and each correcting trade
unfoldable pub range_after : Range → Side → Range
range_after r x = record {
  high = pick (for_range x.letters && new_high r (units x.price)) (units x.price) r.high;
  low = pick (for_range x.letters && new_low r (units x.price)) (units x.price) r.low;
  last = pick (for_last x.letters) (units x.price) r.last;
}

-- last printed price (of trades only)
unfoldable pub printed_after : Bool → Printed → Side → Printed
printed_after prints p x = record { price = pick prints (units x.price) p.price }

-- a count that stops where it no longer matters
unfoldable pub counted : Bool → ℕ → ℕ → ℕ
counted test most count = pick (test && ltb count most) (count + 1) count

-- counts: T lines only, printed or not
unfoldable pub counts_after : Issue → Counts → ℕ → Side → Counts
counts_after i c market x = record {
  trades = counted true 5 c.trades;
  qualified = counted (for_last x.letters) 1 c.qualified;
  primaries = counted (eqb market i.market) 6 c.primaries;
}

-- after an accepted trade
unfoldable pub after_trade : Settings → Security → ℕ → Side → Security
after_trade st s market x = record {
  issue = s.issue;
  printed = printed_after (prints_trade st s market x) s.printed x;
  range = range_after s.range x;
  counts = counts_after s.issue s.counts market x;
}
