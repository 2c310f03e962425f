-- The rules of "Trades by mode" over what they ask of a trade, each worked out once: its volume, its price in units, its whole part, whether it qualifies for range and for last, whether it has J or G. Each is the rule of rules/specs/Trade on a side's own values, by computing (proofs/Value). Assumes nothing.
use Rattle.std.specs.Prelude.{ℕ, Bool, true, ◌&&◌, ◌||◌, eqb}
use Rattle.text.specs.Pick.{pick}
use Rattle.rules.specs.declared.Mode.{Mode}
use Rattle.rules.specs.declared.Mode.TheVariants.{Normal, Dvd, Rpo, Mpv}
use Rattle.rules.specs.declared.Settings.{Settings}
use Rattle.rules.specs.declared.Issue.{Issue}
use Rattle.rules.specs.declared.Printed.{Printed}
use Rattle.rules.specs.declared.Range.{Range}
use Rattle.rules.specs.declared.Counts.{Counts}
use Rattle.rules.specs.declared.Security.{Security}
use Rattle.rules.specs.Trade.{six, at_level, new_high, new_low, unlike_printed, far_from_printed, is_normal, full_at, counted}
use Rattle.decide_levels.specs.Parts.{new_at}

-- the first trade qualifying for last
unfoldable pub first_by : Counts → Bool → Bool
first_by c lasts = lasts && eqb c.qualified 0

-- six; at the level; unit 1; J or G
unfoldable pub anyhow_by : Settings → Security → ℕ → ℕ → Bool → Bool
anyhow_by st s market volume rule = six s market || (at_level st volume || (eqb s.issue.unit 1 || rule))

unfoldable pub rpo_by : Settings → Security → ℕ → ℕ → ℕ → Bool → Bool → Bool → Bool
rpo_by st s market volume value ranges lasts rule = (ranges && new_at s.range value) || ((lasts && unlike_printed s.printed value) || anyhow_by st s market volume rule)

unfoldable pub mpv_by : Settings → Security → ℕ → ℕ → ℕ → Bool → Bool → Bool
mpv_by st s market volume value lasts rule = (lasts && far_from_printed st s.printed value) || (first_by s.counts lasts || anyhow_by st s market volume rule)

-- every trade in normal and DVD
unfoldable pub by_mode : Mode → Bool → Bool → Bool
by_mode m rpo mpv = elim m [ Normal ↦ true | Dvd ↦ true | Rpo ↦ rpo | Mpv ↦ mpv ]

-- a trade prints; its price in full; its volume
unfoldable pub prints_by : Settings → Security → ℕ → ℕ → ℕ → Bool → Bool → Bool → Bool
prints_by st s market volume value ranges lasts rule = by_mode st.mode (rpo_by st s market volume value ranges lasts rule) (mpv_by st s market volume value lasts rule)

unfoldable pub full_by : Settings → Security → ℕ → ℕ → Bool
full_by st s market whole = is_normal st.mode || full_at s market whole

unfoldable pub shows_by : Settings → Security → ℕ → ℕ → Bool → Bool → Bool
shows_by st s market volume lasts rule = is_normal st.mode || (at_level st volume || (first_by s.counts lasts || (six s market || rule)))

-- the security after it, part by part
unfoldable pub range_by : Range → ℕ → Bool → Bool → Range
range_by r value ranges lasts = record {
  high = pick (ranges && new_high r value) value r.high;
  low = pick (ranges && new_low r value) value r.low;
  last = pick lasts value r.last;
}

unfoldable pub printed_by : Printed → ℕ → Bool → Printed
printed_by p value prints = record { price = pick prints value p.price }

unfoldable pub counts_by : Issue → Counts → ℕ → Bool → Counts
counts_by i c market lasts = record {
  trades = counted true 5 c.trades;
  qualified = counted lasts 1 c.qualified;
  primaries = counted (eqb market i.market) 6 c.primaries;
}

unfoldable pub after_by : Security → ℕ → ℕ → Bool → Bool → Bool → Security
after_by s market value prints ranges lasts = record {
  issue = s.issue;
  printed = printed_by s.printed value prints;
  range = range_by s.range value ranges lasts;
  counts = counts_by s.issue s.counts market lasts;
}
