-- Why an accepted trade, correction, cancel or error prints, why its price is in full and why its volume is shown. Each reason is one test of the rules (rules, Trade and Correction), asked in the modes in which the rules ask it. Assumes nothing.
use Rattle.std.specs.Prelude.{ℕ, Bool, true, false, ◌&&◌, ◌||◌, not, leb, eqb}
use Rattle.text.specs.Pick.{pick}
use Rattle.rules.specs.Price.{whole_part, units}
use Rattle.rules.specs.Conditions.{has_rule}
use Rattle.rules.specs.Qualifying.{for_range, for_last}
use Rattle.rules.specs.Trade as rules
use Rattle.rules.specs.Trade.{at_level, first_qualifying, new_high, new_low, tens, ends_in_zero, dollars, unlike_printed, far_from_printed, is_normal}
use Rattle.rules.specs.Correction.{prices_differ, unlike_last, is_mpv, whole_in_full}
use Rattle.rules.specs.declared.Mode.{Mode}
use Rattle.rules.specs.declared.Mode.TheVariants.{Normal, Dvd, Rpo, Mpv}
use Rattle.rules.specs.declared.Side.{Side}
use Rattle.rules.specs.declared.Settings.{Settings}
use Rattle.rules.specs.declared.Printed.{Printed}
use Rattle.rules.specs.declared.Security.{Security}
use Rattle.explain_reasons.specs.declared.PrintReasons.{PrintReasons}
use Rattle.explain_reasons.specs.declared.FullReasons.{FullReasons}
use Rattle.explain_reasons.specs.declared.VolumeReasons.{VolumeReasons}

-- by mode
unfoldable pub in_mode : Mode → PrintReasons → PrintReasons → PrintReasons → PrintReasons → PrintReasons
in_mode Normal normal dvd rpo mpv = normal
in_mode Dvd normal dvd rpo mpv = dvd
in_mode Rpo normal dvd rpo mpv = rpo
in_mode Mpv normal dvd rpo mpv = mpv

-- ---- why it prints

-- every line of the kind prints
unfoldable pub always : PrintReasons
always = record { every = true; high = false; low = false; price = false; distance = false; first = false; six = false; level = false; unit = false; rule = false; differ = false; seller = false; last = false; original_level = false; original_rule = false }

-- a trade in RPO
unfoldable pub rpo_trade : Settings → Security → ℕ → Side → PrintReasons
rpo_trade st s market x = record {
  every = false;
  high = for_range x.letters && new_high s.range (units x.price);
  low = for_range x.letters && new_low s.range (units x.price);
  price = for_last x.letters && unlike_printed s.printed (units x.price);
  distance = false;
  first = false;
  six = rules.six s market;
  level = at_level st x.volume;
  unit = eqb s.issue.unit 1;
  rule = has_rule x.letters;
  differ = false;
  seller = false;
  last = false;
  original_level = false;
  original_rule = false;
}

-- a trade in MPV
unfoldable pub mpv_trade : Settings → Security → ℕ → Side → PrintReasons
mpv_trade st s market x = record {
  every = false;
  high = false;
  low = false;
  price = false;
  distance = for_last x.letters && far_from_printed st s.printed (units x.price);
  first = first_qualifying s.counts x.letters;
  six = rules.six s market;
  level = at_level st x.volume;
  unit = eqb s.issue.unit 1;
  rule = has_rule x.letters;
  differ = false;
  seller = false;
  last = false;
  original_level = false;
  original_rule = false;
}

unfoldable pub trade_prints : Settings → Security → ℕ → Side → PrintReasons
trade_prints st s market x = in_mode st.mode always always (rpo_trade st s market x) (mpv_trade st s market x)

-- a correction in DVD
unfoldable pub dvd_correction : Settings → Security → Side → Side → PrintReasons
dvd_correction st s original correcting = record {
  every = false;
  high = false;
  low = false;
  price = false;
  distance = false;
  first = false;
  six = false;
  level = false;
  unit = eqb s.issue.unit 1;
  rule = has_rule correcting.letters;
  differ = prices_differ original correcting && at_level st correcting.volume;
  seller = false;
  last = false;
  original_level = false;
  original_rule = false;
}

-- a correction in RPO and MPV, with the original's J or G where the mode asks for it
unfoldable pub later_correction : Settings → Security → Side → Side → Bool → PrintReasons
later_correction st s original correcting asked = record {
  every = false;
  high = for_range correcting.letters && new_high s.range (units correcting.price);
  low = for_range correcting.letters && new_low s.range (units correcting.price);
  price = false;
  distance = false;
  first = false;
  six = false;
  level = at_level st correcting.volume;
  unit = eqb s.issue.unit 1;
  rule = has_rule correcting.letters;
  differ = false;
  seller = (original.letters.r || correcting.letters.r) && prices_differ original correcting;
  last = for_last correcting.letters && unlike_last s.range (units correcting.price);
  original_level = at_level st original.volume;
  original_rule = asked;
}

unfoldable pub correction_prints : Settings → Security → Side → Side → PrintReasons
correction_prints st s original correcting =
    in_mode st.mode always
    (dvd_correction st s original correcting)
    (later_correction st s original correcting false)
    (later_correction st s original correcting (has_rule original.letters))

-- ---- why a price is in full

unfoldable pub in_normal : FullReasons
in_normal = record { normal = true; none = false; tens = false; zero = false; unit = false; thousand = false; six = false; whole = false; original = false }

-- tens or higher differ from the last printed price, where there is one
unfoldable pub tens_left : Printed → ℕ → Bool
tens_left p whole = not (eqb p.price 0) && not (eqb (tens whole) (tens (dollars p.price)))

-- a trade outside normal
unfoldable pub full_by : Security → ℕ → ℕ → FullReasons
full_by s market whole = record {
  normal = false;
  none = eqb s.printed.price 0;
  tens = tens_left s.printed whole;
  zero = ends_in_zero whole;
  unit = eqb s.issue.unit 1;
  thousand = leb 1000 whole;
  six = rules.six s market;
  whole = false;
  original = false;
}

unfoldable pub trade_full_by : Settings → Security → ℕ → Side → FullReasons
trade_full_by st s market x = pick (is_normal st.mode) in_normal (full_by s market (whole_part x.price))

unfoldable pub correction_full_by : Settings → Security → Side → Side → FullReasons
correction_full_by st s original correcting = pick (is_normal st.mode) in_normal (record {
  normal = false;
  none = false;
  tens = not (is_mpv st.mode) && not (eqb (tens (whole_part original.price)) (tens (whole_part correcting.price)));
  zero = false;
  unit = eqb s.issue.unit 1;
  thousand = false;
  six = false;
  whole = whole_in_full correcting;
  original = whole_in_full original;
})

unfoldable pub cancel_full_by : Settings → Security → Side → FullReasons
cancel_full_by st s x = pick (is_normal st.mode) in_normal (record {
  normal = false;
  none = false;
  tens = false;
  zero = false;
  unit = eqb s.issue.unit 1;
  thousand = false;
  six = false;
  whole = whole_in_full x;
  original = false;
})

-- ---- why a volume is shown

unfoldable pub shown_in_normal : VolumeReasons
shown_in_normal = record { normal = true; level = false; first = false; six = false; rule = false }

unfoldable pub trade_shows_by : Settings → Security → ℕ → Side → VolumeReasons
trade_shows_by st s market x = pick (is_normal st.mode) shown_in_normal (record {
  normal = false;
  level = at_level st x.volume;
  first = first_qualifying s.counts x.letters;
  six = rules.six s market;
  rule = has_rule x.letters;
})

unfoldable pub correction_shows_by : Settings → Side → Side → VolumeReasons
correction_shows_by st original correcting = pick (is_normal st.mode) shown_in_normal (record {
  normal = false;
  level = at_level st correcting.volume;
  first = false;
  six = false;
  rule = has_rule original.letters || has_rule correcting.letters;
})

unfoldable pub cancel_shows_by : Settings → Side → VolumeReasons
cancel_shows_by st x = pick (is_normal st.mode) shown_in_normal (record {
  normal = false;
  level = at_level st x.volume;
  first = false;
  six = false;
  rule = has_rule x.letters;
})

-- ---- some reason is given

unfoldable pub some_print : PrintReasons → Bool
some_print r =
    r.every
    || (r.high
    || (r.low
    || (r.price
    || (r.distance
    || (r.first
    || (r.six
    || (r.level
    || (r.unit
    || (r.rule
    || (r.differ
    || (r.seller
    || (r.last
    || (r.original_level
    || r.original_rule)))))))))))))

unfoldable pub some_full : FullReasons → Bool
some_full r = r.normal || (r.none || (r.tens || (r.zero || (r.unit || (r.thousand || (r.six || (r.whole || r.original)))))))

unfoldable pub some_volume : VolumeReasons → Bool
some_volume r = r.normal || (r.level || (r.first || (r.six || r.rule)))
