-- A reason is given exactly where the rules print the line, its price in full, its volume: nothing that prints has no reason, and nothing that is left off has one. Assumes nothing.
use Prim.Native.Nat.{ℕ}
use mathlib.Core.Path.{◌≡◌, refl, sym, ap, ◌∙◌}
use mathlib.Core.Bool.{Bool, true, false, ◌&&◌, ◌||◌, not}
use lib.Dec.{leb, eqb}
use Rattle.text.specs.Pick.{pick}
use Rattle.text.proofs.Booleans.{or_true, or_false}
use Rattle.rules.specs.Price.{whole_part, units}
use Rattle.rules.specs.Conditions.{has_rule}
use Rattle.rules.specs.Qualifying.{for_range, for_last}
use Rattle.rules.specs.Trade as rules
use Rattle.rules.specs.Trade.{at_level, first_qualifying, new_high, new_low, new_range, tens, ends_in_zero, dollars, full_at, full_price, shows_volume, prints_anyhow, prints_trade, is_normal, trade_full, trade_shows}
use Rattle.rules.specs.Correction.{prices_differ, prints_in_dvd, unlike_last, prints_in_both, prints_correction, is_mpv, whole_in_full, full_prices, shows_volumes, correction_full, correction_shows, cancel_full, cancel_shows}
use Rattle.rules.specs.declared.Mode.{Mode}
use Rattle.rules.specs.declared.Mode.TheVariants.{Normal, Dvd, Rpo, Mpv}
use Rattle.rules.specs.declared.Side.{Side}
use Rattle.rules.specs.declared.Settings.{Settings}
use Rattle.rules.specs.declared.Security.{Security}
use Rattle.decide_levels.specs.Parts.{prints_rpo, prints_mpv, last_unlike, last_far}
use Rattle.explain_reasons.specs.declared.FullReasons.{FullReasons}
use Rattle.explain_reasons.specs.declared.VolumeReasons.{VolumeReasons}
use Rattle.explain_reasons.specs.Reasons.{in_mode, always, in_normal, shown_in_normal, tens_left, rpo_trade, mpv_trade, trade_prints, dvd_correction, later_correction, correction_prints, full_by, trade_full_by, correction_full_by, cancel_full_by, trade_shows_by, correction_shows_by, cancel_shows_by, some_print, some_full, some_volume}

-- either of two, each asked with the same condition
both_asked : (f a b c : Bool) → ((f && a) || ((f && b) || c)) ≡ ((f && (a || b)) || c)
both_asked false a b c = refl
both_asked true true b c = refl
both_asked true false b c = refl

-- in normal there is a reason, otherwise one of those asked
full_or : (n : Bool) (r : FullReasons) → some_full (pick n in_normal r) ≡ (n || some_full r)
unfolding pick some_full in_normal
full_or true r = refl
full_or false r = refl

shown_or : (n : Bool) (r : VolumeReasons) → some_volume (pick n shown_in_normal r) ≡ (n || some_volume r)
unfolding pick some_volume shown_in_normal
shown_or true r = refl
shown_or false r = refl

-- ---- trades

rpo_exactly : (st : Settings) (s : Security) (market : ℕ) (x : Side) → some_print (rpo_trade st s market x) ≡ prints_rpo st s market x
unfolding some_print rpo_trade prints_rpo new_range last_unlike prints_anyhow
rpo_exactly st s market x = rw (or_false (has_rule x.letters)) (both_asked (for_range x.letters) _ _ _)

mpv_exactly : (st : Settings) (s : Security) (market : ℕ) (x : Side) → some_print (mpv_trade st s market x) ≡ prints_mpv st s market x
unfolding some_print mpv_trade prints_mpv last_far prints_anyhow
mpv_exactly st s market x = rw (or_false (has_rule x.letters))

-- what prints always has its reason
always_given : some_print always ≡ true
unfolding some_print always
always_given = refl

pub trade_printed : (st : Settings) (s : Security) (market : ℕ) (x : Side) → some_print (trade_prints st s market x) ≡ prints_trade st s market x
unfolding trade_prints in_mode prints_trade prints_rpo prints_mpv prints_anyhow last_unlike last_far
trade_printed st s market x = go st.mode
  where
    go : (m : Mode) → some_print (in_mode m always always (rpo_trade st s market x) (mpv_trade st s market x)) ≡ elim m [ Normal ↦ true | Dvd ↦ true | Rpo ↦ prints_rpo st s market x | Mpv ↦ prints_mpv st s market x ]
    go Normal = always_given
    go Dvd = always_given
    go Rpo = rpo_exactly st s market x
    go Mpv = mpv_exactly st s market x

full_exactly : (none tens zero unit thousand six : Bool) → (none || ((not none && tens) || (zero || (unit || (thousand || (six || false)))))) ≡ (none || (tens || (zero || (unit || (thousand || six)))))
full_exactly true tens zero unit thousand six = refl
full_exactly false tens zero unit thousand six = rw (or_false six)

pub trade_in_full : (st : Settings) (s : Security) (market : ℕ) (x : Side) → some_full (trade_full_by st s market x) ≡ trade_full st s market x
unfolding trade_full_by trade_full some_full full_price full_at full_by tens_left
trade_in_full st s market x =
    let whole = whole_part x.price in
    full_or (is_normal st.mode) (full_by s market whole)
    ∙ ap (λ (b : Bool). is_normal st.mode || b)
    (full_exactly (eqb s.printed.price 0) (not (eqb (tens whole) (tens (dollars s.printed.price)))) (ends_in_zero whole) (eqb s.issue.unit 1) (leb 1000 whole) (rules.six s market))

pub trade_shown : (st : Settings) (s : Security) (market : ℕ) (x : Side) → some_volume (trade_shows_by st s market x) ≡ trade_shows st s market x
unfolding trade_shows_by trade_shows some_volume shows_volume
trade_shown st s market x = shown_or (is_normal st.mode) _

-- ---- corrections

dvd_exactly : (unit rule differ : Bool) → (unit || (rule || (differ || false))) ≡ (differ || (rule || unit))
dvd_exactly true rule differ = simp or_true
dvd_exactly false true differ = simp or_true
dvd_exactly false false true = refl
dvd_exactly false false false = refl

in_dvd_exactly : (st : Settings) (s : Security) (x y : Side) → some_print (dvd_correction st s x y) ≡ prints_in_dvd st s x y
unfolding some_print dvd_correction prints_in_dvd
in_dvd_exactly st s x y = dvd_exactly (eqb s.issue.unit 1) (has_rule y.letters) (prices_differ x y && at_level st y.volume)

later_exactly : (range level unit rule seller last old asked : Bool)
    → (range || (level || (unit || (rule || (seller || (last || (old || asked))))))) ≡ ((asked || rule) || (unit || (old || (level || (seller || (range || last))))))
later_exactly true level unit rule seller last old asked = simp or_true
later_exactly false true unit rule seller last old asked = simp or_true
later_exactly false false true rule seller last old asked = simp or_true
later_exactly false false false true seller last old asked = simp or_true
later_exactly false false false false true last old asked = simp (or_true, or_false)
later_exactly false false false false false true old asked = simp (or_true, or_false)
later_exactly false false false false false false true asked = simp (or_true, or_false)
later_exactly false false false false false false false true = refl
later_exactly false false false false false false false false = refl

in_later_exactly : (st : Settings) (s : Security) (x y : Side) (asked : Bool) → some_print (later_correction st s x y asked) ≡ ((asked || has_rule y.letters) || prints_in_both st s x y)
unfolding some_print later_correction prints_in_both new_range
in_later_exactly st s x y asked =
    both_asked (for_range y.letters) _ _ _
    ∙ later_exactly
    (for_range y.letters && (new_high s.range (units y.price) || new_low s.range (units y.price)))
    (at_level st y.volume)
    (eqb s.issue.unit 1)
    (has_rule y.letters)
    ((x.letters.r || y.letters.r) && prices_differ x y)
    (for_last y.letters && unlike_last s.range (units y.price))
    (at_level st x.volume)
    asked

pub correction_printed : (st : Settings) (s : Security) (x y : Side) → some_print (correction_prints st s x y) ≡ prints_correction st s x y
unfolding correction_prints in_mode prints_correction
correction_printed st s x y = go st.mode
  where
    go : (m : Mode)
        → some_print (in_mode m always (dvd_correction st s x y) (later_correction st s x y false) (later_correction st s x y (has_rule x.letters)))
        ≡ elim m [ Normal ↦ true | Dvd ↦ prints_in_dvd st s x y | Rpo ↦ has_rule y.letters || prints_in_both st s x y | Mpv ↦ (has_rule x.letters || has_rule y.letters) || prints_in_both st s x y ]
    go Normal = always_given
    go Dvd = in_dvd_exactly st s x y
    go Rpo = in_later_exactly st s x y false
    go Mpv = in_later_exactly st s x y (has_rule x.letters)

corrected_full : (tens unit whole original : Bool) → (tens || (unit || (whole || original))) ≡ (unit || (original || (whole || tens)))
corrected_full true unit whole original = simp or_true
corrected_full false true whole original = refl
corrected_full false false true original = simp or_true
corrected_full false false false original = sym (or_false original)

pub correction_in_full : (st : Settings) (s : Security) (x y : Side) → some_full (correction_full_by st s x y) ≡ correction_full st s x y
unfolding correction_full_by correction_full some_full full_prices
correction_in_full st s x y =
    full_or (is_normal st.mode) _
    ∙ ap (λ (b : Bool). is_normal st.mode || b)
    (corrected_full (not (is_mpv st.mode) && not (eqb (tens (whole_part x.price)) (tens (whole_part y.price)))) (eqb s.issue.unit 1) (whole_in_full y) (whole_in_full x))

pub correction_shown : (st : Settings) (x y : Side) → some_volume (correction_shows_by st x y) ≡ correction_shows st x y
unfolding correction_shows_by correction_shows some_volume shows_volumes
correction_shown st x y = shown_or (is_normal st.mode) _

-- ---- cancels and errors, which always print

pub cancel_in_full : (st : Settings) (s : Security) (x : Side) → some_full (cancel_full_by st s x) ≡ cancel_full st s x
unfolding cancel_full_by cancel_full some_full
cancel_in_full st s x =
    full_or (is_normal st.mode) _ ∙ ap (λ (b : Bool). is_normal st.mode || (eqb s.issue.unit 1 || b)) (or_false (whole_in_full x))

pub cancel_shown : (st : Settings) (x : Side) → some_volume (cancel_shows_by st x) ≡ cancel_shows st x
unfolding cancel_shows_by cancel_shows some_volume
cancel_shown st x = shown_or (is_normal st.mode) _
