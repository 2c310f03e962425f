-- Document 01, "Corrections and cancels" (001, sections 5, 6). Assumes nothing.
use Rattle.std.specs.Prelude.{ℕ, Bool, true, false, ◌&&◌, ◌||◌, not, List, ◌++◌, leb, eqb}
use Rattle.text.specs.Bytes.{bytes}
use Rattle.text.specs.Pick.{opt}
use Rattle.rules.specs.Price.{whole_part, units, form_by}
use Rattle.rules.specs.Conditions.{has_rule}
use Rattle.rules.specs.Qualifying.{for_last}
use Rattle.rules.specs.Side.{side_text}
use Rattle.rules.specs.Trade.{at_level, new_range, tens, ends_in_zero, is_normal, range_after}
use Rattle.rules.specs.declared.Mode.{Mode}
use Rattle.rules.specs.declared.Mode.TheVariants.{Normal, Dvd, Rpo, Mpv}
use Rattle.rules.specs.declared.Letters.{Letters}
use Rattle.rules.specs.declared.Side.{Side}
use Rattle.rules.specs.declared.Settings.{Settings}
use Rattle.rules.specs.declared.Range.{Range}
use Rattle.rules.specs.declared.Security.{Security}
use Rattle.rules.specs.declared.PriceForm.{PriceForm}

-- the name repeats after WAS. if the correcting trade has any of S L O C K N M B
unfoldable pub repeats_name : Letters → Bool
repeats_name x = x.s || (x.l || (x.o || (x.c || (x.k || (x.n || (x.m || x.b))))))

-- a closing G pair serves as the end pair
unfoldable pub end_pair : Side → List ℕ
end_pair x = opt (not x.letters.g) (bytes ">>")

-- `<<CORR.`, original, `WAS.`, correcting trade, `>>`
unfoldable pub correction_text : List ℕ → ℕ → ℕ → PriceForm → Bool → Side → Side → List ℕ
correction_text name network unit form shows original correcting =
    bytes "<<CORR."
    ++ side_text name network unit form shows original
    ++ bytes "WAS."
    ++ side_text (opt (repeats_name correcting.letters) name) network unit form shows correcting
    ++ end_pair correcting

-- `<<CXL.` or `<<ERR.`, trade, `>>`
unfoldable pub cancel_text : List ℕ → List ℕ → ℕ → ℕ → PriceForm → Bool → Side → List ℕ
cancel_text opening name network unit form shows x =
    opening
    ++ side_text name network unit form shows x
    ++ end_pair x

abbrev pub cancel_opening : List ℕ
cancel_opening = bytes "<<CXL."

abbrev pub error_opening : List ℕ
error_opening = bytes "<<ERR."

-- ---- what prints outside normal

unfoldable pub prices_differ : Side → Side → Bool
prices_differ original correcting = not (eqb (units original.price) (units correcting.price))

-- DVD prints a correction if: prices differ and the correcting volume is at the level; correcting J or G; unit 1
unfoldable pub prints_in_dvd : Settings → Security → Side → Side → Bool
prints_in_dvd st s original correcting =
    (prices_differ original correcting && at_level st correcting.volume)
    || (has_rule correcting.letters
    || eqb s.issue.unit 1)

-- a price unlike the consolidated last, or none yet
unfoldable pub unlike_last : Range → ℕ → Bool
unlike_last r value = eqb r.last 0 || not (eqb value r.last)

-- RPO and MPV: unit 1; either volume at the level; R on either side and prices differ; the correcting trade makes a new high or low that it qualifies for, or qualifies for last with a price unlike the consolidated last, or with none yet
unfoldable pub prints_in_both : Settings → Security → Side → Side → Bool
prints_in_both st s original correcting =
    eqb s.issue.unit 1
    || (at_level st original.volume
    || (at_level st correcting.volume
    || (((original.letters.r || correcting.letters.r) && prices_differ original correcting)
    || (new_range s.range correcting
    || (for_last correcting.letters && unlike_last s.range (units correcting.price))))))

-- a correction prints; in RPO correcting J or G prints it too, in MPV that of either side
unfoldable pub prints_correction : Settings → Security → Side → Side → Bool
prints_correction st s original correcting = elim st.mode [
  | Normal ↦ true
  | Dvd ↦ prints_in_dvd st s original correcting
  | Rpo ↦ has_rule correcting.letters || prints_in_both st s original correcting
  | Mpv ↦ (has_rule original.letters || has_rule correcting.letters) || prints_in_both st s original correcting
]

unfoldable pub is_mpv : Mode → Bool
is_mpv Normal = false
is_mpv Dvd = false
is_mpv Rpo = false
is_mpv Mpv = true

-- a whole part that is printed in full: ends in 0, 1,000 or over
unfoldable pub whole_in_full : Side → Bool
whole_in_full x = ends_in_zero (whole_part x.price) || leb 1000 (whole_part x.price)

-- full prices if unit 1, either whole part ends in 0, either is 1,000 or over, or (not in MPV) tens or higher differ
unfoldable pub full_prices : Settings → Security → Side → Side → Bool
full_prices st s original correcting =
    eqb s.issue.unit 1
    || (whole_in_full original
    || (whole_in_full correcting
    || (not (is_mpv st.mode) && not (eqb (tens (whole_part original.price)) (tens (whole_part correcting.price))))))

-- volumes if the correcting one is at the level, or J or G on either side
unfoldable pub shows_volumes : Settings → Side → Side → Bool
shows_volumes st original correcting = at_level st correcting.volume || (has_rule original.letters || has_rule correcting.letters)

-- normal mode prints all in full
unfoldable pub correction_full : Settings → Security → Side → Side → Bool
correction_full st s original correcting = is_normal st.mode || full_prices st s original correcting

unfoldable pub correction_form : Settings → Security → Side → Side → PriceForm
correction_form st s original correcting = form_by (correction_full st s original correcting)

unfoldable pub correction_shows : Settings → Side → Side → Bool
correction_shows st original correcting = is_normal st.mode || shows_volumes st original correcting

-- cancels always print: full price if it ends in 0, unit 1, 1,000 or over; volume at the level, or J or G
unfoldable pub cancel_full : Settings → Security → Side → Bool
cancel_full st s x = is_normal st.mode || (eqb s.issue.unit 1 || whole_in_full x)

unfoldable pub cancel_form : Settings → Security → Side → PriceForm
cancel_form st s x = form_by (cancel_full st s x)

unfoldable pub cancel_shows : Settings → Side → Bool
cancel_shows st x = is_normal st.mode || (at_level st x.volume || has_rule x.letters)

-- the correcting trade moves high, low and last; originals and cancels change nothing
unfoldable pub after_correction : Security → Side → Security
after_correction s x = record { issue = s.issue; printed = s.printed; range = range_after s.range x; counts = s.counts }
