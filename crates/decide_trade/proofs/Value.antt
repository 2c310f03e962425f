-- What the rules say of a side is what they say of its values. Assumes nothing.
use Prim.Native.Nat.{ℕ}
use mathlib.Core.Path.{◌≡◌, refl}
use mathlib.Core.Bool.{Bool}
use Rattle.rules.specs.declared.Side.{Side}
use Rattle.rules.specs.declared.Settings.{Settings}
use Rattle.rules.specs.declared.Security.{Security}
use Rattle.rules.specs.Price.{whole_part, units, form_by}
use Rattle.rules.specs.Conditions.{has_rule}
use Rattle.rules.specs.Qualifying.{for_range, for_last}
use Rattle.rules.specs.Trade.{first_qualifying, new_range, full_price, shows_volume, prints_anyhow, prints_trade, trade_full, trade_form, trade_shows, range_after, printed_after, counts_after, after_trade}
use Rattle.decide_levels.specs.Parts.{new_at}
use Rattle.decide_trade.specs.Value.{first_by, anyhow_by, rpo_by, mpv_by, by_mode, prints_by, full_by, shows_by, range_by, printed_by, counts_by, after_by}
use Rattle.rules.specs.declared.PriceForm.{PriceForm}

-- ---- of a side

module _ (st : Settings) (s : Security) (market : ℕ) (x : Side) where
  pub prints_is : prints_trade st s market x ≡ prints_by st s market x.volume (units x.price) (for_range x.letters) (for_last x.letters) (has_rule x.letters)
  unfolding prints_trade prints_by by_mode rpo_by mpv_by anyhow_by first_by new_range new_at first_qualifying prints_anyhow
  prints_is = refl

  pub full_is : trade_full st s market x ≡ full_by st s market (whole_part x.price)
  unfolding trade_full full_price full_by
  full_is = refl

  pub shows_is : trade_shows st s market x ≡ shows_by st s market x.volume (for_last x.letters) (has_rule x.letters)
  unfolding trade_shows shows_volume shows_by first_by first_qualifying
  shows_is = refl

  pub after_is : after_trade st s market x ≡ after_by s market (units x.price) (prints_trade st s market x) (for_range x.letters) (for_last x.letters)
  unfolding after_trade after_by range_after range_by printed_after printed_by counts_after counts_by
  after_is = refl

  -- with values as callees answered them
  pub side_prints : (value : ℕ) (ranges lasts rule r : Bool) → value ≡ units x.price → ranges ≡ for_range x.letters → lasts ≡ for_last x.letters → rule ≡ has_rule x.letters → r ≡ prints_by st s market x.volume value ranges lasts rule → r ≡ prints_trade st s market x
  side_prints value ranges lasts rule r v q l u e = rw (prints_is, ← v, ← q, ← l, ← u) e

  pub side_form : (whole : ℕ) (r : PriceForm) → whole ≡ whole_part x.price → r ≡ form_by (full_by st s market whole) → r ≡ trade_form st s market x
  unfolding trade_form
  side_form whole r w e = rw (full_is, ← w) e

  pub side_shows : (lasts rule r : Bool) → lasts ≡ for_last x.letters → rule ≡ has_rule x.letters → r ≡ shows_by st s market x.volume lasts rule → r ≡ trade_shows st s market x
  side_shows lasts rule r l u e = rw (shows_is, ← l, ← u) e

  pub side_after : (value : ℕ) (prints ranges lasts : Bool) (r : Security) → value ≡ units x.price → prints ≡ prints_trade st s market x → ranges ≡ for_range x.letters → lasts ≡ for_last x.letters → r ≡ after_by s market value prints ranges lasts → r ≡ after_trade st s market x
  side_after value prints ranges lasts r v p q l e = rw (after_is, ← v, ← p, ← q, ← l) e
