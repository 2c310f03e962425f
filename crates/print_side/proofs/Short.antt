-- No side is longer than its name and 161 bytes. Assumes nothing.
use Prim.Native.Nat.{ℕ, ◌+◌, ◌/◌, ◌^◌, ◌≤◌, ◌<◌}
use native.Mathlib.Omega.{arith}
use native.Mathlib.Nat.{div-le_self}
use mathlib.Core.Bool.{Bool, true, false}
use mathlib.Core.List.{List, [], ◌++◌}
use lib.ListN.{length, length-append}
use Rattle.text.specs.Bytes.{bytes}
use Rattle.text.specs.Pick.{pick, opt}
use Rattle.text.specs.Decimal.{decimal, places}
use Rattle.text.proofs.Decimal.{length_decimal, length_places}
use Rattle.rules.specs.Volume.{group, full_volume, in_shares, in_hundreds, in_tens, volume_text}
use Rattle.rules.specs.Price.{whole_part, fraction, whole_text, fraction_text, short_whole, dollars_text, price_text}
use Rattle.rules.specs.Conditions.{after_name, after_price, seller_text, previous_text, at_end}
use Rattle.rules.specs.Side.{head_text, tail_text, side_text}
use Rattle.rules.specs.declared.Price.{Price}
use Rattle.rules.specs.declared.Letters.{Letters}
use Rattle.rules.specs.declared.Side.{Side}
use Rattle.line_owed.specs.Owed.{OwedSide}
use Rattle.line_owed.proofs.Shown.{sound_below}
use Rattle.rules.specs.declared.PriceForm.{PriceForm}
use Rattle.rules.specs.declared.PriceForm.TheVariants.{Full, Short}

-- a text of at most k bytes
record Most (k : ℕ) (t : List ℕ) : Type 0 where
  within : length t ≤ k

mark : (k : ℕ) (t : List ℕ) → length t ≤ k → Most k t
mark k t h = record { within = h }

-- at most twenty digits
few : (n : ℕ) → n < 10 ^ 20 → Most 20 (decimal n)
few n h = record { within = length_decimal 19 n h }

few_parts : (n k : ℕ) → n < 10 ^ 20 → Most 20 (decimal (n / k))
few_parts n k h = few (n / k) (omega (arith, div-le_self n k))

chosen : {k : ℕ} {s t : List ℕ} (b : Bool) → Most k s → Most k t → Most k (pick b s t)
unfolding pick
chosen true h g = h
chosen false h g = g

shown : {k : ℕ} {t : List ℕ} (b : Bool) → Most k t → Most k (opt b t)
unfolding opt
shown true h = h
shown false h = record { within = omega arith }

then : {j k : ℕ} {s t : List ℕ} → Most j s → Most k t → Most (j + k) (s ++ t)
then {j} {k} {s} {t} h g = record { within = omega (arith, length-append s t, h.within, g.within) }

more : {j : ℕ} {t : List ℕ} (k : ℕ) → Most j t → j ≤ k → Most k t
more k h l = record { within = omega (arith, h.within) }

-- ---- volumes

group_short : (n : ℕ) → Most 4 (group n)
unfolding group
group_short n = then {j = 1} {k = 3} (mark 1 (bytes ",") (omega arith)) (mark 3 (places 3 n) (omega (arith, length_places 3 n)))

full_short : (n : ℕ) → n < 10 ^ 20 → Most 28 (full_volume n)
unfolding full_volume
full_short n h =
    chosen _ (more 28 (few n h) (omega arith))
    (chosen _ (more 28 (then (few_parts n 1000 h) (group_short n)) (omega arith))
    (then (then (few_parts n 1000000 h) (group_short (n / 1000))) (group_short n)))

module _ (v : ℕ) (h : v < 10 ^ 20) where
  shares_short : Most 32 (in_shares v)
  unfolding in_shares
  shares_short = then (full_short v h) (mark 4 (bytes "SHRS") (omega arith))

  hundreds_short : Most 32 (in_hundreds v)
  unfolding in_hundreds
  hundreds_short =
      chosen _ (mark 32 [] (omega arith))
      (chosen _ (more 32 (then (few_parts v 100 h) (mark 1 (bytes "s") (omega arith))) (omega arith))
      (more 32 (then (full_short v h) (mark 1 (bytes "s") (omega arith))) (omega arith)))

  tens_short : Most 32 (in_tens v)
  unfolding in_tens
  tens_short =
      chosen _
      (chosen _ (more 32 (then (few_parts v 10 h) (mark 1 (bytes "$") (omega arith))) (omega arith)) shares_short)
      (more 32 (then (full_short v h) (mark 1 (bytes "$") (omega arith))) (omega arith))

  volume_short : (network unit : ℕ) → Most 32 (volume_text network unit v)
  unfolding volume_text
  volume_short network unit = chosen _ shares_short (chosen _ hundreds_short tens_short)

  pub volume_most : (network unit : ℕ) (shows : Bool) → length (opt shows (volume_text network unit v)) ≤ 32
  volume_most network unit shows = (shown shows (volume_short network unit)).within

-- ---- prices

module _ (p : Price) (h : p.n < 10 ^ 20) (l : p.d ≤ 8) where
  whole_short : Most 20 (whole_text (whole_part p))
  unfolding whole_text whole_part
  whole_short = chosen _ (mark 20 [] (omega arith)) (few_parts p.n (10 ^ p.d) h)

  fraction_short : Most 9 (fraction_text p.d (fraction p))
  unfolding fraction_text
  fraction_short = chosen _ (mark 9 [] (omega arith)) (then {j = 1} {k = 8} (mark 1 (bytes ",") (omega arith)) (mark 8 (places p.d (fraction p)) (omega (arith, length_places p.d (fraction p)))))

  short_whole_lem : Most 20 (short_whole (whole_part p))
  unfolding short_whole
  short_whole_lem = mark 20 _ (omega arith)

  dollars_short : (form : PriceForm) → Most 20 (dollars_text form (whole_part p))
  unfolding dollars_text
  dollars_short Full = whole_short
  dollars_short Short = short_whole_lem

  price_short : (form : PriceForm) → Most 29 (price_text form p)
  unfolding price_text
  price_short form = then (dollars_short form) fraction_short

  pub price_most : (form : PriceForm) → length (price_text form p) ≤ 29
  price_most form = (price_short form).within

-- ---- conditions

name_conditions : (x : Letters) → Most 20 (after_name x)
unfolding after_name
name_conditions x = then (then (then (shown _ (mark 3 (bytes ".ND") (omega arith))) (shown _ (mark 4 (bytes ".OPD") (omega arith)))) (shown _ (mark 4 (bytes ".SLD") (omega arith)))) (shown _ (mark 9 (bytes ".SLD.LAST") (omega arith)))

price_conditions : (x : Letters) → Most 5 (after_price x)
unfolding after_price
price_conditions x = then (then (shown _ (mark 2 (bytes ",c") (omega arith))) (shown _ (mark 2 (bytes ",b") (omega arith)))) (shown _ (mark 1 (bytes "t") (omega arith)))

-- ---- a side

module _ (x : Side) (h : OwedSide x) where
  seller_short : Most 26 (seller_text x.days)
  unfolding seller_text
  seller_short = then (mark 6 (bytes "SELLER") (omega arith)) (few x.days (omega (arith, h.days)))

  previous_short : Most 42 (previous_text x.previous)
  unfolding previous_text
  previous_short = then (then (mark 11 (bytes ">>PREV.LAST") (omega arith)) (price_short x.previous (omega (arith, h.last)) h.decimals Full)) (mark 2 (bytes ">>") (omega arith))

  end_short : Most 75 (at_end x)
  unfolding at_end
  end_short = then (then (shown _ seller_short) (shown _ (mark 7 (bytes "RULE127") (omega arith)))) (shown _ previous_short)

  tail_short : Most 80 (tail_text x)
  unfolding tail_text
  tail_short = then (price_conditions x.letters) end_short

  pub side_short : (name : List ℕ) (network unit : ℕ) (form : PriceForm) (shows : Bool) → length (side_text name network unit form shows x) ≤ length name + 161
  unfolding side_text head_text
  side_short name network unit form shows =
      let t = then (then (then (then (mark (length name) name (omega arith)) (name_conditions x.letters)) (shown shows (volume_short x.volume (omega (arith, h.volume)) network unit))) (price_short x.price (omega (arith, sound_below x.price h.price)) h.price.decimals form)) tail_short in
      omega (arith, t.within)
