-- Laws of a price in its side's columns. Assumes nothing.
use Prim.Native.Nat.{ℕ, ◌+◌, ◌-◌, ◌/◌, ◌%◌, ◌^◌, ◌≤◌, ◌<◌}
use native.Mathlib.Omega.{arith}
use mathlib.Core.Path.{◌≡◌, refl, sym, ap, ◌∙◌}
use mathlib.Core.Bool.{Bool, true, false}
use mathlib.Core.List.{List, [], ◌∷◌, ◌++◌, append_assoc, append-nil}
use lib.ListN.{length, take, drop, set, length-append, length-set}
use lib.Seq.{take_at, take_all}
use lib.Dec.{eqb, ltb}
use borrow.Author.Tests.{eq-eqb, ne_eqb, eqb-true, eqb-false, ltb-true, ltb-false}
use Rattle.text.specs.Bytes.{bytes}
use Rattle.text.specs.Pick.{pick}
use Rattle.text.specs.Put.{Written}
use Rattle.text.specs.Decimal.{decimal, places}
use Rattle.text.proofs.Decimal.{decimal_small, decimal_big, length_places}
use Rattle.text.proofs.Writing.{named}
use Rattle.rules.specs.declared.Price.{Price}
use Rattle.rules.specs.Price.{whole_part, fraction, units, whole_text, fraction_text, short_whole, dollars_text, price_text}
use Rattle.print_amounts.specs.Columns.{PriceColumns}
use Rattle.print_amounts.proofs.Laying.{Over, back, over_first, over_byte, over_part, over_front, put_back, length_part, lent_part, back_size, written_size}
use Rattle.print_amounts.proofs.Digits.{Ends, digits_in_lem, places_mod, whole_units, zero_fraction, nonzero_fraction, whole_below, whole_from}
use Rattle.rules.specs.declared.PriceForm.{PriceForm}
use Rattle.rules.specs.declared.PriceForm.TheVariants.{Full, Short}

-- ---- dollars

pub whole_digits : (w r : ℕ) → (1 ≤ w) → r ≡ length (decimal w) → r ≡ length (whole_text w)
unfolding whole_text pick
whole_digits w r h e = rw (ne_eqb w 0 (λ z. absurd (omega arith))) e

-- the dollars that are printed are the last digits of the whole part
short_ends : (w : ℕ) → Ends (decimal w) (short_whole w)
unfolding short_whole
short_ends w = go (ltb w 10) refl
  where
    go : (b : Bool) → ltb w 10 ≡ b → Ends (decimal w) ((48 + w % 10) ∷ [])
    go true e = let l = ltb-true w 10 e in let q : w % 10 ≡ w = omega arith in record { head = []; whole = rw q (decimal_small w l) }
    go false e = record { head = decimal (w / 10); whole = decimal_big w (ltb-false w 10 e) }

dollars_end : (form : PriceForm) (w : ℕ) → (w ≡ 0 → ⊥) → Ends (decimal w) (dollars_text form w)
unfolding dollars_text whole_text pick
dollars_end Full w z = record { head = []; whole = rw (ne_eqb w 0 z) }
dollars_end Short w z = short_ends w

-- ---- the fraction

no_fraction : (t : List ℕ) (d f : ℕ) → f ≡ 0 → t ++ fraction_text d f ≡ t
unfolding fraction_text pick
no_fraction t d f e = rw (eq-eqb f 0 e) (append-nil t)

some_fraction : (t : List ℕ) (d f : ℕ) → (f ≡ 0 → ⊥) → t ++ fraction_text d f ≡ t ++ bytes "," ++ places d f
unfolding fraction_text pick
some_fraction t d f z = rw (ne_eqb f 0 z) (sym (append_assoc t (bytes ",") (places d f)))

-- ---- k columns, figure dot, d columns

module _ (s b xs dollars : List ℕ) (k d i : ℕ) (e : dollars ≡ take 8 (drop (14 - d - k) s)) (h : k ≤ 6) (l : length s ≡ 37) (f : d ≤ 8) (r : 40 ≤ length b) (v : Written dollars b xs i) where
  dotted : Over (take k (drop (14 - d - k) s) ++ bytes ",") b (set xs k 44) (k + 1) 8
  dotted = over_byte 44 (over_first dollars b xs i v s (14 - d - k) k 8 8 e (omega arith) (omega arith) (omega arith)) (omega arith) (omega arith)

  -- there is room for the fraction
  pub part_room : (part : List ℕ) → part ≡ take 8 (drop (14 - d) s) → length part ≤ length (take (length (set xs k 44) - (k + 1)) (drop (k + 1) (set xs k 44)))
  part_room part q = lent_part b (set xs k 44) part (k + 1) 8 dotted.size (ap length q ∙ length_part s (14 - d) 8 (omega arith)) (omega arith)

  module _ (part ys : List ℕ) (j : ℕ) (q : part ≡ take 8 (drop (14 - d) s)) (w : Written part (take (length (set xs k 44) - (k + 1)) (drop (k + 1) (set xs k 44))) ys j) where
    abbrev after : List ℕ
    after = back (set xs k 44) ys (k + 1)

    laid : Over (take k (drop (14 - d - k) s) ++ bytes "," ++ take d (drop (14 - d) s)) b after (k + 1 + d) 15
    laid = over_part part (set xs k 44) ys (k + 1) j w _ b 8 dotted s (14 - d) d 8 15 q (omega arith) f (omega arith) (omega arith)

    module _ (kept : List ℕ) (m : ℕ) (p : kept ≡ take 16 (drop m b)) (g : m ≤ k + 1 + d) where
      -- and for what is put back
      pub back_room : length kept ≤ length (take (length after - m) (drop m after))
      back_room = lent_part b after kept m 16 laid.size (ap length p ∙ length_part b m 16 (omega arith)) (omega arith)

      module _ (zs : List ℕ) (n : ℕ) (x : Written kept (take (length after - m) (drop m after)) zs n) where
        pub columns_written : Written (take m (take k (drop (14 - d - k) s) ++ bytes "," ++ take d (drop (14 - d) s))) b (back after zs m) m
        columns_written = put_back kept after zs m n x _ b 15 (over_front m laid g) 16 p (omega arith) (omega arith)

-- the tape is as long as it was
pub columns_size : (dollars b xs part ys kept zs : List ℕ) (k m i j n : ℕ) → Written dollars b xs i → Written part (take (length (set xs k 44) - (k + 1)) (drop (k + 1) (set xs k 44))) ys j
    → Written kept (take (length (back (set xs k 44) ys (k + 1)) - m) (drop m (back (set xs k 44) ys (k + 1)))) zs n → k < length b → m ≤ length b → length (back (back (set xs k 44) ys (k + 1)) zs m) ≡ length b
columns_size dollars b xs part ys kept zs k m i j n v w x h l =
    let a : length (set xs k 44) ≡ length b = length-set xs k 44 ∙ written_size v in
    let e : length (back (set xs k 44) ys (k + 1)) ≡ length b = back_size part (set xs k 44) ys (k + 1) j w (omega arith) ∙ a in
    back_size kept (back (set xs k 44) ys (k + 1)) zs m n x (omega arith) ∙ e

-- ---- a price

module _ (columns : List ℕ) (price : Price) (value whole : ℕ) (h : PriceColumns columns price) (u : value ≡ units price) (y : whole ≡ value / 100000000) where
  abbrev n : ℕ
  n = price.n

  abbrev d : ℕ
  d = price.d

  is_whole : whole ≡ n / 10 ^ d
  unfolding units
  is_whole = y ∙ rw u (whole_units n d h.sound.decimals)

  pub whole_small : whole < 1000000
  whole_small = rw is_whole (whole_below n d h.sound.decimals h.sound.small)

  module _ (form : PriceForm) (k : ℕ) (z : 1 ≤ whole) (e : k ≡ length (dollars_text form whole)) where
    some : whole ≡ 0 → ⊥
    some q = omega arith

    big : 10 ^ d ≤ n
    big = whole_from n d h.sound.decimals (λ q. some (is_whole ∙ q))

    in_columns : (take k (drop (14 - d - k) columns) ≡ dollars_text form whole) × (take d (drop (14 - d) columns) ≡ places d n)
    in_columns =
        let w : Ends (decimal (n / 10 ^ d)) (dollars_text form whole) = rw (← is_whole) (dollars_end form whole some) in
        digits_in_lem columns 14 d n (dollars_text form whole) k (omega (arith, h.size)) h.n_is big w e

    price_is : price_text form price ≡ dollars_text form whole ++ fraction_text d (n % 10 ^ d)
    unfolding price_text fraction whole_part
    price_is = rw is_whole

    abbrev laid_text : List ℕ
    laid_text = take k (drop (14 - d - k) columns) ++ bytes "," ++ take d (drop (14 - d) columns)

    text_is : laid_text ≡ dollars_text form whole ++ bytes "," ++ places d n
    text_is = rw (in_columns.0, in_columns.1)

    -- the dollars alone
    even : value % 100000000 ≡ 0 → price_text form price ≡ take k laid_text
    unfolding units
    even c =
        let f : n % 10 ^ d ≡ 0 = zero_fraction n d h.sound.decimals (ap (λ (v : ℕ). v % 100000000) (sym u) ∙ c) in
        price_is ∙ (no_fraction (dollars_text form whole) d _ f ∙ sym (ap (take k) (text_is ∙ append_assoc (dollars_text form whole) (bytes ",") (places d n)) ∙ take_at (dollars_text form whole) (bytes "," ++ places d n) k (sym e)))

    -- the fraction too
    uneven : (value % 100000000 ≡ 0 → ⊥) → price_text form price ≡ take (k + 1 + d) laid_text
    unfolding units
    uneven c =
        let f : n % 10 ^ d ≡ 0 → ⊥ = nonzero_fraction n d h.sound.decimals (λ q. c (ap (λ (v : ℕ). v % 100000000) u ∙ q)) in
        let l : length laid_text ≡ k + 1 + d = ap length text_is ∙ simp (length-append, length_places, ← e) in
        price_is ∙ (some_fraction (dollars_text form whole) d _ f ∙ rw (places_mod d n) (sym (take_all (k + 1 + d) laid_text (omega arith) ∙ text_is)))

    pub price_written : (b a : List ℕ) (m r : ℕ) → m ≡ pick (eqb (value % 100000000) 0) k (k + 1 + d) → Written (take m laid_text) b a r → Written (price_text form price) b a r
    unfolding pick
    price_written b a m r q w = go (eqb (value % 100000000) 0) refl
      where
        go : (t : Bool) → eqb (value % 100000000) 0 ≡ t → Written (price_text form price) b a r
        go true p = let f : m ≡ k = q ∙ rw p in named (even (eqb-true (value % 100000000) 0 p) ∙ rw f) w
        go false p = let f : m ≡ k + 1 + d = q ∙ rw p in named (uneven (eqb-false (value % 100000000) 0 p) ∙ rw f) w
