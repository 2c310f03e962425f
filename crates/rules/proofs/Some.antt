-- Texts of the rules that are never empty. Assumes nothing.
use Prim.Native.Nat.{ℕ, ◌+◌, ◌*◌, ◌/◌, ◌%◌, ◌^◌, ◌≤◌}
use native.Mathlib.Nat.{div-add-mod', zero-mul}
use native.Mathlib.Omega.{arith}
use mathlib.Core.Path.{◌≡◌, refl}
use mathlib.Core.Bool.{Bool, true, false}
use mathlib.Core.List.{List, [], ◌∷◌, ◌++◌}
use lib.Dec.{eqb}
use lib.ListN.{length}
use borrow.Author.Tests.{eqb-true, eqb-false, ne_eqb}
use Rattle.text.specs.Bytes.{bytes}
use Rattle.text.specs.Pick.{pick, opt}
use Rattle.text.specs.Decimal.{places}
use Rattle.text.proofs.Decimal.{some_digits}
use Rattle.rules.specs.Volume.{volume_text, full_volume}
use Rattle.rules.specs.Price.{whole_part, fraction, whole_text, fraction_text, short_whole, dollars_text, price_text}
use Rattle.rules.specs.Conditions.{after_name}
use Rattle.rules.specs.Side.{head_text, tail_text, side_text}
use Rattle.rules.specs.Correction.{repeats_name, end_pair, cancel_text, correction_text}
use Rattle.rules.specs.Announcement.{minimum_dollars, minimum_text, mode_text, level_text}
use Rattle.rules.specs.declared.Mode.{Mode}
use Rattle.rules.specs.declared.Mode.TheVariants.{Normal, Dvd, Rpo, Mpv}
use Rattle.rules.specs.declared.Price.{Price}
use Rattle.rules.specs.declared.Side.{Side}
use Rattle.rules.specs.declared.PriceForm.{PriceForm}
use Rattle.rules.specs.declared.PriceForm.TheVariants.{Full, Short}

pub some_first : (s t : List ℕ) → 1 ≤ length s → 1 ≤ length (s ++ t)
some_first [] t h = absurd (omega (h, arith))
some_first (c ∷ s) t h = omega arith

pub some_then : (s t : List ℕ) → 1 ≤ length t → 1 ≤ length (s ++ t)
some_then [] t h = h
some_then (c ∷ s) t h = omega arith

-- ---- announcements

pub some_minimum : (n : ℕ) → 1 ≤ length (minimum_text n)
unfolding minimum_text
some_minimum n = some_first (bytes "<<<MIN.PRICE.CHGS.OMITTED.NOW" ++ minimum_dollars n) (bytes ">>") (some_first (bytes "<<<MIN.PRICE.CHGS.OMITTED.NOW") (minimum_dollars n) (omega arith))

pub some_mode : (m : Mode) (n : ℕ) → 1 ≤ length (mode_text m n)
unfolding mode_text
some_mode Normal n = omega arith
some_mode Dvd n = omega arith
some_mode Rpo n = omega arith
some_mode Mpv n = some_minimum n

pub some_level : (n : ℕ) → 1 ≤ length (level_text n)
unfolding level_text
some_level n = some_first (bytes "<<<VOLUME.DELETE.LEVEL.IS.NOW" ++ full_volume n) (bytes "SHRS>>") (some_first (bytes "<<<VOLUME.DELETE.LEVEL.IS.NOW") (full_volume n) (omega arith))

-- ---- a price of at least 1: its whole part or its fraction is not 0

some_part : (p : Price) → 1 ≤ p.n → whole_part p ≡ 0 → fraction p ≡ 0 → ⊥
unfolding whole_part fraction
some_part p h w f =
    let e : p.n / 10 ^ p.d * 10 ^ p.d + p.n % 10 ^ p.d ≡ p.n = div-add-mod' p.n (10 ^ p.d) in
    let z : 0 + 0 ≡ p.n = rw (w, f, zero-mul) at e in
    omega (arith, z, h)

some_whole : (w : ℕ) → (w ≡ 0 → ⊥) → 1 ≤ length (whole_text w)
unfolding whole_text pick
some_whole w h = rw (ne_eqb w 0 h) (some_digits w)

some_fraction : (d f : ℕ) → (f ≡ 0 → ⊥) → 1 ≤ length (fraction_text d f)
unfolding fraction_text pick
some_fraction d f h = rw (ne_eqb f 0 h) (some_first (bytes ",") (places d f) (omega arith))

pub some_price : (form : PriceForm) (p : Price) → 1 ≤ p.n → 1 ≤ length (price_text form p)
unfolding dollars_text price_text short_whole pick
some_price Short p h = some_first ((48 + whole_part p % 10) ∷ []) (fraction_text p.d (fraction p)) (omega arith)
some_price Full p h = go (eqb (whole_part p) 0) refl
  where
    go : (b : Bool) → eqb (whole_part p) 0 ≡ b → 1 ≤ length (whole_text (whole_part p) ++ fraction_text p.d (fraction p))
    go true e = some_then (whole_text (whole_part p)) _ (some_fraction p.d (fraction p) (some_part p h (eqb-true (whole_part p) 0 e)))
    go false e = some_first (whole_text (whole_part p)) _ (some_whole (whole_part p) (eqb-false (whole_part p) 0 e))

-- ---- trades, cancels, corrections

pub some_side : (name : List ℕ) (network unit : ℕ) (form : PriceForm) (shows : Bool) (x : Side) → 1 ≤ x.price.n → 1 ≤ length (side_text name network unit form shows x)
unfolding side_text
some_side name network unit form shows x h =
    let front = head_text name x.letters ++ opt shows (volume_text network unit x.volume) in
    let p = price_text form x.price in
    some_first (front ++ p) (tail_text x) (some_then front p (some_price form x.price h))

-- a side of any price, by its name
pub some_named : (name : List ℕ) → 1 ≤ length name → (network unit : ℕ) (form : PriceForm) (shows : Bool) (x : Side) → 1 ≤ length (side_text name network unit form shows x)
unfolding side_text head_text
some_named name h network unit form shows x =
    let v = opt shows (volume_text network unit x.volume) in
    let p = price_text form x.price in
    some_first (((name ++ after_name x.letters) ++ v) ++ p) (tail_text x)
    (some_first ((name ++ after_name x.letters) ++ v) p
    (some_first (name ++ after_name x.letters) v
    (some_first name (after_name x.letters) h)))

pub some_cancel : (opening name : List ℕ) (network unit : ℕ) (form : PriceForm) (shows : Bool) (x : Side) → 1 ≤ length opening → 1 ≤ length (cancel_text opening name network unit form shows x)
unfolding cancel_text
some_cancel opening name network unit form shows x h =
    let s = side_text name network unit form shows x in
    some_first (opening ++ s) (end_pair x) (some_first opening s h)

pub some_correction : (name : List ℕ) (network unit : ℕ) (form : PriceForm) (shows : Bool) (x y : Side) → 1 ≤ length (correction_text name network unit form shows x y)
unfolding correction_text
some_correction name network unit form shows x y =
    let a = side_text name network unit form shows x in
    let b = side_text (opt (repeats_name y.letters) name) network unit form shows y in
    some_first (((bytes "<<CORR." ++ a) ++ bytes "WAS.") ++ b) (end_pair y)
    (some_first ((bytes "<<CORR." ++ a) ++ bytes "WAS.") b
    (some_first (bytes "<<CORR." ++ a) (bytes "WAS.")
    (some_first (bytes "<<CORR.") a (omega arith))))
