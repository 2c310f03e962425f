-- Laws of the steps of a tail, in the form of the code's needs. Assumes nothing.
use Prim.Native.Nat.{ℕ, ◌+◌, ◌-◌, ◌^◌, ◌≤◌, ◌<◌}
use native.Mathlib.Omega.{arith}
use mathlib.Core.Path.{◌≡◌, refl, sym, ap, ◌∙◌}
use mathlib.Core.Bool.{Bool, true, false, not}
use mathlib.Core.List.{List}
use lib.ListN.{length, take, drop, length-drop}
use lib.Seq.{drop-drop}
use borrow.Author.Tests.{not-true, not-false}
use Rattle.std.specs.Prelude.{Option, Some, None}
use Rattle.std.specs.Bool.{OnTrue}
use Rattle.text.specs.Bytes.{bytes}
use Rattle.text.specs.Pick.{pick}
use Rattle.text.specs.Reading.{starts}
use Rattle.text.proofs.Parts.{rest_is, starts_within}
use Rattle.read_price.specs.declared.Digits.{Digits}
use Rattle.read_price.specs.declared.PriceRead.{PriceRead}
use Rattle.read_price.specs.Digits.{digits_onto, digits_at}
use Rattle.read_price.specs.Price.{price_at}
use Rattle.read_price.proofs.Bounds.{digits_count, digits_within}
use Rattle.read_price.proofs.Text.{price_within}
use Rattle.read_conditions.specs.Tail.{seller_days, closed_by, previous_in}

-- ---- a text that stands at u

pub stood : (p s : List ℕ) (u : ℕ) (r : Bool) → r ≡ starts p (take (length s - u) (drop u s)) → r ≡ starts p (drop u s)
stood p s u r e = e ∙ ap (starts p) (rest_is s u)

pub room : (p s : List ℕ) (u : ℕ) → starts p (drop u s) ≡ true → 1 ≤ length p → u + length p ≤ length s
room p s u h n = omega (arith, starts_within p (drop u s) h, length-drop u s)

pub stands_within : (p s : List ℕ) (u : ℕ) (r : Bool) → r ≡ starts p (take (length s - u) (drop u s)) → u ≤ length s → OnTrue r (u + length p ≤ length s)
stands_within p s u true e h = omega (arith, starts_within p (drop u s) (sym (stood p s u true e)), length-drop u s)
stands_within p s u false e h = tt

-- ---- seller

abbrev pub none : Digits
none = record { count = 0; value = 0 }

module _ (s : List ℕ) (u : ℕ) (r : Bool) (e : r ≡ starts (bytes "SELLER") (drop u s)) where
  pub days_none : not r ≡ true → (record { count = 0; value = 0 }) ≡ seller_days (drop u s)
  unfolding seller_days pick
  days_none h = rw (← e, not-true r h)

  module _ (h : not r ≡ false) (q : Bool) (f : q ≡ starts (bytes "0") (drop (u + 6) s)) where
    pub days_zero : q ≡ true → (record { count = 0; value = 0 }) ≡ seller_days (drop u s)
    unfolding seller_days pick
    days_zero k = rw (← e, not-false r h, drop-drop 6 u s, ← f, k)

    pub days_are : (d : Digits) → q ≡ false → d ≡ digits_onto 3 0 0 (take (length s - (u + 6)) (drop (u + 6) s)) → d ≡ seller_days (drop u s)
    unfolding seller_days pick
    days_are d k g = rw (← e, not-false r h, drop-drop 6 u s, ← f, k) (g ∙ ap (digits_onto 3 0 0) (rest_is s (u + 6)))

-- the days found are three digits at most, behind SELLER
pub record SellerFound (s : List ℕ) (d : Digits) : Type 0 where
  pub few : d.count ≤ 3
  pub stands : 1 ≤ d.count → 6 + d.count ≤ length s

no_seller : (s : List ℕ) → SellerFound s (record { count = 0; value = 0 })
no_seller s = record { few = omega arith; stands = λ h. absurd (omega arith) }

pub seller_found : (s : List ℕ) → SellerFound s (seller_days s)
unfolding seller_days pick
seller_found s = go (starts (bytes "SELLER") s) (starts (bytes "0") (drop 6 s)) refl
  where
    go : (a b : Bool) → starts (bytes "SELLER") s ≡ a → SellerFound s (pick a (pick b (record { count = 0; value = 0 }) (digits_at 3 (drop 6 s))) (record { count = 0; value = 0 }))
    go true true e = no_seller s
    go true false e = record {
      few = digits_count 3 (drop 6 s) (digits_at 3 (drop 6 s)) refl;
      stands = λ h. omega (arith, digits_within 3 (drop 6 s) (digits_at 3 (drop 6 s)) refl, length-drop 6 s);
    }
    go false b e = no_seller s

module _ (s : List ℕ) (u : ℕ) (d : Digits) (e : d ≡ seller_days (drop u s)) where
  seller_is : SellerFound (drop u s) d
  seller_is = rw e (seller_found (drop u s))

  pub days_fit : 6 + d.count < 2 ^ 64
  days_fit = omega (arith, seller_is.few)

  pub days_room : (d.count ≡ 0 → ⊥) → u + (6 + d.count) ≤ length s
  days_room h = omega (arith, seller_is.stands (omega (arith, h)), length-drop u s)

-- ---- previous last

module _ (s : List ℕ) (i : ℕ) (x : Option PriceRead) where
  pub closed_room : (p : PriceRead) → x ≡ price_at (drop i s) → x ≡ Some p → i ≤ length s → i + p.used ≤ length s
  closed_room p e f h = omega (arith, price_within (drop i s) p (sym e ∙ f), length-drop i s)

  pub closed_fits : (p : PriceRead) → x ≡ price_at (drop i s) → x ≡ Some p → i ≤ length s → length s < 2 ^ 64 → i + p.used < 2 ^ 64
  closed_fits p e f h l = omega (arith, closed_room p e f h)

  pub closed_yes : (p : PriceRead) (r : Bool) → x ≡ Some p → r ≡ starts (bytes ">>") (drop (i + p.used) s) → r ≡ true → Some p ≡ closed_by (drop i s) x
  unfolding closed_by pick
  closed_yes p r f e h = rw (f, drop-drop p.used i s, ← e, h)

  pub closed_no : (p : PriceRead) (r : Bool) → x ≡ Some p → r ≡ starts (bytes ">>") (drop (i + p.used) s) → r ≡ false → None ≡ closed_by (drop i s) x
  unfolding closed_by pick
  closed_no p r f e h = rw (f, drop-drop p.used i s, ← e, h)

pub closed_none : (t : List ℕ) (x : Option PriceRead) → x ≡ None → None ≡ closed_by t x
unfolding closed_by
closed_none t x f = rw f

pub price_part : (s : List ℕ) (u : ℕ) (x : Option PriceRead) → x ≡ price_at (take (length s - u) (drop u s)) → x ≡ price_at (drop u s)
price_part s u x e = e ∙ ap price_at (rest_is s u)

module _ (s : List ℕ) (u : ℕ) (r : Bool) (e : r ≡ starts (bytes ">>PREV.LAST") (drop u s)) where
  pub previous_none : not r ≡ true → None ≡ previous_in (drop u s)
  unfolding previous_in pick
  previous_none h = rw (← e, not-true r h)

  pub previous_is : (x y : Option PriceRead) → not r ≡ false → x ≡ price_at (take (length s - (u + 11)) (drop (u + 11) s)) → y ≡ closed_by (drop (u + 11) s) x → y ≡ previous_in (drop u s)
  unfolding previous_in pick
  previous_is x y h f g = rw (← e, not-false r h, drop-drop 11 u s) (g ∙ ap (closed_by (drop (u + 11) s)) (price_part s (u + 11) x f))

-- the price found stands between its texts
closed_found : (s : List ℕ) (x : Option PriceRead) (p : PriceRead) → closed_by s x ≡ Some p → (x ≡ Some p) × (starts (bytes ">>") (drop p.used s) ≡ true)
unfolding closed_by pick
closed_found s None p h = absurd (let z : ◌≡◌ {A = ℕ} 0 1 = cc in omega arith)
closed_found s (Some q) p h = go (starts (bytes ">>") (drop q.used s)) refl h
  where
    go : (b : Bool) → starts (bytes ">>") (drop q.used s) ≡ b → pick b (Some q) None ≡ Some p → (Some q ≡ Some p) × (starts (bytes ">>") (drop p.used s) ≡ true)
    go true e g = let y : q ≡ p = cc in (g, rw (← y) e)
    go false e g = absurd (let z : ◌≡◌ {A = ℕ} 0 1 = cc in omega arith)

pub record PreviousFound (s : List ℕ) (p : PriceRead) : Type 0 where
  pub opens : starts (bytes ">>PREV.LAST") s ≡ true
  pub price : price_at (drop 11 s) ≡ Some p
  pub closes : starts (bytes ">>") (drop p.used (drop 11 s)) ≡ true

pub previous_found : (s : List ℕ) (p : PriceRead) → previous_in s ≡ Some p → PreviousFound s p
unfolding previous_in pick
previous_found s p h = go (starts (bytes ">>PREV.LAST") s) refl h
  where
    go : (b : Bool) → starts (bytes ">>PREV.LAST") s ≡ b → pick b (closed_by (drop 11 s) (price_at (drop 11 s))) None ≡ Some p → PreviousFound s p
    go true e g = let c = closed_found (drop 11 s) (price_at (drop 11 s)) p g in record { opens = e; price = c.0; closes = c.1 }
    go false e g = absurd (let z : ◌≡◌ {A = ℕ} 0 1 = cc in omega arith)

pub previous_length : (s : List ℕ) (p : PriceRead) → previous_in s ≡ Some p → 13 + p.used ≤ length s
previous_length s p h =
    let f = previous_found s p h in
    omega (arith, starts_within (bytes ">>") (drop p.used (drop 11 s)) f.closes, length-drop p.used (drop 11 s), length-drop 11 s)

pub last_fits : (s : List ℕ) (u : ℕ) (x : Option PriceRead) (p : PriceRead) → x ≡ previous_in (drop u s) → x ≡ Some p → length s < 2 ^ 64 → 13 + p.used < 2 ^ 64
last_fits s u x p e f l = omega (arith, previous_length (drop u s) p (sym e ∙ f), length-drop u s)

pub last_room : (s : List ℕ) (u : ℕ) (x : Option PriceRead) (p : PriceRead) → x ≡ previous_in (drop u s) → x ≡ Some p → u + (13 + p.used) ≤ length s
last_room s u x p e f = omega (arith, previous_length (drop u s) p (sym e ∙ f), length-drop u s)
