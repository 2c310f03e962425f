-- What stands behind n bytes, as the code cuts it out, and that it is within the text. Assumes nothing.
use Prim.Native.Nat.{ℕ, ◌+◌, ◌-◌, ◌^◌, ◌≤◌, ◌<◌}
use native.Mathlib.Omega.{arith}
use mathlib.Core.Path.{◌≡◌, refl, sym, ◌∙◌}
use mathlib.Core.Bool.{Bool, true, false, not}
use mathlib.Core.List.{List}
use lib.ListN.{length, take, drop, length-drop}
use borrow.Author.Tests.{not-false}
use Rattle.std.specs.Prelude.{Option, Some, None, Result, Ok, Err, IfSome, IfOk}
use Rattle.text.specs.Bytes.{bytes}
use Rattle.text.specs.Reading.{starts}
use Rattle.text.proofs.Parts.{rest_is, starts_within}
use Rattle.rules.specs.declared.Letters.{Letters}
use Rattle.rules.specs.declared.Refusal.{Refusal}
use Rattle.read_name.specs.declared.NameRead.{NameRead}
use Rattle.read_name.specs.declared.AgainRead.{AgainRead}
use Rattle.read_name.specs.Head.{head_at, again_at}
use Rattle.read_name.proofs.Bounds.{head_used, head_length, head_short, again_used}
use Rattle.read_side.specs.declared.SideRead.{SideRead}
use Rattle.read_side.specs.Side.{side_at}
use Rattle.read_side.proofs.Bounds.{side_within}
use Rattle.read_volume.specs.declared.Volume.{Volume}

-- ---- a head behind k bytes, and a side behind it

module _ (s : List ℕ) (k : ℕ) (t : Bool) (head : Option NameRead) (h : NameRead) (room : k ≤ length s) (e : head ≡ head_at t (drop k s)) (n : head ≡ Some h) where
  pub head_room : k + h.used ≤ length s
  head_room = omega (arith, head_used t (drop k s) h head e n, length-drop k s)

  pub head_fits : length s < 2 ^ 64 → k + h.used < 2 ^ 64
  head_fits l = omega (arith, head_room)

  pub name_room : k + h.length ≤ length s
  name_room = omega (arith, head_room, head_length t (drop k s) h head e n)

  pub name_short : h.length ≤ 21
  name_short = head_short t (drop k s) h head e n

module _ (s : List ℕ) (n : ℕ) (first : Option Volume) (letters : Letters) (a b : Bool) (side : Result SideRead Refusal) (x : SideRead) (e : side ≡ side_at first letters a b (drop n s)) (f : side ≡ Ok x) where
  pub side_room : n ≤ length s → n + x.taken.used ≤ length s
  side_room h = omega (arith, side_within (drop n s) letters x first a b side e f, length-drop n s)

  pub side_fits : n ≤ length s → length s < 2 ^ 64 → n + x.taken.used < 2 ^ 64
  side_fits h l = omega (arith, side_room h)

module _ (s : List ℕ) (k : ℕ) (t : Bool) (head : Option NameRead) (h : NameRead) (room : k ≤ length s) (e : head ≡ head_at t (drop k s)) (n : head ≡ Some h) (first : Option Volume) (letters : Letters) (a b : Bool) (side : Result SideRead Refusal) (x : SideRead) (f : side ≡ side_at first letters a b (drop (k + h.used) s)) (g : side ≡ Ok x) where
  pub both_room : k + h.used + x.taken.used ≤ length s
  both_room = side_room s (k + h.used) first letters a b side x f g (head_room s k t head h room e n)

  pub both_fit : length s < 2 ^ 64 → k + h.used + x.taken.used < 2 ^ 64
  both_fit l = omega (arith, both_room)

-- of a trade
module _ (s : List ℕ) (t : Bool) (head : Option NameRead) (h : NameRead) (e : head ≡ head_at t s) (n : head ≡ Some h) (first : Option Volume) (letters : Letters) (a b : Bool) (side : Result SideRead Refusal) (x : SideRead) (f : side ≡ side_at first letters a b (drop h.used s)) (g : side ≡ Ok x) where
  pub trade_room : h.used + x.taken.used ≤ length s
  trade_room = side_room s h.used first letters a b side x f g (head_used t s h head e n)

  pub trade_fits : length s < 2 ^ 64 → h.used + x.taken.used < 2 ^ 64
  trade_fits l = omega (arith, trade_room)

-- ---- the correcting trade

module _ (s name : List ℕ) (n : ℕ) (again : Option AgainRead) (g : AgainRead) (room : n ≤ length s) (e : again ≡ again_at name (drop n s)) (f : again ≡ Some g) where
  pub again_room : n + g.used ≤ length s
  again_room = omega (arith, again_used name (drop n s) g again e f, length-drop n s)

  pub again_fits : length s < 2 ^ 64 → n + g.used < 2 ^ 64
  again_fits l = omega (arith, again_room)

  pub second_room : (first : Option Volume) (letters : Letters) (a b : Bool) (side : Result SideRead Refusal) (y : SideRead) → side ≡ side_at first letters a b (drop (n + g.used) s) → side ≡ Ok y → n + g.used + y.taken.used ≤ length s
  second_room first letters a b side y k l = side_room s (n + g.used) first letters a b side y k l again_room

-- ---- texts that stand

module _ (s : List ℕ) (n : ℕ) (q : Bool) where
  pub end_room : q ≡ starts (bytes ">>") (drop n s) → q ≡ true → n + 2 ≤ length s
  end_room e y = omega (arith, starts_within (bytes ">>") (drop n s) (sym e ∙ y), length-drop n s)

  pub end_fits : q ≡ starts (bytes ">>") (drop n s) → q ≡ true → length s < 2 ^ 64 → n + 2 < 2 ^ 64
  end_fits e y l = omega (arith, end_room e y)

  pub was_room : q ≡ starts (bytes "WAS.") (drop n s) → not q ≡ false → n + 4 ≤ length s
  was_room e y = omega (arith, starts_within (bytes "WAS.") (drop n s) (sym e ∙ not-false q y), length-drop n s)

  pub was_fits : q ≡ starts (bytes "WAS.") (drop n s) → not q ≡ false → length s < 2 ^ 64 → n + 4 < 2 ^ 64
  was_fits e y l = omega (arith, was_room e y)

module _ (s : List ℕ) (q : Bool) where
  pub correction_room : q ≡ starts (bytes "<<CORR.") s → q ≡ true → 7 ≤ length s
  correction_room e y = starts_within (bytes "<<CORR.") s (sym e ∙ y)

  pub cancel_room : q ≡ starts (bytes "<<CXL.") s → q ≡ true → 6 ≤ length s
  cancel_room e y = starts_within (bytes "<<CXL.") s (sym e ∙ y)

  pub error_room : q ≡ starts (bytes "<<ERR.") s → q ≡ true → 6 ≤ length s
  error_room e y = starts_within (bytes "<<ERR.") s (sym e ∙ y)

-- ---- as the code cuts it out

module _ (s : List ℕ) (n : ℕ) (h : n ≤ length s) where
  pub heads_within : (t : Bool) (r : Option NameRead) → r ≡ head_at t (take (length s - n) (drop n s)) → IfSome r (λ x. (n + x.used ≤ length s) × (n + x.length ≤ length s) × (x.length ≤ 21))
  heads_within t None e = tt
  heads_within t (Some x) e = let k : Some x ≡ head_at t (drop n s) = rw (rest_is s n) at e in (head_room s n t (Some x) x h k refl, name_room s n t (Some x) x h k refl, name_short s n t (Some x) x h k refl)

  pub agains_within : (name : List ℕ) (r : Option AgainRead) → r ≡ again_at name (take (length s - n) (drop n s)) → IfSome r (λ g. n + g.used ≤ length s)
  agains_within name None e = tt
  agains_within name (Some g) e = again_room s name n (Some g) g h (rw (rest_is s n) at e) refl

  pub sides_within : (first : Option Volume) (letters : Letters) (a b : Bool) (r : Result SideRead Refusal) → r ≡ side_at first letters a b (take (length s - n) (drop n s)) → IfOk r (λ x. n + x.taken.used ≤ length s)
  sides_within first letters a b (Err q) e = tt
  sides_within first letters a b (Ok x) e = side_room s n first letters a b (Ok x) x (rw (rest_is s n) at e) refl h
