-- Laws of a volume in its side's columns, and of its mark. Assumes nothing.
use Prim.Native.Nat.{ℕ, ◌+◌, ◌-◌, ◌/◌, ◌^◌, ◌≤◌, ◌<◌}
use native.Mathlib.Nat.{div-le_self}
use native.Mathlib.Omega.{arith}
use mathlib.Core.Path.{◌≡◌, ◌∙◌}
use mathlib.Core.Bool.{Bool, false, ◌&&◌}
use mathlib.Core.List.{List, ◌++◌}
use lib.ListN.{length, take, drop}
use lib.Dec.{eqb}
use Rattle.text.specs.Put.{Written}
use Rattle.text.specs.Decimal.{decimal}
use Rattle.text.proofs.Decimal.{length_decimal}
use Rattle.text.proofs.Writing.{named}
use Rattle.rules.specs.Volume.{volume_text}
use Rattle.print_volume.specs.declared.Form.{Form}
use Rattle.print_volume.specs.Form.{marks, marked_text, Formed}
use Rattle.print_volume.proofs.VolumeBack.{small}
use Rattle.print_volume.proofs.Forms.{said_is}
use Rattle.print_amounts.specs.Columns.{VolumeColumns}
use Rattle.print_amounts.proofs.Laying.{back, over_first, over_part, put_back}
use Rattle.print_amounts.proofs.Digits.{parts_length, digits_in_lem, itself}

-- ---- k columns, then a mark

module _ (s t b xs ys zs digits last kept : List ℕ) (k from mark size i j n : ℕ) (d : digits ≡ take 4 (drop from s)) (q : last ≡ take 4 (drop mark t)) (p : kept ≡ take 8 (drop (k + size) b)) (f : from ≤ 9) (l : length s ≡ 46) (g : mark ≤ 8) (u : length t ≡ 12) (h : k ≤ 4) (e : size ≤ 4) (r : 24 ≤ length b) where
  pub marked_written : Written digits b xs i → Written last (take (length xs - k) (drop k xs)) ys j → Written kept (take (length (back xs ys k) - (k + size)) (drop (k + size) (back xs ys k))) zs n → Written (take k (drop from s) ++ take size (drop mark t)) b (back (back xs ys k) zs (k + size)) (k + size)
  marked_written v w x =
      let a = over_first digits b xs i v s from k 4 4 d (omega arith) h (omega arith) in
      let o = over_part last xs ys k j w _ b 4 a t mark size 4 8 q (omega arith) e (omega arith) (omega arith) in
      put_back kept (back xs ys k) zs (k + size) n x _ b 8 o 8 p (omega arith) (omega arith)

-- ---- a volume from 1 to 9,999

module _ (part : List ℕ) (network unit v : ℕ) (f : Form) (h : VolumeColumns part v) (g : Formed network unit v f) (n : ℕ) (e : n ≡ length (decimal v)) where
  cut_most : 10 ^ f.cut ≤ v
  cut_most = g.cut_most h.some

  pub cut_digits : f.cut ≤ n
  cut_digits = omega (arith, parts_length f.cut v cut_most)

  module _ (l : v < 10000) where
    marked_is : marked_text f v ≡ take (n - f.cut) (drop (9 - f.cut - (n - f.cut)) part) ++ take f.size (drop f.mark marks)
    unfolding marked_text
    marked_is =
        let k : n - f.cut ≡ length (decimal (v / 10 ^ f.cut)) = omega (arith, parts_length f.cut v cut_most) in
        let s : v / 10 ^ f.cut < 10000 = omega (arith, div-le_self v (10 ^ f.cut)) in
        rw (small (v / 10 ^ f.cut) s, (digits_in_lem part 9 f.cut v _ (n - f.cut) (omega (arith, h.size)) h.volume_is cut_most (itself _) k).0)

    pub short_written : (t : Bool) → t ≡ (eqb f.mark 0 && eqb v 100) → t ≡ false → (b a : List ℕ) (r : ℕ) → Written (take (n - f.cut) (drop (9 - f.cut - (n - f.cut)) part) ++ take f.size (drop f.mark marks)) b a r → Written (volume_text network unit v) b a r
    short_written t p q b a r w = named (said_is network unit v f t g p q ∙ marked_is) w

pub few_digits : (v n cut : ℕ) → v < 10000 → n ≡ length (decimal v) → n - cut ≤ 4
few_digits v n cut l e = omega (arith, length_decimal 3 v l)
