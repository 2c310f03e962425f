-- Places in a block. Assumes nothing.
use Prim.Native.Nat.{ℕ, zero, suc, ◌-◌, ◌≤◌}
use native.Mathlib.Omega.{arith}
use mathlib.Core.Path.{◌≡◌, sym, ap, ◌∙◌}
use mathlib.Core.Bool.{true}
use mathlib.Core.List.{List, [], ◌∷◌, ◌++◌, append_assoc}
use lib.ListN.{length, take, drop, length-take, length-drop, take-append-drop}
use lib.Seq.{take-nil, drop-nil, drop-append-le}
use Rattle.std.specs.Prelude.{Result, Ok, Err}
use Rattle.text.specs.Put.{put, Written}
use Rattle.feed_input.specs.Place.{Answer, held_from, came_of, front_from}
use Rattle.feed_input.specs.declared.Place.{Place}
use Rattle.feed_input.specs.declared.ReadFailed.{ReadFailed}

-- ---- a read's answer

pub came_most : (z : Answer) (room : ℕ) → came_of z room ≤ room
unfolding came_of
came_most (Ok n) room = omega arith
came_most (Err f) room = omega arith

-- ---- what is held

pub drop_take : (k n : ℕ) (l : List ℕ) → drop k (take n l) ≡ take (n - k) (drop k l)
drop_take zero n l = ap (λ (m : ℕ). take m l) (let z : n ≡ n - 0 = omega arith in z)
drop_take (suc k) n [] = rw (take-nil n, drop-nil (suc k), take-nil (n - suc k))
drop_take (suc k) zero (x ∷ l) = ap (λ (m : ℕ). take m (drop k l)) (let z : 0 ≡ 0 - suc k = omega arith in z)
drop_take (suc k) (suc n) (x ∷ l) = drop_take k n l ∙ ap (λ (m : ℕ). take m (drop k l)) (let z : n - k ≡ suc n - suc k = omega arith in z)

-- moved to the front of the part that is read
module _ (p : Place) (at : ℕ) (block ys : List ℕ) (n : ℕ) (w : Written (drop at (take p.have block)) (take p.have block) ys n) (r : p.have ≤ length block) where
  text_is : drop at (take p.have block) ≡ held_from p at block
  text_is = drop_take at p.have block

  pub front_count : at ≤ p.have → n ≡ p.have - at
  front_count l = w.count_is ∙ (ap length text_is ∙ simp (length-take, length-drop) (omega arith))

  pub front_place : at ≤ p.have → record { at = 0; have = n; asks = true; ended = p.ended; failed = p.failed } ≡ front_from p at
  front_place l = rw (front_count l)

  pub front_block : ys ++ drop p.have block ≡ put (held_from p at block) block
  unfolding put
  front_block =
      let t : List ℕ = held_from p at block in
      let e : ys ≡ t ++ drop (length t) (take p.have block) = w.tape ∙ rw text_is in
      let l : length t ≤ length (take p.have block) = omega (arith, w.within, w.count_is, ap length text_is) in
      ap (λ (x : List ℕ). x ++ drop p.have block) e
      ∙ (append_assoc t (drop (length t) (take p.have block)) (drop p.have block)
      ∙ ap (λ (x : List ℕ). t ++ x) (sym (drop-append-le (length t) (take p.have block) (drop p.have block) l) ∙ ap (drop (length t)) (take-append-drop p.have block)))
