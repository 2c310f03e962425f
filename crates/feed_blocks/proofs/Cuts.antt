-- The lines of an input, piece by piece. Assumes nothing.
use Prim.Native.Nat.{ℕ, suc, ◌+◌, ◌-◌, ◌≤◌, ◌<◌}
use native.Mathlib.Omega.{arith}
use mathlib.Core.Path.{◌≡◌, refl}
use mathlib.Core.Bool.{Bool, true, false}
use mathlib.Core.List.{List, [], ◌∷◌}
use lib.Dec.{eqb}
use lib.ListN.{length, take, drop, length-drop}
use lib.Seq.{drop-drop}
use borrow.Author.Tests.{eqb-true, eqb-false, eq-eqb, ne_eqb}
use Rattle.text.specs.Pick.{pick}
use Rattle.feed_blocks.specs.Lines.{line_length, line_end, after, led, cut}
use Rattle.feed_blocks.proofs.Scan.{length_feed, length_other}

pub cut_feed : (c : ℕ) (s : List ℕ) → c ≡ 10 → cut (c ∷ s) ≡ after [] (cut s)
unfolding cut pick
cut_feed c s h = rw (eq-eqb c 10 h)

pub cut_other : (c : ℕ) (s : List ℕ) → (c ≡ 10 → ⊥) → cut (c ∷ s) ≡ led c (cut s).ended (cut s).rest
unfolding cut pick
cut_other c s h = rw (ne_eqb c 10 h)

-- bytes with a line feed: the first line, then the lines of what follows it
pub cut_line : (s : List ℕ) → line_length s < length s → cut s ≡ after (take (line_length s) s) (cut (drop (suc (line_length s)) s))
cut_line [] h = absurd (omega arith)
cut_line (c ∷ s) h = go (eqb c 10) refl (cut_line s)
  where
    go : (b : Bool) → eqb c 10 ≡ b → (line_length s < length s → cut s ≡ after (take (line_length s) s) (cut (drop (suc (line_length s)) s))) → cut (c ∷ s) ≡ after (take (line_length (c ∷ s)) (c ∷ s)) (cut (drop (suc (line_length (c ∷ s))) (c ∷ s)))
    go true e on = let k = eqb-true c 10 e in rw (length_feed c s k, cut_feed c s k)
    go false e on =
        let k = eqb-false c 10 e in
        let l = length_other c s k in
        let ih = on (omega (arith, rw l at h)) in
        rw (l, cut_other c s k, ih)

-- without one: no line yet
pub cut_none : (s : List ℕ) → length s ≤ line_length s → cut s ≡ record { ended = []; rest = s }
unfolding cut
cut_none [] h = refl
cut_none (c ∷ s) h = go (eqb c 10) refl (cut_none s)
  where
    go : (b : Bool) → eqb c 10 ≡ b → (length s ≤ line_length s → cut s ≡ record { ended = []; rest = s }) → cut (c ∷ s) ≡ record { ended = []; rest = c ∷ s }
    go true e on = absurd (omega (arith, length_feed c s (eqb-true c 10 e)))
    go false e on =
        let k = eqb-false c 10 e in
        let l = length_other c s k in
        let ih = on (omega (arith, rw l at h)) in
        rw (cut_other c s k, ih)

-- ---- the same from a place of a block, by the place of the line's end

module _ (block : List ℕ) (at end : ℕ) (is : end ≡ line_end block at) (within : at ≤ length block) where
  pub end_after : at ≤ end
  unfolding line_end
  end_after = omega arith

  pub next_line : end < length block → (cut (drop at block)).ended ≡ take (end - at) (drop at block) ∷ (cut (drop (end + 1) block)).ended
  unfolding line_end
  next_line h =
      let n : line_length (drop at block) ≡ end - at = omega arith in
      let l : line_length (drop at block) < length (drop at block) = omega (arith, length-drop at block) in
      let m : at + suc (end - at) ≡ end + 1 = omega arith in
      rw (cut_line (drop at block) l, n, drop-drop, m)

  pub no_line : length block ≤ end → (cut (drop at block)).ended ≡ []
  unfolding line_end
  no_line h = rw (cut_none (drop at block) (omega (arith, length-drop at block)))
