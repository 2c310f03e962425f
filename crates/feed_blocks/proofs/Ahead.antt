-- The first line of an input that is known in part: `u` is held, `f` is yet to come. Assumes nothing.
use Prim.Native.Nat.{ℕ, suc, ◌+◌, ◌≤◌, ◌<◌}
use native.Mathlib.Omega.{arith}
use mathlib.Core.Path.{◌≡◌, refl, ap}
use mathlib.Core.Bool.{Bool, true, false}
use mathlib.Core.List.{List, [], ◌∷◌, ◌++◌}
use lib.Dec.{eqb, ltb}
use lib.ListN.{length, take, length-append}
use lib.Seq.{take-append-le, drop-append-le, take-append-add, drop-append-add}
use borrow.Author.Tests.{eqb-true, eqb-false, ltb-true, ltb-false}
use Rattle.feed_blocks.specs.Lines.{line_length, Cut, cut, last_line, lines_of, lines_by, past_line}
use Rattle.feed_blocks.proofs.Scan.{length_feed, length_other}
use Rattle.feed_blocks.proofs.Cuts.{cut_line, cut_none}

pub by_nothing : (w : Bool) → lines_by w [] ≡ []
unfolding lines_by lines_of cut
by_nothing true = refl
by_nothing false = refl

-- bytes with a line feed: the first line, then those of what follows it
pub by_line : (w : Bool) (s : List ℕ) → line_length s < length s → lines_by w s ≡ take (line_length s) s ∷ lines_by w (past_line s)
unfolding lines_by lines_of past_line
by_line true s h = rw (cut_line s h)
by_line false s h = ap (λ (c : Cut). c.ended) (cut_line s h)

-- without one: a line at the input's end, where there is a byte; none, where it broke off
last_one : (s : List ℕ) → 0 < length s → last_line s ≡ s ∷ []
last_one [] h = absurd (omega arith)
last_one (c ∷ s) h = refl

pub by_last : (s : List ℕ) → length s ≤ line_length s → 0 < length s → lines_by true s ≡ s ∷ []
unfolding lines_by lines_of
by_last s h k = rw (cut_none s h) (last_one s k)

pub by_broken : (s : List ℕ) → length s ≤ line_length s → lines_by false s ≡ []
unfolding lines_by
by_broken s h = ap (λ (c : Cut). c.ended) (cut_none s h)

-- ---- bytes that are held, and those that come

pub held_feed : (u f : List ℕ) → line_length u < length u → line_length (u ++ f) ≡ line_length u
held_feed [] f h = absurd (omega arith)
held_feed (c ∷ u) f h = go (eqb c 10) refl (held_feed u f)
  where
    go : (b : Bool) → eqb c 10 ≡ b → (line_length u < length u → line_length (u ++ f) ≡ line_length u) → line_length (c ∷ (u ++ f)) ≡ line_length (c ∷ u)
    go true e on = let k = eqb-true c 10 e in rw (length_feed c u k, length_feed c (u ++ f) k)
    go false e on =
        let k = eqb-false c 10 e in
        let l = length_other c u k in
        rw (l, length_other c (u ++ f) k, on (omega (arith, rw l at h)))

pub held_none : (u f : List ℕ) → length u ≤ line_length u → line_length (u ++ f) ≡ length u + line_length f
held_none [] f h = omega arith
held_none (c ∷ u) f h = go (eqb c 10) refl (held_none u f)
  where
    go : (b : Bool) → eqb c 10 ≡ b → (length u ≤ line_length u → line_length (u ++ f) ≡ length u + line_length f) → line_length (c ∷ (u ++ f)) ≡ suc (length u) + line_length f
    go true e on = absurd (omega (arith, length_feed c u (eqb-true c 10 e)))
    go false e on =
        let k = eqb-false c 10 e in
        let l = length_other c u k in
        omega (arith, length_other c (u ++ f) k, on (omega (arith, rw l at h)))

-- the held bytes have a line feed
pub by_held : (w : Bool) (u f : List ℕ) → line_length u < length u → lines_by w (u ++ f) ≡ take (line_length u) u ∷ lines_by w (past_line u ++ f)
unfolding past_line
by_held w u f h =
    let e = held_feed u f h in
    let l : line_length (u ++ f) < length (u ++ f) = omega (arith, e, length-append u f) in
    rw (by_line w (u ++ f) l, e, take-append-le (line_length u) u f (omega arith), drop-append-le (suc (line_length u)) u f h)

-- they have none: whatever they are, what comes goes on with the same line, or ends it at once
pub data Ahead (w : Bool) (f : List ℕ) : Type 0 where
  goes : (x : List ℕ) (ls : List (List ℕ)) → ((u : List ℕ) → length u ≤ line_length u → 0 < length u → lines_by w (u ++ f) ≡ (u ++ x) ∷ ls) → Ahead w f
  breaks : ((u : List ℕ) → length u ≤ line_length u → 0 < length u → lines_by w (u ++ f) ≡ []) → Ahead w f

feed_ahead : (w : Bool) (f : List ℕ) → line_length f < length f → Ahead w f
unfolding past_line
feed_ahead w f h =
    goes (take (line_length f) f) (lines_by w (past_line f)) (λ u p k.
    let e = held_none u f p in
    let l : line_length (u ++ f) < length (u ++ f) = omega (arith, e, length-append u f) in
    let n : suc (length u + line_length f) ≡ length u + suc (line_length f) = omega arith in
    rw (by_line w (u ++ f) l, e, take-append-add u f (line_length f), n, drop-append-add u f (suc (line_length f))))

none_ahead : (w : Bool) (f : List ℕ) → length f ≤ line_length f → Ahead w f
none_ahead true f h =
    goes f [] (λ u p k.
    let e = held_none u f p in
    by_last (u ++ f) (omega (arith, e, length-append u f)) (omega (arith, length-append u f)))
none_ahead false f h = breaks (λ u p k. let e = held_none u f p in by_broken (u ++ f) (omega (arith, e, length-append u f)))

pub ahead : (w : Bool) (f : List ℕ) → Ahead w f
ahead w f = go (ltb (line_length f) (length f)) refl
  where
    go : (b : Bool) → ltb (line_length f) (length f) ≡ b → Ahead w f
    go true e = feed_ahead w f (ltb-true (line_length f) (length f) e)
    go false e = none_ahead w f (ltb-false (line_length f) (length f) e)
