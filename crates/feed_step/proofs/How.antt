-- The ten ways of a step, each with what holds there. Assumes nothing.
use Prim.Native.Nat.{ℕ, ◌+◌, ◌≤◌, ◌<◌}
use native.Mathlib.Omega.{arith}
use mathlib.Core.Path.{◌≡◌, refl}
use mathlib.Core.Bool.{Bool, true, false}
use mathlib.Core.List.{List}
use lib.Dec.{leb, ltb, eqb}
use lib.ListN.{length}
use borrow.Author.Tests.{leb-true, leb-false, ltb-true, ltb-false, eqb-true, eqb-false}
use Rattle.text.specs.Pick.{pick}
use Rattle.feed_blocks.specs.Lines.{line_length, line_end}
use Rattle.feed_gather.specs.Gather.{last_line}
use Rattle.feed_input.specs.declared.Place.{Place}
use Rattle.feed_step.specs.Step.{long_way, lines_way, way_of}
use Rattle.feed_step.specs.declared.Way.{Way}
use Rattle.feed_step.specs.declared.Way.TheVariants.{Lines, Line, Pass, Stop}

-- `u` is held
module _ (passing : Bool) (p : Place) (number size : ℕ) (u : List ℕ) where
  pub data How : Way → Type 0 where
    -- nothing more is taken: a read failed, the last line is behind, or all is taken
    fails : p.failed ≡ true → How Stop
    past : p.failed ≡ false → last_line < number → How Stop
    done : p.failed ≡ false → number ≤ last_line → passing ≡ false → p.ended ≡ true → length u ≡ 0 → How Stop
    -- a line longer than the block: its end, the input's end, or more of it
    long_ends : p.failed ≡ false → number ≤ last_line → passing ≡ true → line_length u < length u → How (Line (length u) (line_length u + 1))
    long_last : p.failed ≡ false → number ≤ last_line → passing ≡ true → length u ≤ line_length u → p.ended ≡ true → How (Line (length u) (length u))
    long_on : p.failed ≡ false → number ≤ last_line → passing ≡ true → length u ≤ line_length u → p.ended ≡ false → How (Pass (length u))
    -- lines, the last line, the front of a line longer than the block, a line's start
    lines : p.failed ≡ false → number ≤ last_line → passing ≡ false → line_length u < length u → How Lines
    last : p.failed ≡ false → number ≤ last_line → passing ≡ false → length u ≤ line_length u → p.ended ≡ true → 0 < length u → How (Line 0 (length u))
    fills : p.failed ≡ false → number ≤ last_line → passing ≡ false → length u ≤ line_length u → p.ended ≡ false → size ≤ length u → How (Pass (length u))
    waits : p.failed ≡ false → number ≤ last_line → passing ≡ false → length u ≤ line_length u → p.ended ≡ false → length u < size → How (Pass 0)

  abbrev k : ℕ
  k = line_length u

  abbrev n : ℕ
  n = length u

  feed_at : line_end u 0 ≡ line_length u
  unfolding line_end
  feed_at = omega arith

  module _ (came : p.failed ≡ false) (early : number ≤ last_line) where
    long : (b : Bool) → ltb k n ≡ b → (e : Bool) → p.ended ≡ e → passing ≡ true → How (pick b (Line n (k + 1)) (pick e (Line n n) (Pass n)))
    unfolding pick
    long true h e f q = long_ends came early q (ltb-true k n h)
    long false h true f q = long_last came early q (ltb-false k n h) f
    long false h false f q = long_on came early q (ltb-false k n h) f

    short : (b : Bool) → ltb k n ≡ b → (e : Bool) → p.ended ≡ e → (z : Bool) → eqb n 0 ≡ z → (l : Bool) → leb size n ≡ l → passing ≡ false → How (pick b Lines (pick e (pick z Stop (Line 0 n)) (pick l (Pass n) (Pass 0))))
    unfolding pick
    short true h e f z g l i q = lines came early q (ltb-true k n h)
    short false h true f true g l i q = done came early q f (eqb-true n 0 g)
    short false h true f false g l i q = let y = eqb-false n 0 g in last came early q (ltb-false k n h) f (omega (arith, y))
    short false h false f z g true i q = fills came early q (ltb-false k n h) f (leb-true size n i)
    short false h false f z g false i q = waits came early q (ltb-false k n h) f (leb-false size n i)

  pub how : How (way_of passing p number size u)
  unfolding way_of long_way lines_way pick
  how = rw feed_at (go p.failed refl (ltb last_line number) refl passing refl)
    where
      go : (f : Bool) → p.failed ≡ f → (l : Bool) → ltb last_line number ≡ l → (q : Bool) → passing ≡ q
          → How (pick f Stop (pick l Stop (pick q (pick (ltb k n) (Line n (k + 1)) (pick p.ended (Line n n) (Pass n))) (pick (ltb k n) Lines (pick p.ended (pick (eqb n 0) Stop (Line 0 n)) (pick (leb size n) (Pass n) (Pass 0)))))))
      go true f l i q e = fails f
      go false f true i q e = past f (ltb-true last_line number i)
      go false f false i true e = long f (ltb-false last_line number i) (ltb k n) refl p.ended refl e
      go false f false i false e = short f (ltb-false last_line number i) (ltb k n) refl p.ended refl (eqb n 0) refl (leb size n) refl e
