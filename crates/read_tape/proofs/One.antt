-- One print: its line, and where the reading stands behind it. Assumes nothing.
use Prim.Native.Nat.{ℕ, ◌+◌, ◌-◌, ◌≤◌}
use native.Mathlib.Omega.{arith}
use mathlib.Core.Path.{◌≡◌, sym, ap, ◌∙◌}
use mathlib.Core.Bool.{Bool, ◌&&◌}
use mathlib.Core.List.{List, ◌++◌}
use lib.Dec.{leb}
use lib.ListN.{length, take, drop, length-append}
use mir.Val.{Fits}
use mir.Syntax.{w64}
use Rattle.std.specs.Prelude.{Result}
use Rattle.text.specs.Put.{Written}
use Rattle.text.proofs.Writing.{then}
use Rattle.rules.specs.Sizes.{longest_print}
use Rattle.rules.specs.declared.Refusal.{Refusal}
use Rattle.text_right.proofs.Writes.{length_right}
use Rattle.reader.specs.Read.{print_at, read_at}
use Rattle.reader.specs.Told.{length_of}
use Rattle.reader.specs.declared.Print.{Print}
use Rattle.claim_longest.proofs.Ahead.{read_short, ahead}
use Rattle.read_tape.specs.Tape.{Line, Tells, line_of, place_line}
use Rattle.read_tape.specs.Block.{print_read, Steps}
use Rattle.read_tape.specs.declared.Reading.{Reading}

-- 21 bytes
pub length_line : (place n : ℕ) → place ≤ 9999999999 → n ≤ longest_print → length (line_of place n) ≡ 21
unfolding line_of
length_line place n h l = simp length-append (omega (arith, length_right 9 place (omega arith), length_right 9 n (omega arith)))

pub at_most : (block : List ℕ) (at : ℕ) → length_of (read_at block at) ≤ longest_print
unfolding read_at
at_most block at = read_short (drop at block)

-- ---- a print of n bytes

module _ (block : List ℕ) (at n : ℕ) (count : n ≡ length_of (read_at block at)) where
  pub read_most : n ≤ longest_print
  read_most = omega (arith, count, at_most block at)

  -- its place and length

  pub line_room : (place room : ℕ) → place ≤ 9999999999 → 21 ≤ room → length (line_of place n) ≤ room
  line_room place room h l = omega (arith, length_line place n h read_most)

  pub line_is : (place : ℕ) → line_of place n ≡ place_line place (drop at block)
  unfolding place_line read_at
  line_is place = ap (line_of place) count

-- where the reading stands, its line is written: one print more is read
module _ (block : List ℕ) (place : ℕ) (r : Reading) (n : ℕ) (count : n ≡ length_of (read_at block r.at)) where
  pub read_adds : place + r.at ≤ 9999999999 → Fits w64 (r.at + n)
  read_adds h = record { fits = omega (arith, read_most block r.at n count) }

  pub print_told : (line : Line) (lines ys : List ℕ) (k : ℕ) (g : Bool) → Written (line (place + r.at) (drop r.at block)) (take (length lines - r.written) (drop r.written lines)) ys k
      → g ≡ (leb 1 n && leb (place + r.at + n) 9999999999)
      → Steps line block place lines r (take r.written lines ++ (ys ++ drop (length lines - r.written) (drop r.written lines))) (record { at = r.at + n; written = r.written + k; going = g })
  unfolding print_read
  print_told line lines ys k g w on lines₀ p h =
      let m : n ≡ length_of (read_at block p.at) = count ∙ ap (λ i. length_of (read_at block i)) h.at_is in
      let l : line (place + p.at) (drop p.at block) ≡ line (place + r.at) (drop r.at block) = ap (λ i. line (place + i) (drop i block)) (sym h.at_is) in
      record {
        at_is = rw (← m, h.at_is);
        going_is = rw (← m, ← h.at_is) on;
        lines_are = rw l (then h.lines_are w);
      }

-- what the reader's line owes
pub places_told : Tells place_line 21
unfolding place_line
places_told =
    record {
      short = λ place s h. omega (arith, length_line place (length_of (print_at s)) h (read_short s));
      same = λ place s t h. ap (line_of place) (ahead s t h);
    }
