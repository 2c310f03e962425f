-- A block: what holds from turn to turn, and its steps. Assumes nothing.
use Prim.Native.Nat.{ℕ, zero, suc, ◌+◌, ◌-◌, ◌≤◌, ◌<◌}
use native.Mathlib.Omega.{arith}
use mathlib.Core.Path.{◌≡◌, refl, sym, ap, ◌∙◌}
use mathlib.Core.Bool.{Bool, true, false, ◌&&◌}
use mathlib.Core.List.{List}
use lib.Dec.{leb}
use lib.ListN.{length}
use borrow.Author.Tests.{leb-true}
use Rattle.text.specs.Pick.{pick}
use Rattle.text.proofs.Texts.{and_left, and_right}
use Rattle.text.proofs.Writing.{written_nothing, length_put}
use Rattle.reader.specs.Read.{read_at}
use Rattle.reader.specs.Told.{length_of}
use Rattle.reader.proofs.Bounds.{read_length}
use Rattle.read_tape.specs.Tape.{Line}
use Rattle.read_tape.specs.Block.{Progress, started, print_read, may_read, block_from, block_read, Stands, Steps}
use Rattle.read_tape.specs.declared.Reading.{Reading}

-- ---- the equations of `block_from`

module _ (line : Line) (most room : ℕ) (block : List ℕ) (place : ℕ) (ended : Bool) (p : Progress) where
  pub from_zero : block_from line most zero room block place ended p ≡ p
  unfolding block_from
  from_zero = refl

  pub from_on : (k : ℕ) → (p.going && may_read most (length block - p.at) ended (room - length p.text)) ≡ true → block_from line most (suc k) room block place ended p ≡ block_from line most k room block place ended (print_read line block place p)
  unfolding block_from
  from_on k h = rw (h, block_from)

  pub from_off : (k : ℕ) → (p.going && may_read most (length block - p.at) ended (room - length p.text)) ≡ false → block_from line most k room block place ended p ≡ p
  unfolding block_from
  from_off zero h = refl
  from_off (suc k) h = rw (h, block_from)

-- what it takes to read a print
pub may_left : (most left room : ℕ) (ended : Bool) → may_read most left ended room ≡ true → 1 ≤ left
unfolding may_read
may_left most left room ended h = leb-true 1 left (and_left (leb 1 left) _ h)

pub may_room : (most left room : ℕ) (ended : Bool) → may_read most left ended room ≡ true → most ≤ room
unfolding may_read
may_room most left room ended h = leb-true most room (and_left (leb most room) _ (and_right (leb 1 left) _ h))

-- ---- one print more

module _ (line : Line) (block : List ℕ) (place : ℕ) (p : Progress) where
  -- it ends within the block
  pub read_within : p.at ≤ length block → (print_read line block place p).at ≤ length block
  unfolding print_read
  read_within h = read_length block p.at (read_at block p.at) refl (length_of (read_at block p.at)) refl h

  pub at_further : p.at ≤ (print_read line block place p).at
  unfolding print_read
  at_further = omega arith

  pub on_some : (print_read line block place p).going ≡ true → p.at < (print_read line block place p).at
  unfolding print_read
  on_some g = omega (arith, leb-true 1 (length_of (read_at block p.at)) (and_left (leb 1 (length_of (read_at block p.at))) _ g))

  pub on_place : (print_read line block place p).going ≡ true → place + (print_read line block place p).at ≤ 9999999999
  unfolding print_read
  on_place g =
      let n = length_of (read_at block p.at) in
      omega (arith, leb-true (place + p.at + n) 9999999999 (and_right (leb 1 n) _ g))

-- ---- from turn to turn: going on from here leads where the whole block leads

pub record Here (line : Line) (most : ℕ) (block : List ℕ) (place : ℕ) (ended : Bool) (lines₀ lines : List ℕ) (r : Reading) : Type 0 where
  pub p : Progress
  pub k : ℕ
  pub stands : Stands lines₀ p lines r
  pub within : r.at ≤ length block
  pub lines_in : r.written ≤ length lines
  pub lines_same : length lines ≡ length lines₀
  -- while it goes on, the place is one that a line can tell, and there are steps enough
  pub placed : r.going ≡ true → place + r.at ≤ 9999999999
  pub steps : r.going ≡ true → length block ≤ k + r.at
  pub onward : block_from line most k (length lines₀) block place ended p ≡ block_read line most (length lines₀) block place ended

pub lines_length : {lines₀ lines : List ℕ} {p : Progress} {r : Reading} → Stands lines₀ p lines r → length lines ≡ length lines₀
lines_length {lines₀} {lines} {p} {r} h = ap length h.lines_are.tape ∙ length_put p.text lines₀ (omega (arith, h.lines_are.count_is, h.lines_are.within))

pub here_start : (line : Line) (most : ℕ) (block : List ℕ) (place : ℕ) (ended : Bool) (lines : List ℕ) (g : Bool) → g ≡ leb place 9999999999 → Here line most block place ended lines lines (record { at = 0; written = 0; going = g })
unfolding block_read
here_start line most block place ended lines g e =
    record {
      p = started place;
      k = length block;
      stands = record { at_is = refl; going_is = e; lines_are = written_nothing lines };
      within = omega arith;
      lines_in = omega arith;
      lines_same = refl;
      placed = λ h. omega (arith, leb-true place 9999999999 (sym e ∙ h));
      steps = λ h. omega arith;
      onward = refl;
    }

-- what is left to be read: the bytes, and the stop
abbrev pub left : List ℕ → Reading → ℕ
left block r = length block - r.at + pick r.going 1 0

module _ (line : Line) (most : ℕ) (block : List ℕ) (place : ℕ) (ended : Bool) (lines₀ lines : List ℕ) (r : Reading) (h : Here line most block place ended lines₀ lines r) where
  stops : (h.p.going && may_read most (length block - h.p.at) ended (length lines₀ - length h.p.text)) ≡ false → Stands lines₀ (block_read line most (length lines₀) block place ended) lines r
  stops e =
      let is : h.p ≡ block_read line most (length lines₀) block place ended = sym (from_off line most (length lines₀) block place ended h.p h.k e) ∙ h.onward in
      rw (← is) h.stands

  -- it goes on no more
  pub here_end : r.going ≡ false → Stands lines₀ (block_read line most (length lines₀) block place ended) lines r
  here_end e = stops (rw (← h.stands.going_is, e))

  pub here_placed : r.going ≡ true → place + r.at ≤ 9999999999
  here_placed g = h.placed g

  pub here_lines : r.written ≤ length lines
  here_lines = h.lines_in

  -- as the code has it: `t` is the answer of the test, `m` the most bytes
  module _ (t : Bool) (m : ℕ) (n : m ≡ most) (tells : t ≡ may_read m (length block - r.at) ended (length lines - r.written)) where
    asked : may_read most (length block - h.p.at) ended (length lines₀ - length h.p.text) ≡ t
    asked = rw (← h.stands.at_is, ← h.lines_same, ← h.stands.lines_are.count_is, ← n) (sym tells)

    -- too few bytes or no room
    pub here_stop : t ≡ false → r.going ≡ true → Stands lines₀ (block_read line most (length lines₀) block place ended) lines r
    here_stop e g = stops (rw (← h.stands.going_is, g, asked) e)

    module _ (more : t ≡ true) where
      holds : may_read most (length block - r.at) ended (length lines - r.written) ≡ true
      holds = rw (← n) (sym tells ∙ more)

      pub here_room : most ≤ length lines - r.written
      here_room = may_room most (length block - r.at) (length lines - r.written) ended holds

      module _ (going : r.going ≡ true) (lines' : List ℕ) (r' : Reading) (w : Steps line block place lines r lines' r') where
        next : Stands lines₀ (print_read line block place h.p) lines' r'
        next = w lines₀ h.p h.stands

        at_within : r'.at ≤ length block
        at_within = omega (arith, next.at_is, read_within line block place h.p (omega (arith, h.stands.at_is, h.within)))

        at_on : r'.going ≡ true → r.at < r'.at
        at_on g = omega (arith, next.at_is, h.stands.at_is, on_some line block place h.p (sym next.going_is ∙ g))

        -- a print is behind, or the stop
        pub here_less : left block r' < left block r
        unfolding pick
        here_less = go r'.going refl
          where
            go : (b : Bool) → r'.going ≡ b → length block - r'.at + pick b 1 0 < length block - r.at + pick r.going 1 0
            go true e = rw going (omega (arith, at_on e, at_within))
            go false e = rw going (omega (arith, at_further line block place h.p, next.at_is, h.stands.at_is))

        some_step : (k : ℕ) → h.k ≡ k → Here line most block place ended lines₀ lines' r'
        some_step zero e = absurd (omega (arith, e, h.steps going, may_left most (length block - r.at) (length lines - r.written) ended holds))
        some_step (suc k) e =
            record {
              p = print_read line block place h.p;
              k = k;
              stands = next;
              within = at_within;
              lines_in = omega (arith, lines_length next, next.lines_are.within);
              lines_same = lines_length next;
              placed = λ g. omega (arith, next.at_is, on_place line block place h.p (sym next.going_is ∙ g));
              steps = λ g. omega (arith, e, h.steps going, at_on g);
              onward = sym (from_on line most (length lines₀) block place ended h.p k (rw (← h.stands.going_is, going, asked) more)) ∙ (ap (λ j. block_from line most j (length lines₀) block place ended h.p) (sym e) ∙ h.onward);
            }

        -- one print more
        pub here_on : Here line most block place ended lines₀ lines' r'
        here_on = some_step h.k refl
