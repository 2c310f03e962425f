-- A program's step, put together. Assumes nothing.
use Prim.Native.Nat.{ℕ, ◌+◌, ◌-◌, ◌≤◌}
use native.Mathlib.Omega.{arith}
use mathlib.Core.Logic.{◌⊎◌, inl, inr}
use mathlib.Core.Path.{◌≡◌, refl, ap, ◌∙◌}
use mathlib.Core.Bool.{Bool}
use mathlib.Core.List.{List, [], ◌∷◌}
use lib.ListN.{length, take, drop, length-drop}
use lib.Seq.{take_all}
use Rattle.rules.specs.declared.Settings.{Settings}
use Rattle.feed_gather.specs.Gather.{Program, Progress, started, nothing_read, lines_taken, block_taken, Stands}
use Rattle.feed_gather.specs.declared.Fed.{Fed}
use Rattle.feed_gather.proofs.Within.{block_within}
use Rattle.text.specs.Put.{Written}
use Rattle.text.proofs.Writing.{written_nothing, length_put}
use Rattle.feed_input.specs.Place.{Answer, Within, held, taken_in}
use Rattle.feed_input.specs.declared.Place.{Place}
use Rattle.feed_input.proofs.Held.{length_held, in_within, size_on, within_on}
use Rattle.feed_step.specs.Step.{opening, way_of, from_by, taken_by, used_by, reads_by, is_over, Settles, place_in, way_in, progress_in, Steps}
use Rattle.feed_step.specs.declared.Standing.{Standing}
use Rattle.feed_step.specs.declared.Stepped.{Stepped}
use Rattle.feed_step.specs.declared.Way.{Way}
use Rattle.feed_step.specs.declared.Way.TheVariants.{Lines, Line, Pass, Stop}
use Rattle.feed_step.proofs.How.{How, fails, past, done, long_ends, long_last, long_on, lines, last, fills, waits, how}

-- ---- what a way uses lies in what is held

module _ (passing : Bool) (p : Place) (number size : ℕ) (u : List ℕ) where
  from_held : {w : Way} → How passing p number size u w → from_by w ≤ length u
  unfolding from_by
  from_held (fails a) = omega arith
  from_held (past a b) = omega arith
  from_held (done a b c d e) = omega arith
  from_held (long_ends a b c d) = omega arith
  from_held (long_last a b c d e) = omega arith
  from_held (long_on a b c d e) = omega arith
  from_held (lines a b c d) = omega arith
  from_held (last a b c d e f) = omega arith
  from_held (fills a b c d e f) = omega arith
  from_held (waits a b c d e f) = omega arith

  used_held : {w : Way} (n : ℕ) → How passing p number size u w → n ≤ length u → used_by w n ≤ length u
  unfolding used_by
  used_held n (fails a) l = omega arith
  used_held n (past a b) l = omega arith
  used_held n (done a b c d e) l = omega arith
  used_held n (long_ends a b c d) l = omega arith
  used_held n (long_last a b c d e) l = omega arith
  used_held n (long_on a b c d e) l = omega arith
  used_held n (lines a b c d) l = l
  used_held n (last a b c d e f) l = omega arith
  used_held n (fills a b c d e f) l = omega arith
  used_held n (waits a b c d e f) l = omega arith

-- of the lines that a way takes, only those of a block count
pub used_taken : (g : Program) (out err : ℕ) (w : Way) (u : List ℕ) (st : Settings) (table names : List ℕ) (number : ℕ) {passing : Bool} {p : Place} {size : ℕ} → How passing p number size u w
    → used_by w (taken_by g out err w u (started st table names number)).at ≤ length u
unfolding taken_by used_by
used_taken g out err Lines u st table names number h = block_within g out err u st table names number
used_taken g out err (Line from used) u st table names number {passing} {p} {size} h = used_held passing p number size u 0 h (omega arith)
used_taken g out err (Pass used) u st table names number {passing} {p} {size} h = used_held passing p number size u 0 h (omega arith)
used_taken g out err Stop u st table names number h = omega arith

-- ---- as the code has it: `p` is the place with the answer, `w` the way, `f` what was taken

module _ (s : Standing) (z : Answer) (block : List ℕ) (p : Place) (place : p ≡ taken_in s.place z (length block)) where
  within : Within p (length block)
  within = rw place (in_within s.place z (length block))

  pub held_from : p.at ≤ p.have
  held_from = within.from_to

  pub held_to : p.have ≤ length block
  held_to = within.to_end

  module _ (w : Way) (way : w ≡ way_of s.passing p s.number (length block) (held p block)) where
    ways : How s.passing p s.number (length block) (held p block) w
    ways = rw way (how s.passing p s.number (length block) (held p block))

    pub line_from : from_by w ≤ length (held p block)
    line_from = from_held s.passing p s.number (length block) (held p block) ways

    module _ (g : Program) (table names out err table' names' out' err' : List ℕ) (f : Fed) (stands : Stands out err (taken_by g (length out) (length err) w (held p block) (started s.settings table names s.number)) table' names' out' err' f) where
      pub used_fits : (p.at + used_by w f.at ≤ p.have) × (p.have ≤ length block)
      used_fits = (
        omega (arith, ap (used_by w) stands.at_is, used_taken g (length out) (length err) w (held p block) s.settings table names s.number ways, length_held p block within, held_from),
        held_to,
      )

      pub stepped : (block' : List ℕ) (r : Stepped) → Settles s.passing p w f block block' r → Steps g s z table names block out err table' names' block' out' err' r
      stepped block' r e =
          let ew : w ≡ way_in s z block = rw place at way in
          let eq : taken_by g (length out) (length err) w (held p block) (started s.settings table names s.number) ≡ progress_in g s z table names block (length out) (length err) = rw (← ew, ← place) in
          record {
            standing_is = e.standing_is ∙ rw (stands.at_is, stands.settings_is, stands.number_is, eq, ew, place);
            table_is = stands.table_is ∙ ap (λ (q : Progress). q.table) eq;
            names_is = stands.names_is ∙ ap (λ (q : Progress). q.names) eq;
            block_is = e.block_is ∙ rw (stands.at_is, eq, ew, place);
            out_is = rw (e.out_is, ← eq) stands.out_is;
            err_is = rw (e.err_is, ← eq) stands.err_is;
            over_is = e.over_is ∙ ap is_over ew;
          }

-- ---- what is taken by a way, case by case

module _ (g : Program) (st : Settings) (table names u out err : List ℕ) (number : ℕ) (w : Way) where
  abbrev goal : Progress
  goal = taken_by g (length out) (length err) w u (started st table names number)

  pub by_lines : w ≡ Lines → (table' names' out' err' : List ℕ) (f : Fed) → Stands out err (block_taken g (length out) (length err) u (started st table names number)) table' names' out' err' f → Stands out err goal table' names' out' err' f
  unfolding taken_by
  by_lines e table' names' out' err' f s = rw e s

  pub by_line : (from used : ℕ) → w ≡ Line from used → (table' names' out' err' : List ℕ) (f : Fed)
      → Stands out err (lines_taken g (length out) (length err) (take (length u - from) (drop from u) ∷ []) (started st table names number)) table' names' out' err' f → Stands out err goal table' names' out' err' f
  unfolding taken_by
  by_line from used e table' names' out' err' f s = rw (e, ← take_all (length u - from) (drop from u) (omega (arith, length-drop from u))) s

  nothing : Stands out err (started st table names number) table names out err (nothing_read st number)
  nothing = record { settings_is = refl; number_is = refl; at_is = refl; table_is = refl; names_is = refl; out_is = written_nothing out; err_is = written_nothing err }

  -- a way that takes none
  pub by_none : (((used : ℕ) × (w ≡ Pass used)) ⊎ (w ≡ Stop)) → (f : Fed) → f ≡ nothing_read st number → Stands out err goal table names out err f
  unfolding taken_by
  by_none (inl (used, e)) f is = rw (is, e) nothing
  by_none (inr e) f is = rw (is, e) nothing

-- the line's place is in what is held
pub line_in : (w : Way) (from used n : ℕ) → w ≡ Line from used → from_by w ≤ n → from ≤ n
unfolding from_by
line_in w from used n e l = rw e at l

-- ---- for a program

written_size : {t b a : List ℕ} {n : ℕ} → Written t b a n → length a ≡ length b
written_size {t} {b} w = ap length w.tape ∙ length_put t b (omega (arith, w.count_is, w.within))

-- where it then stands is in the block, which keeps its size
module _ {g : Program} {s : Standing} {z : Answer} {table names block out err table' names' block' out' err' : List ℕ} {r : Stepped} (st : Steps g s z table names block out err table' names' block' out' err' r) where
  abbrev p : Place
  p = place_in s z block

  abbrev w : Way
  w = way_in s z block

  abbrev q : Progress
  q = progress_in g s z table names block (length out) (length err)

  pub in_place : Within p (length block)
  in_place = in_within s.place z (length block)

  pub way_is : How s.passing p s.number (length block) (held p block) w
  way_is = how s.passing p s.number (length block) (held p block)

  pub uses : used_by w q.at ≤ length (held p block)
  uses = used_taken g (length out) (length err) w (held p block) s.settings table names s.number way_is

  pub uses_held : p.at + used_by w q.at ≤ p.have
  uses_held = omega (arith, uses, length_held p block in_place, in_place.from_to)

  pub same_size : length block' ≡ length block
  same_size = ap length st.block_is ∙ size_on p (used_by w q.at) block in_place uses_held (reads_by w)

  pub stands_within : Within r.standing.place (length block')
  stands_within = rw (same_size, st.standing_is) (within_on p (used_by w q.at) block in_place uses_held (reads_by w))

  pub out_fits : r.out ≤ length out'
  out_fits = omega (arith, st.out_is.within, written_size st.out_is)

  pub err_fits : r.err ≤ length err'
  err_fits = omega (arith, st.err_is.within, written_size st.err_is)

pub opens_within : (s : Standing) (n : ℕ) → s ≡ opening → Within s.place n
unfolding opening
opens_within s n e = rw e (record { from_to = omega arith; to_end = omega arith })
