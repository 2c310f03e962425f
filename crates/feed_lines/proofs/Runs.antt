-- A run of trades: what holds from turn to turn, and its steps. Assumes nothing.
use Prim.Native.Nat.{ℕ, ◌+◌, ◌-◌, ◌*◌, ◌^◌, ◌≤◌, ◌<◌}
use native.Mathlib.Omega.{arith}
use mathlib.Core.Path.{◌≡◌, refl, sym, ap, ◌∙◌}
use mathlib.Core.Bool.{Bool, true, false, not}
use mathlib.Core.List.{List, ◌∷◌, ◌++◌}
use Rattle.std.specs.Prelude.{Option, Some, Ok, is_some, ⊤}
use Rattle.std.proofs.lemmas.Option.{MatchOption-at_some}
use lib.Dec.{eqb, ltb}
use lib.ListN.{length, take, drop, length-append, length-take, length-drop, take-append-drop}
use mir.Val.{Fits}
use mir.Syntax.{w64}
use borrow.Author.Tests.{eqb-true, ltb-true, not-false}
use Rattle.text.specs.Pick.{all, pick}
use Rattle.text.proofs.Texts.{and_left, and_right}
use Rattle.text.proofs.Writing.{written_nothing}
use Rattle.rules.specs.Columns.{between}
use Rattle.rules.specs.Line.{is_printable, is_shaped}
use Rattle.rules.specs.declared.Settings.{Settings}
use Rattle.rules.specs.Sizes.{width}
use Rattle.engine.specs.Taken.{Taken, TradeTaken, count_of}
use Rattle.feed_blocks.specs.Lines.{ends_at}
use Rattle.feed_blocks.proofs.Scan.{line_at}
use Rattle.feed_gather.specs.Gather.{Progress, room_left, lines_from, Here, Steps}
use Rattle.feed_gather.proofs.Blocks.{room_number, line_then, last_then, here_next}
use Rattle.feed_lines.specs.Feed.{told, day_program, ends_line, Runs}
use Rattle.feed_gather.specs.declared.Fed.{Fed}
use Rattle.feed_lines.proofs.Steps.{taken_fits, taken_size, line_fed}

-- what holds from turn to turn: the run so far, and where it stands
pub record Run (last : Bool) (block names refusals table₀ tape₀ : List ℕ) (st : Settings) (f : Fed) (table tape : List ℕ) (r : Fed) : Type 0 where
  pub runs : Runs last block names refusals table₀ tape₀ f table tape r
  pub settings_is : r.settings ≡ st
  pub at_in : r.at ≤ length block + 1
  pub size : length tape ≡ length tape₀

pub run_start : (last : Bool) (block names refusals table tape : List ℕ) (f : Fed) → f.at ≤ length block → f.out ≤ length tape → f.err ≤ length refusals → Run last block names refusals table tape f.settings f table tape f
run_start last block names refusals table tape f a t k =
    record { runs = record { to = λ tape₀ refusals₀ goal h. h; ahead = omega arith; tape_in = t; refusals_in = k }; settings_is = refl; at_in = omega arith; size = refl }

-- ---- a line

-- a part of a list, put back where it was
put_back : (xs : List ℕ) (k n : ℕ) → take k xs ++ (take n (drop k xs) ++ drop n (drop k xs)) ≡ xs
put_back xs k n = ap (λ (z : List ℕ). take k xs ++ z) (take-append-drop n (drop k xs)) ∙ take-append-drop k xs

-- a line that ends at a place is in the block
ends_in : (last : Bool) (block : List ℕ) (at : ℕ) → ends_line last block at ≡ true → at ≤ length block
unfolding ends_line ends_at pick
ends_in false block at e = omega (arith, ltb-true at (length block) (and_left (ltb at (length block)) _ e))
ends_in true line at e = omega (arith, eqb-true at (length line) e)

-- width printable bytes that a line's end follows are the next line
line_ahead : (last : Bool) (block : List ℕ) (at : ℕ) → is_shaped (take (at + width - at) (drop at block)) ≡ true → ends_line last block (at + width) ≡ true
    → lines_from last block at ≡ take (at + width - at) (drop at block) ∷ lines_from last block (at + width + 1)
unfolding is_shaped is_printable between ends_line ends_at pick
line_ahead false block at s e =
    let n : at + width - at ≡ width = omega arith in
    let printable : all is_printable (take (at + width - at) (drop at block)) ≡ true = and_right (eqb (length (take (at + width - at) (drop at block))) width) _ s in
    line_then block at (at + width) (line_at is_printable refl block at width (rw n at printable) e) (ltb-true (at + width) (length block) (and_left (ltb (at + width) (length block)) _ e))
line_ahead true line at s e =
    let n : at + width ≡ length line = eqb-true (at + width) (length line) e in
    rw n (last_then line at (omega arith))

module _ (last : Bool) (block names refusals table₀ tape₀ : List ℕ) (st : Settings) (f : Fed) (table tape : List ℕ) (r : Fed) (inv : Run last block names refusals table₀ tape₀ st f table tape r) (table' ys : List ℕ) (p : Option ℕ) where
  abbrev line : List ℕ
  line = take (r.at + width - r.at) (drop r.at block)

  abbrev lent : List ℕ
  lent = take (length tape - r.out) (drop r.out tape)

  abbrev tape' : List ℕ
  tape' = take r.out tape ++ (ys ++ drop (length tape - r.out) (drop r.out tape))

  module _ (t : TradeTaken st table names line lent table' ys p) where
    -- no trade: nothing was done
    pub run_stop : is_some p ≡ false → Runs last block names refusals table₀ tape₀ f table' tape' r
    run_stop none =
        let back : tape' ≡ tape = rw (t.tape_same none) (put_back tape r.out (length tape - r.out)) in
        rw (t.table_same none, back) inv.runs

    module _ (n : ℕ) (went : p ≡ Some n) where
      abbrev next : Fed
      next = record { settings = r.settings; number = r.number + 1; at = r.at + width + 1; out = r.out + n; err = r.err }

      taken : Taken st table names line lent table' names ys (record { outcome = Ok n; settings = st })
      taken = MatchOption-at_some ⊤ _ n went t.taken_is

      fits : n ≤ length tape - r.out
      unfolding count_of
      fits = omega (arith, taken_fits st table names line lent table' names ys _ taken, length-take (length tape - r.out) (drop r.out tape), length-drop r.out tape)

      pub print_adds : length tape₀ < 2 ^ 64 → Fits w64 (r.out + n)
      print_adds l = record { fits = omega (arith, fits, inv.runs.tape_in, inv.size) }

      -- as the code has it: `b` is the answer whether a line ends there
      module _ (b : Bool) (tells : b ≡ ends_line last block (r.at + width)) (ends : not b ≡ false) (room : Bool) (holds : room ≡ room_left day_program (length tape) (length refusals) r.out r.err r.number) (is : room ≡ true) where
        in_block : r.at + width ≤ length block
        in_block = ends_in last block (r.at + width) (sym tells ∙ not-false b ends)

        steps : Steps day_program line table names tape refusals r table' names tape' refusals next
        unfolding count_of told
        steps =
            let k : List ℕ = take (length refusals - r.err) (drop r.err refusals) in
            let here : Taken r.settings table names line lent table' names ys (record { outcome = Ok n; settings = r.settings }) = rw inv.settings_is taken in
            let zero : r.err + 0 ≡ r.err = omega arith in
            rw (put_back refusals r.err (length refusals - r.err), zero) at (line_fed r block table names tape refusals table' names ys k (record { outcome = Ok n; settings = r.settings }) (r.at + width) n 0 here refl (written_nothing k) (omega arith) in_block)

        run_step : (t₀ r₀ : List ℕ) (goal : Progress) → Here day_program last block t₀ r₀ goal table names tape refusals r → Here day_program last block t₀ r₀ goal table' names tape' refusals next
        run_step t₀ r₀ goal h = here_next h _ _ (line_ahead last block r.at (t.shaped (ap is_some went)) (sym tells ∙ not-false b ends)) (sym holds ∙ is) table' names tape' refusals next steps refl

        pub run_on : Run last block names refusals table₀ tape₀ st f table' tape' next
        run_on =
            let size : length tape' ≡ length tape = simp (length-append, length-take, length-drop) (omega (arith, taken_size st table names line lent table' names ys _ taken, length-take (length tape - r.out) (drop r.out tape), length-drop r.out tape, inv.runs.tape_in)) in
            record {
              runs = record { to = λ t₀ r₀ goal h. run_step t₀ r₀ goal (inv.runs.to t₀ r₀ goal h); ahead = omega (arith, inv.runs.ahead); tape_in = omega (arith, size, fits, inv.runs.tape_in); refusals_in = inv.runs.refusals_in };
              settings_is = inv.settings_is;
              at_in = omega (arith, in_block);
              size = size ∙ inv.size;
            }

module _ (last : Bool) (block : List ℕ) (at : ℕ) (b : Bool) (tells : b ≡ ends_line last block (at + width)) (ends : not b ≡ false) where
  pub line_in : at + width ≤ length block
  line_in = ends_in last block (at + width) (sym tells ∙ not-false b ends)

  pub next_adds : length block * 1 < 2 ^ 63 → Fits w64 (at + width + 1)
  next_adds l = record { fits = omega (arith, line_in) }

  pub run_less : length block - (at + width + 1) < length block - at
  run_less = omega (arith, line_in)

-- the number of the next line
pub number_adds : (tape refusals : ℕ) (r : Fed) (room : Bool) → room ≡ room_left day_program tape refusals r.out r.err r.number → room ≡ true → Fits w64 (r.number + 1)
number_adds tape refusals r room holds is = record { fits = omega (arith, room_number day_program tape refusals r.out r.err r.number (sym holds ∙ is)) }
