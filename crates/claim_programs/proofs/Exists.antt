-- EVERY INPUT HAS A SESSION: one whose reads bring a byte each. Assumes nothing.
use Prim.Native.Nat.{ℕ, zero, suc, ◌+◌, ◌-◌, ◌≤◌, ◌<◌}
use native.Mathlib.Omega.{arith}
use mathlib.Core.Path.{◌≡◌, refl, sym, ap, ◌∙◌}
use mathlib.Core.Bool.{Bool, true, false, not}
use mathlib.Core.List.{List, [], ◌∷◌, ◌++◌, append_assoc}
use lib.Dec.{eqb}
use lib.ListN.{length, take, drop, replicate, length-append, length-take, length-drop}
use lib.Seq.{take_at, drop_at, length-take-le}
use borrow.Author.Tests.{eqb-true}
use Rattle.std.specs.Prelude.{Ok}
use Rattle.text.specs.Pick.{pick}
use Rattle.text.specs.Put.{put}
use Rattle.text.proofs.Booleans.{false_true}
use Rattle.rules.specs.Day.{Day, fresh, after, ample}
use Rattle.rules.specs.Sizes.{width}
use Rattle.call_table.specs.Sizes.{table_size, names_size}
use Rattle.call_table.specs.Rows.{day_of}
use Rattle.line_owed.specs.Reached.{Reached}
use Rattle.feed_blocks.specs.Lines.{cut}
use Rattle.feed_gather.specs.Gather.{Program, Progress, started, carried, line_taken, room_left, lines_taken, block_taken}
use Rattle.feed_gather.proofs.Blocks.{taken_on, taken_off, taken_none, room_out, room_err, room_number}
use Rattle.feed_input.specs.Place.{Answer, Within, held, taken_in, gone_on, block_on}
use Rattle.feed_input.specs.Answers.{Answers}
use Rattle.feed_input.specs.Answers.Answers.{unasked, came, fails}
use Rattle.feed_input.specs.declared.Place.{Place}
use Rattle.feed_input.proofs.Held.{length_held, in_came, in_quiet}
use Rattle.feed_step.specs.Step.{opening, taken_by, used_by, reads_by, is_over, standing_by, place_in, way_in, progress_in, Steps}
use Rattle.feed_step.specs.Session.{Turn, next, last}
use Rattle.feed_step.specs.declared.Standing.{Standing}
use Rattle.feed_step.specs.declared.Stepped.{Stepped}
use Rattle.feed_step.specs.declared.Way.{Way}
use Rattle.feed_step.specs.declared.Way.TheVariants.{Lines, Line, Pass, Stop}
use Rattle.feed_step.proofs.How as how
use Rattle.feed_step.proofs.How.{How}
use Rattle.feed_step.proofs.Steps.{in_place, same_size}
use Rattle.claim_programs.specs.Told.{Text, Tells}
use Rattle.claim_programs.specs.Exists.{Fits, final, Ends, all_read, behind_last, Has}
use Rattle.claim_programs.proofs.Lines.{On, takes}
use Rattle.claim_programs.proofs.Session as session
use Rattle.claim_programs.proofs.Turns as turns

-- ---- what is told fits

module _ {g : Program} {out err : Text} (tells : Tells g out err) (fits : Fits g) (room told : ℕ) where
  record Small (p : Progress) : Type 0 where
    out_small : length p.out ≤ room
    err_small : length p.err ≤ told

  line_small : (l : List ℕ) (p : Progress) (day : Day) → On p day → Small p → room_left g room told (length p.out) (length p.err) p.number ≡ true → Small (line_taken g room l p)
  unfolding line_taken carried
  line_small l p day h s r =
      let reached : Reached (day_of p.settings p.table p.names) = rw h.day_is h.reached in
      let n = room_number g room told (length p.out) (length p.err) p.number r in
      let a = fits.out_fits p.settings p.table p.names p.number l (room - length p.out) h.rows h.places reached n (room_out g room told (length p.out) (length p.err) p.number r) in
      let b = fits.err_fits p.settings p.table p.names p.number l (room - length p.out) (told - length p.err) h.rows h.places reached n (room_err g room told (length p.out) (length p.err) p.number r) in
      record {
        out_small = simp length-append (omega (arith, a, s.out_small));
        err_small = simp length-append (omega (arith, b, s.err_small));
      }

  lines_small : (ls : List (List ℕ)) (p : Progress) (day : Day) → On p day → Small p → Small (lines_taken g room told ls p)
  lines_small [] p day h s = rw taken_none s
  lines_small (l ∷ ls) p day h s = go (room_left g room told (length p.out) (length p.err) p.number) refl (lines_small ls (line_taken g room l p) (after day (ample l)))
    where
      go : (b : Bool) → room_left g room told (length p.out) (length p.err) p.number ≡ b → (On (line_taken g room l p) (after day (ample l)) → Small (line_taken g room l p) → Small (lines_taken g room told ls (line_taken g room l p))) → Small (lines_taken g room told (l ∷ ls) p)
      go true e on =
          rw (taken_on g room told l ls p e) (on (takes tells room l p day h (room_out g room told (length p.out) (length p.err) p.number e)).on (line_small l p day h s e))
      go false e on = rw (taken_off g room told l ls p e) s

  way_small : (w : Way) (u : List ℕ) (p : Progress) (day : Day) → On p day → Small p → Small (taken_by g room told w u p)
  unfolding taken_by block_taken
  way_small Lines u p day h s = lines_small (cut u).ended p day h s
  way_small (Line a b) u p day h s = lines_small (drop a u ∷ []) p day h s
  way_small (Pass a) u p day h s = s
  way_small Stop u p day h s = s

-- ---- a turn, for each read that fits

module _ {g : Program} {out err : Text} (tells : Tells g out err) (fits : Fits g) (lent_out lent_err : List ℕ) (wide : g.out_most ≤ length lent_out) (deep : g.err_most ≤ length lent_err)
    (s : Standing) (table names block : List ℕ) (day : Day) (y : session.Ready s table names block day) (bytes : List ℕ) (z : Answer) (read : List ℕ) (answers : Answers s.place block bytes z read) where
  abbrev q : Progress
  q = progress_in g s z table names read (length lent_out) (length lent_err)

  abbrev w : Way
  w = way_in s z read

  abbrev answer : Stepped
  answer = record { standing = standing_by s.passing (place_in s z read) w q.at q.settings q.number; out = length q.out; err = length q.err; over = is_over w }

  abbrev block' : List ℕ
  block' = block_on (reads_by w) (place_in s z read) (used_by w q.at) read

  steps : Steps g s z table names read lent_out lent_err q.table q.names block' (put q.out lent_out) (put q.err lent_err) answer
  steps =
      let small = way_small tells fits (length lent_out) (length lent_err) w (held (place_in s z read) read) (started s.settings table names s.number) day y.holds (record { out_small = omega arith; err_small = omega arith }) in
      record {
        standing_is = refl;
        table_is = refl;
        names_is = refl;
        block_is = refl;
        out_is = record { tape = refl; count_is = refl; within = small.out_small };
        err_is = record { tape = refl; count_is = refl; within = small.err_small };
        over_is = refl;
      }

  abbrev turn : Turn g s table names block bytes (take (length q.out) (put q.out lent_out)) (take (length q.err) (put q.err lent_err)) q.table q.names block' answer
  turn =
      record {
        answer = z;
        read = read;
        lent_out = lent_out;
        lent_err = lent_err;
        told_out = put q.out lent_out;
        told_err = put q.err lent_err;
        answers = answers;
        steps = steps;
        out_room = wide;
        err_room = deep;
        out_is = refl;
        err_is = refl;
      }

-- ---- reads that fit

reads : (p : Place) (block bytes : List ℕ) → p.asks ≡ true → Within p (length block) → p.have + length bytes ≤ length block → Answers p block bytes (Ok (length bytes)) (take p.have block ++ (bytes ++ drop (p.have + length bytes) block))
reads p block bytes a i l =
    let h : length (take p.have block) ≡ p.have = length-take-le p.have block i.to_end in
    came {block' = take p.have block ++ (bytes ++ drop (p.have + length bytes) block)} a
    (record {
      size = simp (length-append, length-take, length-drop) (omega (arith, i.to_end, l));
      kept = take_at (take p.have block) _ p.have h;
    })
    l
    (ap (take (length bytes)) (drop_at (take p.have block) _ p.have h) ∙ take_at bytes _ (length bytes) refl)

-- where a read comes next, the block has room for a byte
next_room : {passing : Bool} {p : Place} {number size : ℕ} {u : List ℕ} {w : Way} (n : ℕ) → How passing p number size u w → reads_by w ≡ true → 1 ≤ size → length u ≡ p.have - p.at → p.have - (p.at + used_by w n) < size
unfolding reads_by used_by
next_room n (how.fails a) r b l = absurd (false_true r)
next_room n (how.past a c) r b l = absurd (false_true r)
next_room n (how.done a c d e f) r b l = absurd (false_true r)
next_room n (how.long_ends a c d e) r b l = absurd (false_true r)
next_room n (how.long_last a c d e f) r b l = absurd (false_true r)
next_room n (how.long_on a c d e f) r b l = omega arith
next_room n (how.lines a c d e) r b l = absurd (false_true r)
next_room n (how.last a c d e f h) r b l = absurd (false_true r)
next_room n (how.fills a c d e f h) r b l = omega arith
next_room n (how.waits a c d e f h) r b l = omega arith

front_have : (reads : Bool) (p : Place) (n : ℕ) → reads ≡ true → (gone_on reads p n).have ≡ p.have - (p.at + n)
unfolding gone_on pick
front_have true p n e = refl
front_have false p n e = absurd (false_true e)

-- the last step moves no number
stop_number_lem : (g : Program) (room told : ℕ) (w : Way) (u : List ℕ) (p : Progress) → is_over w ≡ true → (taken_by g room told w u p).number ≡ p.number
unfolding is_over taken_by
stop_number_lem g room told Lines u p o = absurd (false_true o)
stop_number_lem g room told (Line a b) u p o = absurd (false_true o)
stop_number_lem g room told (Pass a) u p o = absurd (false_true o)
stop_number_lem g room told Stop u p o = refl

-- where the last step leaves the program
ends_at : {passing : Bool} {p : Place} {number size : ℕ} {u : List ℕ} {w : Way} (rest : List ℕ) (r : Standing) → How passing p number size u w → is_over w ≡ true → p.failed ≡ false → (p.ended ≡ true → rest ≡ []) → r.number ≡ number → Ends rest r
unfolding is_over
ends_at rest r (how.fails a) o f alone e = absurd (false_true (sym f ∙ a))
ends_at rest r (how.past a b) o f alone e = behind_last (omega (arith, e, b))
ends_at rest r (how.done a b c d k) o f alone e = all_read (alone d)
ends_at rest r (how.long_ends a b c d) o f alone e = absurd (false_true o)
ends_at rest r (how.long_last a b c d k) o f alone e = absurd (false_true o)
ends_at rest r (how.long_on a b c d k) o f alone e = absurd (false_true o)
ends_at rest r (how.lines a b c d) o f alone e = absurd (false_true o)
ends_at rest r (how.last a b c d k l) o f alone e = absurd (false_true o)
ends_at rest r (how.fills a b c d k l) o f alone e = absurd (false_true o)
ends_at rest r (how.waits a b c d k l) o f alone e = absurd (false_true o)

kept_size : {p : Place} {b bytes b' : List ℕ} {z : Answer} → Answers p b bytes z b' → p.asks ≡ true → length b' ≡ length b
kept_size (unasked z h) a = refl
kept_size (came h k l c) a = k.size
kept_size (fails c h k) a = k.size

-- ---- from anywhere

pub record Whole (s : Standing) (table names block input : List ℕ) (day : Day) : Type 0 where
  pub ready : session.Ready s table names block day
  pub goes_on : s.place.asks ≡ true → s.place.ended ≡ false
  pub room : s.place.asks ≡ true → s.place.have < length block
  pub no_more : s.place.ended ≡ true → input ≡ []

module _ {g : Program} {out err : Text} (tells : Tells g out err) (fits : Fits g) (lent_out lent_err : List ℕ) (wide : g.out_most ≤ length lent_out) (deep : g.err_most ≤ length lent_err) where
  -- a turn that reads `bytes` of `bytes ++ rest`
  module _ (s : Standing) (table names block bytes rest : List ℕ) (day : Day) (y : Whole s table names block (bytes ++ rest) day) (z : Answer) (read : List ℕ) (answers : Answers s.place block bytes z read)
      (alone : (place_in s z read).ended ≡ true → rest ≡ []) (fine : (place_in s z read).failed ≡ false) where
    abbrev r : Stepped
    r = answer tells fits lent_out lent_err wide deep s table names block day y.ready bytes z read answers

    abbrev p : Progress
    p = q tells fits lent_out lent_err wide deep s table names block day y.ready bytes z read answers

    abbrev after_block : List ℕ
    after_block = block' tells fits lent_out lent_err wide deep s table names block day y.ready bytes z read answers

    abbrev t : Turn g s table names block bytes (take (length p.out) (put p.out lent_out)) (take (length p.err) (put p.err lent_err)) p.table p.names after_block r
    t = turn tells fits lent_out lent_err wide deep s table names block day y.ready bytes z read answers

    is_open : turns.Open s block
    is_open = record { within = y.ready.within; big = omega (arith, y.ready.big); goes_on = y.goes_on }

    failed_is : r.standing.place.failed ≡ false
    failed_is = session.next_failed t ∙ fine

    end_here : r.over ≡ true → Has g s table names block (bytes ++ rest)
    unfolding final
    end_here o =
        record {
          read = bytes;
          unread = rest;
          out = _;
          err = _;
          whole = _;
          whole_is = ap not failed_is;
          input_is = refl;
          session = last t o;
          ends = ends_at rest r.standing (session.ways t) o fine alone (stop_number_lem g (length lent_out) (length lent_err) (way_in s z read) (held (place_in s z read) read) (started s.settings table names s.number) o);
        }

    go_on : r.over ≡ false → Has g r.standing p.table p.names after_block rest → Has g s table names block (bytes ++ rest)
    unfolding final
    go_on o h =
        record {
          read = bytes ++ h.read;
          unread = h.unread;
          out = _;
          err = _;
          whole = h.whole;
          whole_is = h.whole_is;
          input_is = ap (λ (x : List ℕ). bytes ++ x) h.input_is ∙ sym (append_assoc bytes h.read h.unread);
          session = next t o h.session;
          ends = h.ends;
        }

    -- where it then stands
    whole_next : (o : r.over ≡ false) → Whole r.standing p.table p.names after_block rest (session.on tells t day y.ready o).day'
    whole_next o =
        let i = in_place t.steps in
        record {
          ready = session.ready tells t day y.ready o;
          goes_on = (turns.open_next t is_open o).goes_on;
          room = λ a.
              let reads : reads_by (session.w t) ≡ true = sym (session.next_asks t) ∙ a in
              omega (
                arith,
                front_have (reads_by (session.w t)) (session.p t) (used_by (session.w t) p.at) reads,
                next_room p.at (session.ways t) reads (omega (arith, same_size t.steps, (session.after t y.ready.within).size, y.ready.big)) (length_held (session.p t) read i),
                same_size t.steps,
              );
          no_more = λ e. alone (sym (session.next_ended t) ∙ e);
        }

    less : (o : r.over ≡ false) → turns.left r.standing after_block rest < turns.left s block (bytes ++ rest)
    less o = turns.turn_less t is_open o rest

    step_on : ((s' : Standing) (table' names' block'' input' : List ℕ) (day' : Day) → Whole s' table' names' block'' input' day' → turns.left s' block'' input' < turns.left s block (bytes ++ rest) → Has g s' table' names' block'' input') → Has g s table names block (bytes ++ rest)
    step_on on = choose r.over refl
      where
        choose : (b : Bool) → r.over ≡ b → Has g s table names block (bytes ++ rest)
        choose true o = end_here o
        choose false o = go_on o (on r.standing p.table p.names after_block rest _ (whole_next o) (less o))

  -- ---- one turn from anywhere

  module _ (s : Standing) (table names block : List ℕ) (day : Day) where
    -- no read is asked for
    quiet : (input : List ℕ) → Whole s table names block input day → s.place.asks ≡ false
        → ((s' : Standing) (table' names' block'' input' : List ℕ) (day' : Day) → Whole s' table' names' block'' input' day' → turns.left s' block'' input' < turns.left s block input → Has g s' table' names' block'' input') → Has g s table names block input
    quiet input y a on =
        let e = in_quiet s.place (length block) y.ready.within (Ok 0) a in
        step_on s table names block [] input day y (Ok 0) block (unasked (Ok 0) a) (λ z. y.no_more (sym (ap (λ (x : Place). x.ended) e) ∙ z)) (ap (λ (x : Place). x.failed) e ∙ y.ready.came a) on

    -- a read of at most a byte
    asked : (bytes rest : List ℕ) → length bytes ≤ 1 → (length bytes ≡ 0 → rest ≡ []) → Whole s table names block (bytes ++ rest) day → s.place.asks ≡ true
        → ((s' : Standing) (table' names' block'' input' : List ℕ) (day' : Day) → Whole s' table' names' block'' input' day' → turns.left s' block'' input' < turns.left s block (bytes ++ rest) → Has g s' table' names' block'' input') → Has g s table names block (bytes ++ rest)
    asked bytes rest few end y a on =
        let l : s.place.have + length bytes ≤ length block = omega (arith, y.room a) in
        let ans = reads s.place block bytes a y.ready.within l in
        let read : List ℕ = take s.place.have block ++ (bytes ++ drop (s.place.have + length bytes) block) in
        let size : length read ≡ length block = kept_size ans a in
        let e : place_in s (Ok (length bytes)) read ≡ record { at = s.place.at; have = s.place.have + length bytes; asks = false; ended = eqb (length bytes) 0; failed = false } = ap (taken_in s.place (Ok (length bytes))) size ∙ in_came s.place (length block) y.ready.within (length bytes) a l in
        step_on s table names block bytes rest day y (Ok (length bytes)) read ans (λ z. end (eqb-true (length bytes) 0 (sym (ap (λ (x : Place). x.ended) e) ∙ z))) (ap (λ (x : Place). x.failed) e) on

  one_turn : (s : Standing) (table names block input : List ℕ) (day : Day) → Whole s table names block input day
      → ((s' : Standing) (table' names' block'' input' : List ℕ) (day' : Day) → Whole s' table' names' block'' input' day' → turns.left s' block'' input' < turns.left s block input → Has g s' table' names' block'' input') → Has g s table names block input
  one_turn s table names block [] day y on = choose s.place.asks refl
    where
      choose : (b : Bool) → s.place.asks ≡ b → Has g s table names block []
      choose true a = asked s table names block day [] [] (omega arith) (λ z. refl) y a on
      choose false a = quiet s table names block day [] y a on
  one_turn s table names block (x ∷ xs) day y on = choose s.place.asks refl
    where
      choose : (b : Bool) → s.place.asks ≡ b → Has g s table names block (x ∷ xs)
      choose true a = asked s table names block day (x ∷ []) xs (omega arith) (λ z. absurd (omega arith)) y a on
      choose false a = quiet s table names block day (x ∷ xs) y a on

  exist : (k : ℕ) (s : Standing) (table names block input : List ℕ) (day : Day) → Whole s table names block input day → turns.left s block input < k → Has g s table names block input
  exist zero s table names block input day y l = absurd (omega arith)
  exist (suc k) s table names block input day y l = one_turn s table names block input day y (λ s' table' names' block'' input' day' y' l'. exist k s' table' names' block'' input' day' y' (omega arith))

  -- EVERY INPUT HAS A SESSION, in any block that holds a line and its line feed
  pub session_exists : (block input : List ℕ) → width < length block → Has g opening (replicate table_size 0) (replicate names_size 0) block input
  unfolding opening
  session_exists block input b =
      exist (suc (turns.left opening block input)) opening (replicate table_size 0) (replicate names_size 0) block input fresh
      (record {
        ready = session.starts tells block b;
        goes_on = λ a. refl;
        room = λ a. omega arith;
        no_more = λ e. absurd (false_true e);
      })
      (omega arith)
