-- THE THEOREM OF THE WHOLE INPUT: whatever the reads, a session tells of the lines of the input. Assumes nothing.
use Prim.Native.Nat.{ℕ, ◌≤◌, ◌<◌}
use native.Mathlib.Omega.{arith}
use mathlib.Core.Path.{◌≡◌, refl, sym, ap, ◌∙◌}
use mathlib.Core.Bool.{Bool, true, false, not}
use mathlib.Core.List.{List, [], ◌∷◌, ◌++◌, append_assoc, append-nil}
use lib.ListN.{length, take, drop, replicate}
use lib.Seq.{drop-length, take_at}
use Rattle.text.specs.Put.{put, Written}
use Rattle.text.proofs.Booleans.{false_true}
use Rattle.rules.specs.Day.{Day, fresh}
use Rattle.rules.specs.Sizes.{width}
use Rattle.rules.specs.declared.Settings.{Settings}
use Rattle.call_table.specs.Sizes.{table_size, names_size}
use Rattle.call_table.proofs.Held.{held_cleared}
use Rattle.line_owed.proofs.Reached.{kept_fresh}
use Rattle.feed_blocks.specs.Lines.{line_length, lines_by}
use Rattle.feed_gather.specs.Gather.{Program, Progress, started}
use Rattle.feed_input.specs.Place.{Answer, Within, held, taken_in, gone_on}
use Rattle.feed_input.specs.Answers.{Answers}
use Rattle.feed_input.specs.Answers.Answers.{unasked, came, fails}
use Rattle.feed_input.specs.declared.Place.{Place}
use Rattle.feed_input.proofs.Held.{After, after_read, held_on, asks_on, ended_on, failed_on, in_came}
use Rattle.feed_step.specs.Step.{opening, taken_by, used_by, passing_by, reads_by, is_over, place_in, way_in, progress_in, Steps}
use Rattle.feed_step.specs.Session.{Turn, Session, next, last}
use Rattle.feed_step.specs.declared.Standing.{Standing}
use Rattle.feed_step.specs.declared.Stepped.{Stepped}
use Rattle.feed_step.specs.declared.Way.{Way}
use Rattle.feed_step.specs.declared.Way.TheVariants.{Lines, Line, Pass, Stop}
use Rattle.feed_step.proofs.How as how
use Rattle.feed_step.proofs.How.{How}
use Rattle.feed_step.proofs.Steps.{in_place, way_is, uses_held, same_size, stands_within}
use Rattle.claim_programs.specs.Told.{Text, told_of_lines, Tells}
use Rattle.claim_programs.proofs.Lines.{Holds}
use Rattle.claim_programs.proofs.Rest.{rest, rest_past, rest_none, rest_broken, rest_lines}
use Rattle.claim_programs.proofs.Onward.{Onward, onward}

-- what is written is what was told
front : {t b a : List ℕ} {n : ℕ} → Written t b a n → take n a ≡ t
unfolding put
front {t} {b} {a} {n} w = ap (take n) w.tape ∙ take_at t _ n (sym w.count_is)

empty : (l : List ℕ) → length l ≡ 0 → l ≡ []
empty [] h = refl
empty (x ∷ l) h = absurd (omega arith)

two : {A : Type 0} {b : Bool} → b ≡ true → b ≡ false → A
two {A} {b} e f = absurd (false_true (sym f ∙ e))

-- ---- the ways once more

-- where a read comes next, what is then held has no line feed; at the input's end none comes
reads_plain : {passing : Bool} {p : Place} {number size : ℕ} {u : List ℕ} {w : Way} (n : ℕ) → How passing p number size u w → reads_by w ≡ true → length (drop (used_by w n) u) ≤ line_length (drop (used_by w n) u)
unfolding reads_by used_by line_length
reads_plain n (how.fails a) r = two r refl
reads_plain n (how.past a b) r = two r refl
reads_plain n (how.done a b c d e) r = two r refl
reads_plain n (how.long_ends a b c d) r = two r refl
reads_plain n (how.long_last a b c d e) r = two r refl
reads_plain {u = u} n (how.long_on a b c d e) r = rw drop-length (omega arith)
reads_plain n (how.lines a b c d) r = two r refl
reads_plain n (how.last a b c d e f) r = two r refl
reads_plain {u = u} n (how.fills a b c d e f) r = rw drop-length (omega arith)
reads_plain n (how.waits a b c d e f) r = d

no_read : {passing : Bool} {p : Place} {number size : ℕ} {u : List ℕ} {w : Way} → How passing p number size u w → p.ended ≡ true → reads_by w ≡ false
unfolding reads_by
no_read (how.fails a) z = refl
no_read (how.past a b) z = refl
no_read (how.done a b c d e) z = refl
no_read (how.long_ends a b c d) z = refl
no_read (how.long_last a b c d e) z = refl
no_read (how.long_on a b c d e) z = two z e
no_read (how.lines a b c d) z = refl
no_read (how.last a b c d e f) z = refl
no_read (how.fills a b c d e f) z = two z e
no_read (how.waits a b c d e f) z = two z e

not_failed : {passing : Bool} {p : Place} {number size : ℕ} {u : List ℕ} {w : Way} → How passing p number size u w → is_over w ≡ false → p.failed ≡ false
unfolding is_over
not_failed (how.fails a) o = two refl o
not_failed (how.past a b) o = a
not_failed (how.done a b c d e) o = a
not_failed (how.long_ends a b c d) o = a
not_failed (how.long_last a b c d e) o = a
not_failed (how.long_on a b c d e) o = a
not_failed (how.lines a b c d) o = a
not_failed (how.last a b c d e f) o = a
not_failed (how.fills a b c d e f) o = a
not_failed (how.waits a b c d e f) o = a

-- the last step: nothing is left to be told
stops : (t : Text) (day : Day) {passing : Bool} {p : Place} {number size : ℕ} {u : List ℕ} {w : Way} → How passing p number size u w → is_over w ≡ true → (p.failed ≡ true → length u ≤ line_length u) → rest t (not p.failed) day number passing u ≡ []
unfolding is_over
stops t day {passing} {p} {number} {size} {u} (how.fails a) o plain = ap (λ (b : Bool). rest t (not b) day number passing u) a ∙ rest_broken t day number passing u (plain a)
stops t day {passing} {p} {number} {size} {u} (how.past a b) o plain = rest_past t (not p.failed) day number passing u b
stops t day {passing} {p} {number} {size} {u} (how.done a b c d e) o plain = rw (c, empty u e) (rest_none t (not p.failed) day number)
stops t day (how.long_ends a b c d) o plain = two o refl
stops t day (how.long_last a b c d e) o plain = two o refl
stops t day (how.long_on a b c d e) o plain = two o refl
stops t day (how.lines a b c d) o plain = two o refl
stops t day (how.last a b c d e f) o plain = two o refl
stops t day (how.fills a b c d e f) o plain = two o refl
stops t day (how.waits a b c d e f) o plain = two o refl

-- ---- one turn

module _ {g : Program} {s : Standing} {table names block bytes out err table' names' block' : List ℕ} {r : Stepped} (t : Turn g s table names block bytes out err table' names' block' r) where
  abbrev st : Steps g s t.answer table names t.read t.lent_out t.lent_err table' names' block' t.told_out t.told_err r
  st = t.steps

  abbrev pub p : Place
  p = place_in s t.answer t.read

  abbrev pub w : Way
  w = way_in s t.answer t.read

  abbrev pub q : Progress
  q = progress_in g s t.answer table names t.read (length t.lent_out) (length t.lent_err)

  abbrev pub u : List ℕ
  u = held p t.read

  pub ways : How s.passing p s.number (length t.read) u w
  ways = way_is st

  pub over_way : is_over w ≡ r.over
  over_way = sym st.over_is

  place_is : r.standing.place ≡ gone_on (reads_by w) p (used_by w q.at)
  place_is = ap (λ (x : Standing). x.place) st.standing_is

  pub next_held : held r.standing.place block' ≡ drop (used_by w q.at) u
  next_held = rw (place_is, st.block_is) (held_on p (used_by w q.at) t.read (in_place st) (uses_held st) (reads_by w))

  pub next_asks : r.standing.place.asks ≡ reads_by w
  next_asks = ap (λ (x : Place). x.asks) place_is ∙ asks_on (reads_by w) p (used_by w q.at)

  pub next_ended : r.standing.place.ended ≡ p.ended
  next_ended = ap (λ (x : Place). x.ended) place_is ∙ ended_on (reads_by w) p (used_by w q.at)

  pub next_failed : r.standing.place.failed ≡ p.failed
  next_failed = ap (λ (x : Place). x.failed) place_is ∙ failed_on (reads_by w) p (used_by w q.at)

  next_ahead : (x : Text) (v : Bool) (d : Day) (f : List ℕ) → rest x v d q.number (passing_by w s.passing) (drop (used_by w q.at) u ++ f) ≡ rest x v d r.standing.number r.standing.passing (held r.standing.place block' ++ f)
  next_ahead x v d f =
      let n : r.standing.number ≡ q.number = ap (λ (y : Standing). y.number) st.standing_is in
      let k : r.standing.passing ≡ passing_by w s.passing = ap (λ (y : Standing). y.passing) st.standing_is in
      rw (next_held, n, k)

  next_holds : (d : Day) → Holds q.settings q.table q.names d → Holds r.standing.settings table' names' d
  next_holds d h =
      let n : r.standing.settings ≡ q.settings = ap (λ (y : Standing). y.settings) st.standing_is in
      rw (n, st.table_is, st.names_is) h

  wrote_out : q.out ≡ out
  wrote_out = sym (t.out_is ∙ front st.out_is)

  wrote_err : q.err ≡ err
  wrote_err = sym (t.err_is ∙ front st.err_is)

  -- the place after the read, in the block before it
  pub after : Within s.place (length block) → After s.place block bytes t.read (taken_in s.place t.answer (length block))
  after i = after_read i t.answers

  pub same_place : Within s.place (length block) → taken_in s.place t.answer (length block) ≡ p
  same_place i = ap (taken_in s.place t.answer) (sym (after i).size)

-- a program that stands in its block, on a state that holds a day: what it holds has no line feed where it asks for a read, and no read has failed where it asks for none
pub record Ready (s : Standing) (table names block : List ℕ) (day : Day) : Type 0 where
  pub holds : Holds s.settings table names day
  pub within : Within s.place (length block)
  pub big : width < length block
  pub plain : s.place.asks ≡ true → length (held s.place block) ≤ line_length (held s.place block)
  pub came : s.place.asks ≡ false → s.place.failed ≡ false

pub quiet_none : {q : Place} {b bytes b' : List ℕ} {y : Answer} → Answers q b bytes y b' → q.asks ≡ false → bytes ≡ []
quiet_none (unasked y h) n = refl
quiet_none (came h k l c) n = two h n
quiet_none (fails c h k) n = refl

-- behind the input's end nothing is read, and it came to its end
ended_whole : {g : Program} {s : Standing} {table names block input out err : List ℕ} {whole : Bool} → Session g s table names block input whole out err → Within s.place (length block) → s.place.asks ≡ false → s.place.ended ≡ true → s.place.failed ≡ false
    → (input ≡ []) × (whole ≡ true)
ended_whole (next t o x) i a e f =
    let k = after t i in
    let same = same_place t i in
    let pe : (p t).ended ≡ true = ap (λ (y : Place). y.ended) (sym same) ∙ ((k.quiet a).0 ∙ e) in
    let pf : (p t).failed ≡ false = ap (λ (y : Place). y.failed) (sym same) ∙ ((k.quiet a).1 ∙ f) in
    let z = ended_whole x (stands_within t.steps) (next_asks t ∙ no_read (ways t) pe) (next_ended t ∙ pe) (next_failed t ∙ pf) in
    let none = quiet_none t.answers a in
    (rw (none, z.0), z.1)
ended_whole (last t o) i a e f =
    let k = after t i in
    let same = same_place t i in
    let pf : (p t).failed ≡ false = ap (λ (y : Place). y.failed) (sym same) ∙ ((k.quiet a).1 ∙ f) in
    (quiet_none t.answers a, ap not (next_failed t ∙ pf))

-- a failed read brings nothing
broke : {p : Place} {b bytes b' : List ℕ} {z : Answer} → Within p (length b) → Answers p b bytes z b' → p.asks ≡ true → (taken_in p z (length b)).failed ≡ true → bytes ≡ []
broke i (unasked z h) a f = two a h
broke {p} {b} i (came {bytes} h k l c) a f = two f (ap (λ (x : Place). x.failed) (in_came p (length b) i (length bytes) h l))
broke i (fails c h k) a f = refl

-- the last step tells nothing
silent : (g : Program) (room told : ℕ) (u : List ℕ) (st : Settings) (table names : List ℕ) (number : ℕ) (w : Way) → is_over w ≡ true → ((taken_by g room told w u (started st table names number)).out ≡ []) × ((taken_by g room told w u (started st table names number)).err ≡ [])
unfolding is_over taken_by
silent g room told u st table names number Lines o = two o refl
silent g room told u st table names number (Line a b) o = two o refl
silent g room told u st table names number (Pass a) o = two o refl
silent g room told u st table names number Stop o = (refl, refl)

-- ---- what is told

module _ {g : Program} {out err : Text} (tells : Tells g out err) where
  -- what is yet to be told of a text, from where a program stands
  abbrev ahead : Text → Bool → Day → Standing → List ℕ → List ℕ → List ℕ
  ahead t v day s block f = rest t v day s.number s.passing (held s.place block ++ f)

  module _ {s : Standing} {table names block bytes o e table' names' block' : List ℕ} {r : Stepped} (t : Turn g s table names block bytes o e table' names' block' r) (day : Day) (y : Ready s table names block day) where
    held_is : u t ≡ held s.place block ++ bytes
    held_is = ap (λ (x : Place). held x t.read) (sym (same_place t y.within)) ∙ (after t y.within).held_is

    pub wide : width < length t.read
    wide = omega (arith, (after t y.within).size, y.big)

    -- a failed read leaves what was held
    failed_plain : (p t).failed ≡ true → length (u t) ≤ line_length (u t)
    failed_plain f = go s.place.asks refl
      where
        pf : (taken_in s.place t.answer (length block)).failed ≡ true
        pf = ap (λ (x : Place). x.failed) (same_place t y.within) ∙ f

        go : (b : Bool) → s.place.asks ≡ b → length (u t) ≤ line_length (u t)
        go false a = two (sym ((after t y.within).quiet a).1 ∙ pf) (y.came a)
        go true a = let none : bytes ≡ [] = broke y.within t.answers a pf in rw (held_is, none, append-nil) (y.plain a)

    module _ (going : r.over ≡ false) where
      pub on : Onward tells (length t.lent_out) (length t.lent_err) (length t.read) wide t.out_room t.err_room s.passing (p t) s.number (u t) s.settings table names day y.holds (w t)
      on = onward tells (length t.lent_out) (length t.lent_err) (length t.read) wide t.out_room t.err_room s.passing (p t) s.number (u t) s.settings table names day y.holds (ways t) (over_way t ∙ going)

      pub ready : Ready r.standing table' names' block' on.day'
      ready =
          record {
            holds = next_holds t on.day' on.on;
            within = stands_within t.steps;
            big = omega (arith, same_size t.steps, wide);
            plain = λ a. rw (next_held t) (reads_plain (q t).at (ways t) (sym (next_asks t) ∙ a));
            came = λ a. next_failed t ∙ not_failed (ways t) (over_way t ∙ going);
          }

      -- at the input's end nothing follows
      module _ {input o' e' : List ℕ} {whole : Bool} (x : Session g r.standing table' names' block' input whole o' e') where
        end_alone : (p t).ended ≡ true → (input ≡ []) × (whole ≡ true)
        end_alone z = ended_whole x (stands_within t.steps) (next_asks t ∙ no_read (ways t) z) (next_ended t ∙ z) (next_failed t ∙ not_failed (ways t) (over_way t ∙ going))

        out_next : ahead out whole day s block (bytes ++ input) ≡ o ++ ahead out whole on.day' r.standing block' input
        out_next =
            ap (rest out whole day s.number s.passing) (sym (append_assoc (held s.place block) bytes input) ∙ ap (λ (k : List ℕ). k ++ input) (sym held_is))
            ∙ (on.out_is whole input end_alone ∙ (ap (λ (k : List ℕ). k ++ rest out whole on.day' (q t).number (passing_by (w t) s.passing) (drop (used_by (w t) (q t).at) (u t) ++ input)) (wrote_out t) ∙ ap (λ (k : List ℕ). o ++ k) (next_ahead t out whole on.day' input)))

        err_next : ahead err whole day s block (bytes ++ input) ≡ e ++ ahead err whole on.day' r.standing block' input
        err_next =
            ap (rest err whole day s.number s.passing) (sym (append_assoc (held s.place block) bytes input) ∙ ap (λ (k : List ℕ). k ++ input) (sym held_is))
            ∙ (on.err_is whole input end_alone ∙ (ap (λ (k : List ℕ). k ++ rest err whole on.day' (q t).number (passing_by (w t) s.passing) (drop (used_by (w t) (q t).at) (u t) ++ input)) (wrote_err t) ∙ ap (λ (k : List ℕ). e ++ k) (next_ahead t err whole on.day' input)))

    -- the last one
    module _ (over : r.over ≡ true) where
      told_nothing : ((q t).out ≡ []) × ((q t).err ≡ [])
      told_nothing = silent g (length t.lent_out) (length t.lent_err) (u t) s.settings table names s.number (w t) (over_way t ∙ over)

      whole_is : not r.standing.place.failed ≡ not (p t).failed
      whole_is = ap not (next_failed t)

      last_text : (x : Text) → ahead x (not r.standing.place.failed) day s block bytes ≡ []
      last_text x = rw (whole_is, ← held_is) (stops x day (ways t) (over_way t ∙ over) failed_plain)

      out_last : o ≡ ahead out (not r.standing.place.failed) day s block bytes
      out_last = sym (wrote_out t) ∙ (told_nothing.0 ∙ sym (last_text out))

      err_last : e ≡ ahead err (not r.standing.place.failed) day s block bytes
      err_last = sym (wrote_err t) ∙ (told_nothing.1 ∙ sym (last_text err))

  -- FROM ANYWHERE: what is written is what is yet to be told of the bytes that are held and of those that are read
  pub session_told : {s : Standing} {table names block input o e : List ℕ} {whole : Bool} → Session g s table names block input whole o e → (day : Day) → Ready s table names block day → (o ≡ ahead out whole day s block input) × (e ≡ ahead err whole day s block input)
  session_told (next {out = o} {err = e} t over x) day y =
      let z = session_told x (on t day y over).day' (ready t day y over) in
      (ap (λ (k : List ℕ). o ++ k) z.0 ∙ sym (out_next t day y over x), ap (λ (k : List ℕ). e ++ k) z.1 ∙ sym (err_next t day y over x))
  session_told (last t over) day y = (out_last t day y over, err_last t day y over)

  -- ---- from a fresh state and cleared tables

  pub starts : (block : List ℕ) → width < length block → Ready opening (replicate table_size 0) (replicate names_size 0) block fresh
  unfolding opening line_length fresh
  starts block b =
      record {
        holds = record { rows = refl; places = refl; day_is = held_cleared 0; reached = kept_fresh };
        within = record { from_to = omega arith; to_end = omega arith };
        big = b;
        plain = λ a. omega arith;
        came = λ a. two refl a;
      }

  -- WHATEVER THE READS: a program tells of the lines of its input, of all of them where the input came to its end, of those that a line feed ended where it broke off
  pub session_output : {block input o e : List ℕ} {whole : Bool} → width < length block → Session g opening (replicate table_size 0) (replicate names_size 0) block input whole o e
      → (o ≡ told_of_lines out fresh 1 (lines_by whole input)) × (e ≡ told_of_lines err fresh 1 (lines_by whole input))
  unfolding opening
  session_output {block} {input} {o} {e} {whole} b x =
      let z = session_told x fresh (starts block b) in
      (z.0 ∙ rest_lines out whole fresh 1 input, z.1 ∙ rest_lines err whole fresh 1 input)
