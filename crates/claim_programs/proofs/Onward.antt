-- THE INVARIANT'S STEP: what a step tells, and what is yet to be told behind it, is what was yet to be told, whatever bytes come. Assumes nothing.
use Prim.Native.Nat.{ℕ, ◌+◌, ◌-◌, ◌≤◌, ◌<◌}
use native.Mathlib.Omega.{arith}
use mathlib.Core.Path.{◌≡◌, refl, sym}
use mathlib.Core.Bool.{Bool, true, false}
use mathlib.Core.List.{List, [], ◌∷◌, ◌++◌, append-nil}
use lib.Dec.{ltb}
use lib.ListN.{length, drop}
use lib.Seq.{drop-length}
use borrow.Author.Tests.{le-leb, lt-ltb}
use Rattle.text.specs.Pick.{pick}
use Rattle.text.proofs.Booleans.{false_true}
use Rattle.rules.specs.Day.{Day, after, ample}
use Rattle.rules.specs.Sizes.{width}
use Rattle.rules.specs.declared.Settings.{Settings}
use Rattle.feed_blocks.specs.Lines.{line_length, cut}
use Rattle.feed_gather.specs.Gather.{last_line, Program, Progress, started, room_left, lines_taken, block_taken}
use Rattle.feed_gather.proofs.Blocks.{taken_on, taken_none}
use Rattle.feed_input.specs.declared.Place.{Place}
use Rattle.feed_step.specs.Step.{taken_by, used_by, passing_by, is_over}
use Rattle.feed_step.specs.declared.Way.{Way}
use Rattle.feed_step.specs.declared.Way.TheVariants.{Lines, Line, Pass}
use Rattle.feed_step.proofs.How.{How, fails, past, done, long_ends, long_last, long_on, lines, last, fills, waits}
use Rattle.claim_programs.specs.Told.{Text, Tells}
use Rattle.claim_programs.proofs.Lines.{Holds, On, Took, takes}
use Rattle.claim_programs.proofs.Goes.{goes}
use Rattle.claim_programs.proofs.Rest.{rest, rest_on, rest_fills, rest_ends, rest_last, rest_one, rest_lines}

module _ {g : Program} {out err : Text} (tells : Tells g out err) (room told size : ℕ) (big : width < size) (wide : g.out_most ≤ room) (deep : g.err_most ≤ told)
    (passing : Bool) (p : Place) (number : ℕ) (u : List ℕ) (st : Settings) (table names : List ℕ) (day : Day) (h : Holds st table names day) where
  abbrev start : Progress
  start = started st table names number

  abbrev q : Way → Progress
  q w = taken_by g room told w u start

  -- one text: told `a`, and then from day' on, with `k` bytes used
  abbrev Keeps : Text → List ℕ → Day → ℕ → Bool → ℕ → Type 0
  Keeps t a day' n next k = (v : Bool) (f : List ℕ) → (p.ended ≡ true → (f ≡ []) × (v ≡ true)) → rest t v day number passing (u ++ f) ≡ a ++ rest t v day' n next (drop k u ++ f)

  pub record Onward (w : Way) : Type 0 where
    pub day' : Day
    pub on : On (q w) day'
    pub out_is : Keeps out (q w).out day' (q w).number (passing_by w passing) (used_by w (q w).at)
    pub err_is : Keeps err (q w).err day' (q w).number (passing_by w passing) (used_by w (q w).at)

  -- ---- one line that is taken by itself

  has_room : number ≤ last_line → room_left g room told 0 0 number ≡ true
  unfolding room_left
  has_room l =
      let a : g.out_most ≤ room - 0 = omega arith in
      let b : g.err_most ≤ told - 0 = omega arith in
      rw (le-leb g.out_most (room - 0) a, le-leb g.err_most (told - 0) b, le-leb number last_line l)

  single : number ≤ last_line → (l : List ℕ) → Took out err l start (lines_taken g room told (l ∷ []) start) day
  single e l = rw (taken_on g room told l [] start (has_room e), taken_none) (takes tells room l start day h (omega arith))

  -- ---- the ways

  by_lines : passing ≡ false → Onward Lines
  unfolding taken_by used_by passing_by block_taken
  by_lines a =
      let o = goes tells room told (cut u).ended u start day refl h in
      let k : (lines_taken g room told (cut u).ended start).at ≡ o.steps = omega (arith, o.used_is) in
      record {
        day' = o.day';
        on = o.on;
        out_is = λ v f e. rw (a, k, rest_lines out v day number (u ++ f), rest_lines out v o.day' (lines_taken g room told (cut u).ended start).number (drop o.steps u ++ f)) (o.out_is v f);
        err_is = λ v f e. rw (a, k, rest_lines err v day number (u ++ f), rest_lines err v o.day' (lines_taken g room told (cut u).ended start).number (drop o.steps u ++ f)) (o.err_is v f);
      }

  -- a line that is the last: nothing follows it
  module _ (early : number ≤ last_line) (over : p.ended ≡ true) where
    ends : (t : Text) (l a : List ℕ) (n : ℕ) → rest t true day number passing u ≡ t day number l ++ rest t true (after day (ample l)) (number + 1) false [] → a ≡ t day number l → n ≡ number + 1 → Keeps t a (after day (ample l)) n false (length u)
    ends t l a n s e k v f y =
        rw ((y over).0, (y over).1, append-nil, drop-length, e, k) s

  one : (from used : ℕ) → number ≤ last_line
      → ((t : Text) → ((day : Day) (number : ℕ) (a b : List ℕ) → (length a ≡ width → ⊥) → (length b ≡ width → ⊥) → t day number a ≡ t day number b) → (a : List ℕ) (n : ℕ) → a ≡ t day number (drop from u) → n ≡ number + 1 → Keeps t a (after day (ample (drop from u))) n false used)
      → Onward (Line from used)
  unfolding taken_by used_by passing_by
  one from used early keeps =
      let t = single early (drop from u) in
      record {
        day' = after day (ample (drop from u));
        on = t.on;
        out_is = keeps out tells.out_long _ _ t.out_is t.number_is;
        err_is = keeps err tells.err_long _ _ t.err_is t.number_is;
      }

  by_pass : (used : ℕ) → ((t : Text) → ((day : Day) (number : ℕ) (a b : List ℕ) → (length a ≡ width → ⊥) → (length b ≡ width → ⊥) → t day number a ≡ t day number b) → Keeps t [] day number (pick (ltb 0 used) true passing) used) → Onward (Pass used)
  unfolding taken_by used_by passing_by
  by_pass used keeps = record { day' = day; on = h; out_is = keeps out tells.out_long; err_is = keeps err tells.err_long }

  still : (t : Text) → ((day : Day) (number : ℕ) (a b : List ℕ) → (length a ≡ width → ⊥) → (length b ≡ width → ⊥) → t day number a ≡ t day number b) → (v : Bool) (f : List ℕ) (z : Bool) → length u ≤ line_length u → rest t v day number true (u ++ f) ≡ rest t v day number (pick z true true) f
  unfolding pick
  still t alike v f true d = rest_on t alike v day number u f d
  still t alike v f false d = rest_on t alike v day number u f d

  pub onward : {w : Way} → How passing p number size u w → is_over w ≡ false → Onward w
  unfolding is_over pick
  onward (fails a) o = absurd (false_true (sym o))
  onward (past a b) o = absurd (false_true (sym o))
  onward (done a b c d e) o = absurd (false_true (sym o))
  onward (long_ends a b c d) o =
      one (length u) (line_length u + 1) b (λ t alike x n e k v f y. rw (c, e, k, drop-length) (rest_ends t alike day number b v u f d))
  onward (long_last a b c d e) o =
      one (length u) (length u) b (λ t alike x n i k. ends b e t (drop (length u) u) x n (rw (c, drop-length) (rest_last t alike day number b u d)) i k)
  onward (long_on a b c d e) o = by_pass (length u) (λ t alike v f y. rw (c, drop-length) (still t alike v f (ltb 0 (length u)) d))
  onward (lines a b c d) o = by_lines c
  onward (last a b c d e f) o =
      one 0 (length u) b (λ t alike x n i k. ends b e t u x n (rw c (rest_one t day number u b d f)) i k)
  onward (fills a b c d e f) o =
      by_pass (length u) (λ t alike v z y. let s : ltb 0 (length u) ≡ true = lt-ltb 0 (length u) (omega arith) in rw (c, drop-length, s) (rest_fills t alike v day number u z d (omega arith)))
  onward (waits a b c d e f) o = by_pass 0 (λ t alike v z y. rw c)
