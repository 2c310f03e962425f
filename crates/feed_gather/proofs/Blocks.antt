-- A block and a last line: what holds from turn to turn, and its steps. Assumes nothing.
use Prim.Native.Nat.{ℕ, ◌+◌, ◌-◌, ◌≤◌, ◌<◌}
use native.Mathlib.Omega.{arith}
use mathlib.Core.Path.{◌≡◌, refl, sym, ap, ◌∙◌}
use mathlib.Core.Bool.{Bool, true, false, ◌&&◌, not}
use mathlib.Core.List.{List, [], ◌∷◌}
use lib.Dec.{leb}
use lib.ListN.{length, take, drop, length-drop}
use lib.Seq.{take_all}
use borrow.Author.Tests.{leb-true, not-true, not-false, lt-ltb, le-ltb}
use Rattle.text.specs.Pick.{pick}
use Rattle.text.proofs.Texts.{and_left, and_right}
use Rattle.text.proofs.Writing.{written_nothing, length_put}
use Rattle.rules.specs.declared.Settings.{Settings}
use Rattle.feed_blocks.specs.Lines.{line_end, Cut}
use Rattle.feed_gather.specs.Gather.{last_line, Program, Progress, started, nothing_read, line_taken, room_left, lines_taken, block_taken, lines_from, Stands, Steps, Here}
use Rattle.feed_gather.specs.declared.Fed.{Fed}
use Rattle.feed_blocks.proofs.Cuts.{cut_none, next_line}

-- ---- the equations of `lines_taken`

module _ (g : Program) (out err : ℕ) where
  module _ (l : List ℕ) (ls : List (List ℕ)) (p : Progress) where
    pub taken_on : room_left g out err (length p.out) (length p.err) p.number ≡ true → lines_taken g out err (l ∷ ls) p ≡ lines_taken g out err ls (line_taken g out l p)
    unfolding lines_taken
    taken_on e = rw (e, lines_taken)

    pub taken_off : room_left g out err (length p.out) (length p.err) p.number ≡ false → lines_taken g out err (l ∷ ls) p ≡ p
    unfolding lines_taken
    taken_off e = rw (e, lines_taken)

  pub taken_none : (p : Progress) → lines_taken g out err [] p ≡ p
  unfolding lines_taken
  taken_none p = refl

-- ---- what the test of the room says, where it let a line through

module _ (g : Program) (out err n k number : ℕ) (h : room_left g out err n k number ≡ true) where
  pub room_out : g.out_most ≤ out - n
  unfolding room_left
  room_out = leb-true g.out_most (out - n) (and_left (leb g.out_most (out - n)) _ h)

  pub room_err : g.err_most ≤ err - k
  unfolding room_left
  room_err = leb-true g.err_most (err - k) (and_left (leb g.err_most (err - k)) _ (and_right (leb g.out_most (out - n)) _ h))

  pub room_number : number ≤ last_line
  unfolding room_left
  room_number = leb-true number last_line (and_right (leb g.err_most (err - k)) _ (and_right (leb g.out_most (out - n)) _ h))

-- as the code has it: `t` is the answer of the test of the room
module _ (g : Program) (out err n k number : ℕ) (t : Bool) where
  pub room_is : t ≡ (leb g.out_most (out - n) && (leb g.err_most (err - k) && leb number last_line)) → t ≡ room_left g out err n k number
  unfolding room_left
  room_is e = e

  module _ (tells : t ≡ room_left g out err n k number) (room : not t ≡ false) where
    pub here_out : g.out_most ≤ out - n
    here_out = room_out g out err n k number (sym tells ∙ not-false t room)

    pub here_err : g.err_most ≤ err - k
    here_err = room_err g out err n k number (sym tells ∙ not-false t room)

    pub here_number : number ≤ last_line
    here_number = room_number g out err n k number (sym tells ∙ not-false t room)

-- ---- the lines ahead of a place

module _ (block : List ℕ) (at end : ℕ) (is : end ≡ line_end block at) where
  pub from_to : at ≤ end
  unfolding line_end
  from_to = omega arith

  pub line_then : end < length block → lines_from false block at ≡ take (end - at) (drop at block) ∷ lines_from false block (end + 1)
  unfolding lines_from
  line_then more = next_line block at end is (omega (arith, from_to)) more

  no_feed : length block ≤ end → lines_from false block at ≡ []
  unfolding lines_from line_end
  no_feed l = ap (λ (c : Cut). c.ended) (cut_none (drop at block) (omega (arith, length-drop at block)))

pub last_whole : (line : List ℕ) → lines_from true line 0 ≡ line ∷ []
unfolding lines_from pick
last_whole line = rw (le-ltb (length line) 0 (omega arith))

module _ (line : List ℕ) (at : ℕ) where
  pub last_then : at ≤ length line → lines_from true line at ≡ take (length line - at) (drop at line) ∷ lines_from true line (length line + 1)
  unfolding lines_from pick
  last_then l = rw (le-ltb (length line) at l, lt-ltb (length line) (length line + 1) (omega arith), take_all (length line - at) (drop at line) (omega (arith, length-drop at line)))

  pub last_read : length line < at → lines_from true line at ≡ []
  unfolding lines_from pick
  last_read l = rw (lt-ltb (length line) at l)

-- ---- wherever the reading stands

module _ {out₀ err₀ table names out err : List ℕ} {p : Progress} {f : Fed} (s : Stands out₀ err₀ p table names out err f) where
  pub out_length : length out ≡ length out₀
  out_length = ap length s.out_is.tape ∙ length_put p.out out₀ (omega (arith, s.out_is.count_is, s.out_is.within))

  pub err_length : length err ≡ length err₀
  err_length = ap length s.err_is.tape ∙ length_put p.err err₀ (omega (arith, s.err_is.count_is, s.err_is.within))

  -- the test of the room, on what the code counts
  room_same : (g : Program) → room_left g (length out) (length err) f.out f.err f.number ≡ room_left g (length out₀) (length err₀) (length p.out) (length p.err) p.number
  room_same g = rw (out_length, err_length, s.out_is.count_is, s.err_is.count_is, s.number_is)

module _ {g : Program} {last : Bool} {block out₀ err₀ : List ℕ} {goal : Progress} {table names out err : List ℕ} {f : Fed} (h : Here g last block out₀ err₀ goal table names out err f) where
  leads : (ls : List (List ℕ)) → lines_from last block f.at ≡ ls → lines_taken g (length out₀) (length err₀) ls h.p ≡ goal
  leads ls e = ap (λ (x : List (List ℕ)). lines_taken g (length out₀) (length err₀) x h.p) (sym e) ∙ h.onward

  -- no line is ahead
  pub none_ahead : lines_from last block f.at ≡ [] → Stands out₀ err₀ goal table names out err f
  none_ahead e =
      let is : h.p ≡ goal = sym (taken_none g (length out₀) (length err₀) h.p) ∙ leads [] e in
      rw (← is) h.stands

  module _ (l : List ℕ) (ls : List (List ℕ)) (e : lines_from last block f.at ≡ l ∷ ls) where
    -- a line is ahead, and there is no room for it
    pub no_room : room_left g (length out) (length err) f.out f.err f.number ≡ false → Stands out₀ err₀ goal table names out err f
    no_room room =
        let is : h.p ≡ goal = sym (taken_off g (length out₀) (length err₀) l ls h.p (sym (room_same h.stands g) ∙ room)) ∙ leads (l ∷ ls) e in
        rw (← is) h.stands

    -- there is, and it was taken
    pub here_next : room_left g (length out) (length err) f.out f.err f.number ≡ true → (table' names' out' err' : List ℕ) (r : Fed)
        → Steps g l table names out err f table' names' out' err' r → lines_from last block r.at ≡ ls → Here g last block out₀ err₀ goal table' names' out' err' r
    here_next room table' names' out' err' r w past =
        record {
          p = line_taken g (length out₀) l h.p;
          stands = w out₀ err₀ h.p h.stands;
          onward = rw past (sym (taken_on g (length out₀) (length err₀) l ls h.p (sym (room_same h.stands g) ∙ room)) ∙ leads (l ∷ ls) e);
        }

-- where a reading starts
pub here_start : (g : Program) (last : Bool) (block : List ℕ) (st : Settings) (table names out err : List ℕ) (number : ℕ)
    → Here g last block out err (lines_taken g (length out) (length err) (lines_from last block 0) (started st table names number)) table names out err (record { settings = st; number = number; at = 0; out = 0; err = 0 })
here_start g last block st table names out err number =
    record {
      p = started st table names number;
      stands = record { settings_is = refl; number_is = refl; at_is = refl; table_is = refl; names_is = refl; out_is = written_nothing out; err_is = written_nothing err };
      onward = refl;
    }

-- ---- a block, from turn to turn: the reading stands somewhere, and going on from there leads where the whole block leads

pub record Turn (g : Program) (block out₀ err₀ : List ℕ) (goal : Progress) (table names out err : List ℕ) (f : Fed) : Type 0 where
  pub here : Here g false block out₀ err₀ goal table names out err f
  pub out_in : f.out ≤ length out
  pub err_in : f.err ≤ length err
  pub out_same : length out ≡ length out₀
  pub err_same : length err ≡ length err₀

pub turn_of : {g : Program} {block out₀ err₀ : List ℕ} {goal : Progress} {table names out err : List ℕ} {f : Fed} → Here g false block out₀ err₀ goal table names out err f → Turn g block out₀ err₀ goal table names out err f
turn_of h =
    let s = h.stands in
    record { here = h; out_in = omega (arith, out_length s, s.out_is.within); err_in = omega (arith, err_length s, s.err_is.within); out_same = out_length s; err_same = err_length s }

pub turn_start : (g : Program) (block : List ℕ) (st : Settings) (table names out err : List ℕ) (number : ℕ)
    → Turn g block out err (block_taken g (length out) (length err) block (started st table names number)) table names out err (record { settings = st; number = number; at = 0; out = 0; err = 0 })
unfolding block_taken lines_from
turn_start g block st table names out err number = turn_of (here_start g false block st table names out err number)

pub turn_less : (block : List ℕ) (at from end next : ℕ) → at ≤ from → end ≡ line_end block from → end < length block → next ≡ end + 1 → length block - next < length block - at
turn_less block at from end next l is more past = omega (arith, from_to block from end is)

module _ {g : Program} {block out₀ err₀ : List ℕ} {goal : Progress} {table names out err : List ℕ} {f : Fed} (h : Turn g block out₀ err₀ goal table names out err f) where
  -- all is read
  pub turn_end : length block ≤ f.at → Stands out₀ err₀ goal table names out err f
  turn_end l = none_ahead h.here (no_feed block f.at (line_end block f.at) refl (omega (arith, from_to block f.at (line_end block f.at) refl)))

  module _ {end : ℕ} (is : end ≡ line_end block f.at) where
    -- no line feed is left
    pub turn_none : length block ≤ end → Stands out₀ err₀ goal table names out err f
    turn_none l = none_ahead h.here (no_feed block f.at end is l)

    module _ (more : end < length block) {t : Bool} (tells : t ≡ room_left g (length out) (length err) f.out f.err f.number) where
      -- no room for the line that it ends
      pub turn_stop : not t ≡ true → Stands out₀ err₀ goal table names out err f
      turn_stop e = no_room h.here _ _ (line_then block f.at end is more) (sym tells ∙ not-true t e)

      module _ (room : not t ≡ false) {table' names' out' err' : List ℕ} {r : Fed} (s : Steps g (take (end - f.at) (drop f.at block)) table names out err f table' names' out' err' r) (past : r.at ≡ end + 1) where
        pub turn_on : Turn g block out₀ err₀ goal table' names' out' err' r
        turn_on = turn_of (here_next h.here _ _ (line_then block f.at end is more) (sym tells ∙ not-false t room) table' names' out' err' r s (ap (lines_from false block) past))

-- ---- one line that no line feed ends

module _ (g : Program) (st : Settings) (line table names out err : List ℕ) (number : ℕ) where
  abbrev pub last_goal : Progress
  last_goal = lines_taken g (length out) (length err) (line ∷ []) (started st table names number)

  pub last_start : Here g true line out err last_goal table names out err (record { settings = st; number = number; at = 0; out = 0; err = 0 })
  last_start = rw (last_whole line) at (here_start g true line st table names out err number)

module _ {g : Program} {line out₀ err₀ : List ℕ} {goal : Progress} {table names out err : List ℕ} {f : Fed} (h : Here g true line out₀ err₀ goal table names out err f) where
  -- its end is read
  pub last_over : length line < f.at → Stands out₀ err₀ goal table names out err f
  last_over l = none_ahead h (last_read line f.at l)

  module _ (left : f.at ≤ length line) {t : Bool} (tells : t ≡ room_left g (length out) (length err) f.out f.err f.number) where
    pub last_stop : not t ≡ true → Stands out₀ err₀ goal table names out err f
    last_stop e = no_room h _ _ (last_then line f.at left) (sym tells ∙ not-true t e)

    pub last_on : not t ≡ false → (table' names' out' err' : List ℕ) (r : Fed) → Steps g (take (length line - f.at) (drop f.at line)) table names out err f table' names' out' err' r → r.at ≡ length line + 1
        → Stands out₀ err₀ goal table' names' out' err' r
    last_on e table' names' out' err' r s past =
        none_ahead (here_next h _ _ (last_then line f.at left) (sym tells ∙ not-false t e) table' names' out' err' r s (ap (lines_from true line) past)) (last_read line r.at (omega arith))

-- a last line that is taken at once: nothing is read before, `t` is the answer of the test of the room
module _ (g : Program) (st : Settings) (line table names out err : List ℕ) (number : ℕ) (f : Fed) (is : f ≡ nothing_read st number) (t : Bool) (tells : t ≡ (leb g.out_most (length out - f.out) && (leb g.err_most (length err - f.err) && leb f.number last_line))) where
  alone : Here g true line out err (last_goal g st line table names out err number) table names out err f
  alone = rw is (last_start g st line table names out err number)

  at_front : f.at ≤ length line
  at_front = rw is (omega arith)

  pub alone_stop : not t ≡ true → Stands out err (last_goal g st line table names out err number) table names out err f
  alone_stop e = last_stop alone at_front (room_is g (length out) (length err) f.out f.err f.number t tells) e

  pub alone_on : not t ≡ false → (table' names' out' err' : List ℕ) (r : Fed) → Steps g (take (length line - f.at) (drop f.at line)) table names out err f table' names' out' err' r → r.at ≡ length line + 1
      → Stands out err (last_goal g st line table names out err number) table' names' out' err' r
  alone_on e table' names' out' err' r s past = last_on alone at_front (room_is g (length out) (length err) f.out f.err f.number t tells) e table' names' out' err' r s past
