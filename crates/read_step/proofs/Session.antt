-- WHAT A SESSION WRITES: the lines of the tape that was read, however the reads cut it. Where a read failed, the first of these lines, and from the place that was reached on the others would follow. Assumes nothing.
use Prim.Native.Nat.{ℕ, ◌+◌, ◌-◌, ◌≤◌, ◌<◌}
use native.Mathlib.Omega.{arith}
use mathlib.Core.Path.{◌≡◌, refl, sym, ap, ◌∙◌}
use mathlib.Core.Bool.{Bool, true, false, not, true≢false}
use mathlib.Core.List.{List, [], ◌∷◌, ◌++◌, append_assoc, append-nil}
use lib.ListN.{length, take, drop, length-append}
use lib.Seq.{drop-drop, drop-nil, drop-append-le}
use Rattle.text.specs.Pick.{pick}
use Rattle.text.proofs.Booleans.{false_true}
use Rattle.rules.specs.Sizes.{longest_print}
use Rattle.feed_input.specs.declared.Place.{Place}
use Rattle.feed_input.specs.Place.{Answer, held}
use Rattle.feed_input.specs.Answers.{Answers}
use Rattle.feed_input.specs.Answers.Answers.{unasked, came, fails}
use Rattle.read_tape.specs.Tape.{Line, Tells, place_line, read_from, read_text}
use Rattle.read_tape.specs.Block.{Progress}
use Rattle.read_tape.proofs.One.{places_told}
use Rattle.read_tape.proofs.LookAhead.{read_none, block_reads}
use Rattle.read_step.specs.declared.Standing.{Standing}
use Rattle.read_step.specs.declared.Stepped.{Stepped}
use Rattle.read_step.specs.Step.{opened, is_over, Steps}
use Rattle.read_step.specs.Session.{Session, next, last, final, HasRoom}
use Rattle.read_step.proofs.Ways.{not_over}
use Rattle.read_step.proofs.How.{Sound, over_why, halted_none}
use Rattle.read_step.proofs.Links as link

empty : (l : List ℕ) → length l ≡ 0 → l ≡ []
empty [] h = refl
empty (c ∷ l) h = absurd (omega arith)

-- ---- at the input's end

pub none_asked : {p : Place} {block bytes block' : List ℕ} {z : Answer} → p.asks ≡ false → Answers p block bytes z block' → bytes ≡ []
none_asked e (unasked z q) = refl
none_asked e (came q k l c) = absurd (false_true (sym e ∙ q))
none_asked e (fails code q k) = refl

asks_not : (p : Place) (size : ℕ) → Sound p size → p.ended ≡ true → p.asks ≡ false
asks_not p size g e = go p.asks refl
  where
    go : (b : Bool) → p.asks ≡ b → p.asks ≡ false
    go true q = absurd (true≢false (sym e ∙ g.more q))
    go false q = q

-- nothing more comes, and no read can fail
pub record Quiet {line : Line} {most : ℕ} {s : Standing} {block input output : List ℕ} {whole : Bool} (x : Session line most s block input whole output) : Type 0 where
  pub none : input ≡ []
  pub unbroken : whole ≡ true
  pub at_end : (final x).place.ended ≡ true

pub quiet : {line : Line} {most : ℕ} {s : Standing} {block input output : List ℕ} {whole : Bool} → Sound s.place (length block) → s.place.ended ≡ true → (x : Session line most s block input whole output) → Quiet x
unfolding final
quiet {s = s} {block = block} g e (next z a st o x) =
    let q : s.place.asks ≡ false = asks_not s.place (length block) g e in
    let w = link.goes g a st o in
    let y = quiet w.sound (w.ended_is ∙ (((link.after g a st).quiet q).0 ∙ e)) x in
    record { none = rw (none_asked q a, y.none); unbroken = y.unbroken; at_end = y.at_end }
quiet {s = s} {block = block} g e (last {r = r} z a st o) =
    let q : s.place.asks ≡ false = asks_not s.place (length block) g e in
    let w = link.ends g a st o in
    let y = (link.after g a st).quiet q in
    record {
      none = none_asked q a;
      unbroken = ap (λ p. not p.failed) w.place_is ∙ ap not (y.1 ∙ g.unfailed);
      at_end = ap (λ p. p.ended) w.place_is ∙ (y.0 ∙ e);
    }

-- ---- what is written, and what is yet to come

-- of the rest `u` of a tape from a place on: the output, and where a read failed, what would follow
abbrev pub Writes : Line → List ℕ → ℕ → List ℕ → Bool → ℕ → Type 0
Writes line u at output whole to = read_from line u at ≡ output ++ pick whole [] (read_from line (drop (to - at) u) to)

-- the place reached lies behind the place of the start, and within what was read
pub record Reaches (at to n : ℕ) : Type 0 where
  pub further : at ≤ to
  pub within : to ≤ at + n

pub reaches : {line : Line} {most : ℕ} {s : Standing} {block input output : List ℕ} {whole : Bool} → Sound s.place (length block) → (x : Session line most s block input whole output) → Reaches s.at (final x).at (length (held s.place block) + length input)
unfolding final
reaches g (next {bytes = bytes} {input = input} z a st o x) =
    let w = link.goes g a st o in
    let y = reaches w.sound x in
    record {
      further = omega (arith, y.further, w.at_is);
      within = omega (arith, y.within, w.at_is, link.left_count g a st w, length-append bytes input);
    }
reaches g (last z a st o) = let w = link.ends g a st o in record { further = omega (arith, w.at_is); within = omega (arith, w.at_is) }

-- one link: its text, and what is written from where it leads
module _ {line : Line} {most : ℕ} (tells : Tells line most) {s : Standing} {block bytes block' block'' lines lines' : List ℕ} {answer : Answer} {r : Stepped} (g : Sound s.place (length block)) (a : Answers s.place block bytes answer block') (st : Steps line most s answer block' lines block'' lines' r) where
  abbrev b : Progress
  b = link.told g a st

  abbrev u : List ℕ
  u = held (link.place g a st) block'

  -- what was held, then what came
  joined : (f : List ℕ) → held s.place block ++ (bytes ++ f) ≡ u ++ f
  joined f = rw (link.after g a st).held_is (sym (append_assoc (held s.place block) bytes f))

  -- a read failed
  module _ (f : List ℕ) (o : r.over ≡ true) (broken : (link.place g a st).failed ≡ true) where
    writes_failed : Writes line (u ++ f) s.at (take r.count lines') false r.standing.at
    unfolding pick
    writes_failed =
        let w = link.ends g a st o in
        let z : s.at - s.at ≡ 0 = omega arith in
        rw (w.text_is, broken, w.at_is, z)

  -- none failed; `f` follows what was read, nothing where the input is at its end
  module _ (f : List ℕ) (alone : (link.place g a st).ended ≡ true → f ≡ []) where
    reads : read_from line (u ++ f) s.at ≡ b.text ++ pick b.going (read_from line (drop b.at (u ++ f)) (s.at + b.at)) []
    reads = block_reads line most tells u f s.at (link.place g a st).ended alone (length lines)

    -- the last step
    module _ (o : r.over ≡ true) (unbroken : (link.place g a st).failed ≡ false) (z : most ≤ length lines) where
      nothing_left : (going : Bool) → b.going ≡ going → pick b.going (read_from line (drop b.at (u ++ f)) (s.at + b.at)) [] ≡ []
      unfolding pick
      nothing_left false e = rw e
      nothing_left true e =
          let l : link.closes g a st ≡ true = (link.ends g a st o).over unbroken in
          let y = over_why b.at (link.place g a st).ended (ap (λ x. is_over x b.at (link.place g a st).ended) (sym e) ∙ l) in
          let n : u ≡ [] = empty u (halted_none line most (link.place g a st) s.at block' (length lines) (link.after g a st).within z l e) in
          rw e (ap (λ l. read_from line (drop b.at l) (s.at + b.at)) (ap (λ l. l ++ f) n ∙ alone y.1) ∙ (ap (λ l. read_from line l (s.at + b.at)) (drop-nil b.at) ∙ read_none line [] (s.at + b.at) refl))

      writes_last : Writes line (u ++ f) s.at (take r.count lines') true r.standing.at
      unfolding pick
      writes_last = reads ∙ rw (nothing_left b.going refl, (link.ends g a st o).text_is, unbroken)

    -- it goes on
    module _ (o : r.over ≡ false) where
      abbrev w : link.Goes g a st
      w = link.goes g a st o

      on : read_from line (u ++ f) s.at ≡ take r.count lines' ++ read_from line (held r.standing.place block'' ++ f) r.standing.at
      unfolding pick
      on =
          reads
          ∙ (ap (λ q. b.text ++ pick q (read_from line (drop b.at (u ++ f)) (s.at + b.at)) []) (not_over b.going b.at (link.place g a st).ended w.still)
          ∙ rw (w.text_is, w.held_is, w.at_is, drop-append-le b.at u f (link.told_within g a st)))

      left_is : (to : ℕ) → r.standing.at ≤ to → drop (to - r.standing.at) (held r.standing.place block'' ++ f) ≡ drop (to - s.at) (u ++ f)
      left_is to l =
          ap (λ l. drop (to - r.standing.at) (l ++ f)) w.held_is
          ∙ (ap (drop (to - r.standing.at)) (sym (drop-append-le b.at u f (link.told_within g a st)))
          ∙ (drop-drop (to - r.standing.at) b.at (u ++ f)
          ∙ ap (λ n. drop n (u ++ f)) (let n : b.at + (to - r.standing.at) ≡ to - s.at = omega (arith, w.at_is, l) in n)))

      writes_on : (output : List ℕ) (whole : Bool) (to : ℕ) → r.standing.at ≤ to → Writes line (held r.standing.place block'' ++ f) r.standing.at output whole to → Writes line (u ++ f) s.at (take r.count lines' ++ output) whole to
      writes_on output whole to l h =
          on ∙ (ap (λ l. take r.count lines' ++ l) (h ∙ ap (λ l. output ++ pick whole [] (read_from line l to)) (left_is to l)) ∙ sym (append_assoc (take r.count lines') output _))

-- FROM WHEREVER IT STANDS, whatever `t` follows what was read: nothing where it is whole and came to the input's end
pub writes : {line : Line} {most : ℕ} → Tells line most → {s : Standing} {block input output : List ℕ} {whole : Bool} → Sound s.place (length block) → (x : Session line most s block input whole output) (t : List ℕ) → (whole ≡ true → (final x).place.ended ≡ true → t ≡ []) → Writes line (held s.place block ++ (input ++ t)) s.at output whole (final x).at
unfolding final
writes tells g (next {bytes = bytes} {input = input} {output = output} {whole = whole} z a st o x) t alone =
    let w = link.goes g a st o in
    let still : (link.place g a st).ended ≡ true → input ++ t ≡ [] = λ e. let y = quiet w.sound (w.ended_is ∙ e) x in rw (y.none, alone y.unbroken y.at_end) in
    rw (append_assoc bytes input t, joined tells g a st (input ++ t))
    (writes_on tells g a st (input ++ t) still o output whole (final x).at (reaches w.sound x).further (writes tells w.sound x t alone))
writes {line = line} tells {s = s} g (last {block' = block'} {lines' = lines'} {r = r} z a st o) t alone =
    rw (joined tells g a st t)
    (go (link.place g a st).failed refl)
  where
    is : r.standing.place.failed ≡ (link.place g a st).failed
    is = ap (λ p. p.failed) (link.ends g a st o).place_is

    go : (f : Bool) → (link.place g a st).failed ≡ f → Writes line (held (link.place g a st) block' ++ t) s.at (take r.count lines') (not r.standing.place.failed) r.standing.at
    go true e = rw (is, e) (writes_failed tells g a st t o e)
    go false e = rw (is, e) (writes_last tells g a st t (λ q. alone (rw (is, e)) (ap (λ p. p.ended) (link.ends g a st o).place_is ∙ q)) o e z)

-- ---- from the start

abbrev pub start_sound : (size : ℕ) → Sound opened.place size
start_sound size = record { within = record { from_to = omega arith; to_end = omega arith }; more = λ a. refl; unfailed = refl }

module _ {line : Line} {most : ℕ} (tells : Tells line most) {block input output : List ℕ} where
  -- WHOLE: the output is the lines of the input, and of whatever follows it where the program stopped before the input's end
  pub session_whole : (x : Session line most opened block input true output) (t : List ℕ) → ((final x).place.ended ≡ true → t ≡ []) → read_from line (input ++ t) 0 ≡ output
  unfolding pick
  session_whole x t alone = writes tells (start_sound (length block)) x t (λ w. alone) ∙ append-nil output

  -- BROKEN OFF BY A FAILED READ: whatever would follow, the output is its first lines, and from the place reached on stand the others
  pub session_broken : (x : Session line most opened block input false output) (t : List ℕ) → read_from line (input ++ t) 0 ≡ output ++ read_from line (drop (final x).at (input ++ t)) (final x).at
  unfolding pick
  session_broken x t =
      let z : (final x).at - 0 ≡ (final x).at = omega arith in
      writes tells (start_sound (length block)) x t (λ w. absurd (false_true w)) ∙ ap (λ n. output ++ read_from line (drop n (input ++ t)) (final x).at) z

  -- the place reached is one of the input
  pub session_reaches : {whole : Bool} (x : Session line most opened block input whole output) → (final x).at ≤ length input
  session_reaches x = omega (arith, (reaches (start_sound (length block)) x).within)

-- wherever a read was asked for, there was room for a byte
has_room : {line : Line} {most : ℕ} {s : Standing} {block input output : List ℕ} {whole : Bool} → Sound s.place (length block) → longest_print ≤ length block → (s.place.asks ≡ true → s.place.have < length block) → (x : Session line most s block input whole output) → HasRoom x
unfolding HasRoom
has_room g b h (next z a st o x) = let w = link.goes g a st o in (h, has_room w.sound (omega (arith, w.size, (link.after g a st).size)) (w.room b z) x)
has_room g b h (last z a st o) = h

pub session_room : {line : Line} {most : ℕ} {block input output : List ℕ} {whole : Bool} → longest_print ≤ length block → (x : Session line most opened block input whole output) → HasRoom x
session_room {block = block} b x = has_room (start_sound (length block)) b (λ a. omega arith) x

-- THE READER'S PROGRAM
pub session_output : {block input output : List ℕ} → Session place_line 21 opened block input true output → output ≡ read_text input
unfolding read_text
session_output {input = input} {output = output} x = sym (ap (λ l. read_from place_line l 0) (sym (append-nil input)) ∙ session_whole places_told x [] (λ e. refl))
