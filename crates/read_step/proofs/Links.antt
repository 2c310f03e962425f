-- One link of a session: a read, and the step behind it. Assumes nothing.
use Prim.Native.Nat.{ℕ, ◌+◌, ◌≤◌, ◌<◌}
use native.Mathlib.Omega.{arith}
use mathlib.Core.Path.{◌≡◌, sym, ap, ◌∙◌, subst}
use mathlib.Core.Bool.{Bool, true, false, true≢false}
use mathlib.Core.List.{List, []}
use lib.Dec.{eqb}
use lib.ListN.{length, take, drop, length-append, length-drop}
use Rattle.text.specs.Pick.{pick}
use Rattle.text.proofs.Parts.{front}
use Rattle.rules.specs.Sizes.{longest_print}
use Rattle.feed_input.specs.declared.Place.{Place}
use Rattle.feed_input.specs.Place.{Answer, held, taken_in}
use Rattle.feed_input.specs.Answers.{Answers}
use Rattle.feed_input.proofs.Held.{After, after_read}
use Rattle.read_tape.specs.Tape.{Line}
use Rattle.read_tape.specs.Block.{Progress}
use Rattle.read_tape.proofs.LookAhead.{block_within}
use Rattle.read_step.specs.declared.Standing.{Standing}
use Rattle.read_step.specs.declared.Stepped.{Stepped}
use Rattle.read_step.specs.Step.{Step, step_of, Leads, Steps}
use Rattle.read_step.proofs.How.{Sound, reading, stops, moved, How, fails, halts, moves, how, moved_held, moved_size, moved_ended, moved_asks, moved_sound, moved_room}

module _ {line : Line} {most : ℕ} {s : Standing} {block bytes block' block'' lines lines' : List ℕ} {answer : Answer} {r : Stepped} (g : Sound s.place (length block)) (a : Answers s.place block bytes answer block') (st : Steps line most s answer block' lines block'' lines' r) where
  -- the place that the read left, and the reading of what is held then
  abbrev pub place : Place
  place = taken_in s.place answer (length block')

  abbrev pub told : Progress
  told = reading line most place s.at block' (length lines)

  abbrev pub closes : Bool
  closes = stops line most place s.at block' (length lines)

  -- what the read left
  pub after : After s.place block bytes block' place
  after =
      let w = after_read g.within a in
      subst (λ m. After s.place block bytes block' (taken_in s.place answer m)) (sym w.size) w

  -- how many bytes are held then, and the reading stays within them
  pub held_count : length (held place block') ≡ length (held s.place block) + length bytes
  held_count = ap length after.held_is ∙ length-append (held s.place block) bytes

  pub told_within : told.at ≤ length (held place block')
  told_within = block_within line most (length lines) (held place block') s.at place.ended

  ways : How line most place s.at block' (length lines) (step_of line most s answer block' (length lines))
  unfolding step_of
  ways = how line most place s.at block' (length lines)

  -- it goes on
  pub record Goes : Type 0 where
    pub sound : Sound r.standing.place (length block'')
    pub size : length block'' ≡ length block'
    pub unfailed : place.failed ≡ false
    pub still : closes ≡ false
    pub at_is : r.standing.at ≡ s.at + told.at
    pub held_is : held r.standing.place block'' ≡ drop told.at (held place block')
    pub ended_is : r.standing.place.ended ≡ place.ended
    pub asks_is : r.standing.place.asks ≡ eqb told.at 0
    pub text_is : take r.count lines' ≡ told.text
    pub room : longest_print ≤ length block → most ≤ length lines → r.standing.place.asks ≡ true → r.standing.place.have < length block''

  goes_by : (x : Step) → How line most place s.at block' (length lines) x → Leads x lines block'' lines' r → r.over ≡ false → Goes
  goes_by x (fails f) w o = absurd (true≢false (sym w.over_is ∙ o))
  goes_by x (halts f l) w o = absurd (true≢false (sym w.over_is ∙ o))
  goes_by x (moves f l) w o =
      let m : Step = moved line most place s.at block' (length lines) in
      let p_is : r.standing.place ≡ m.standing.place = ap (λ y. y.place) w.standing_is in
      record {
        sound = rw (p_is, w.block_is) (moved_sound line most place s.at block' (length lines) after.within f l);
        size = rw w.block_is (moved_size line most place s.at block' (length lines) after.within);
        unfailed = f;
        still = l;
        at_is = ap (λ y. y.at) w.standing_is;
        held_is = rw (p_is, w.block_is) (moved_held line most place s.at block' (length lines) after.within);
        ended_is = rw p_is (moved_ended line most place s.at block' (length lines) after.within);
        asks_is = rw p_is (moved_asks line most place s.at block' (length lines) after.within);
        text_is = front w.text_is;
        room = λ b z. rw (p_is, w.block_is) (moved_room line most place s.at block' (length lines) after.within (omega (arith, after.size)) z l);
      }

  pub goes : r.over ≡ false → Goes
  goes o = goes_by _ ways st.leads o

  -- what is held behind it
  pub left_count : Goes → length (held r.standing.place block'') + told.at ≡ length (held s.place block) + length bytes
  left_count w = omega (arith, ap length w.held_is, length-drop told.at (held place block'), told_within, held_count)

  -- it was the last
  pub record Ends : Type 0 where
    pub place_is : r.standing.place ≡ place
    pub at_is : r.standing.at ≡ s.at
    pub text_is : take r.count lines' ≡ pick place.failed [] told.text
    pub over : place.failed ≡ false → closes ≡ true

  ends_by : (x : Step) → How line most place s.at block' (length lines) x → Leads x lines block'' lines' r → r.over ≡ true → Ends
  unfolding pick
  ends_by x (fails f) w o =
      record {
        place_is = ap (λ y. y.place) w.standing_is;
        at_is = ap (λ y. y.at) w.standing_is;
        text_is = front w.text_is ∙ ap (λ b. pick b [] told.text) (sym f);
        over = λ e. absurd (true≢false (sym f ∙ e));
      }
  ends_by x (halts f l) w o =
      record {
        place_is = ap (λ y. y.place) w.standing_is;
        at_is = ap (λ y. y.at) w.standing_is;
        text_is = front w.text_is ∙ ap (λ b. pick b [] told.text) (sym f);
        over = λ e. l;
      }
  ends_by x (moves f l) w o = absurd (true≢false (sym o ∙ w.over_is))

  pub ends : r.over ≡ true → Ends
  ends o = ends_by _ ways st.leads o
