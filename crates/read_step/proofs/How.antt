-- The ways of a step from the place that a read left: a read failed, it was the last, or it goes on. Assumes nothing.
use Prim.Native.Nat.{ℕ, ◌+◌, ◌≤◌, ◌<◌}
use native.Mathlib.Omega.{arith}
use mathlib.Core.Path.{◌≡◌, refl, sym, ap, ◌∙◌, subst}
use mathlib.Core.Bool.{Bool, true, false, true≢false}
use mathlib.Core.List.{List}
use lib.Dec.{eqb}
use lib.ListN.{length, drop}
use borrow.Author.Tests.{eqb-true}
use Rattle.text.specs.Pick.{pick}
use Rattle.rules.specs.Sizes.{longest_print}
use Rattle.feed_input.specs.declared.Place.{Place}
use Rattle.feed_input.specs.Place.{Within, held, gone_on, block_on}
use Rattle.feed_input.proofs.Held.{length_held, held_on, size_on, within_on, asks_on, ended_on, failed_on}
use Rattle.read_tape.specs.Tape.{Line}
use Rattle.read_tape.specs.Block.{Progress, may_read, block_read}
use Rattle.read_tape.proofs.LookAhead.{may_not, may_none, block_within, block_moves}
use Rattle.read_step.specs.Step.{is_over, standing_on, block_over, Step, failing, telling, step_from}
use Rattle.read_step.proofs.Ways.{not_over}

-- nothing was read, and it goes on: the input is not at its end
pub not_ended : (going : Bool) (n : ℕ) (ended : Bool) → is_over going n ended ≡ false → eqb n 0 ≡ true → ended ≡ false
unfolding is_over pick
not_ended true n ended h z = let e : pick (eqb n 0) ended false ≡ false = h in rw z at e
not_ended false n ended h z = absurd (true≢false h)

-- the last, though the reading would go on: nothing was read, and the input is at its end
pub over_why : (n : ℕ) (ended : Bool) → is_over true n ended ≡ true → (n ≡ 0) × (ended ≡ true)
unfolding is_over pick
over_why n ended h = go (eqb n 0) refl h
  where
    go : (b : Bool) → eqb n 0 ≡ b → pick b ended false ≡ true → (n ≡ 0) × (ended ≡ true)
    go true e k = (eqb-true n 0 e, k)
    go false e k = absurd (true≢false (sym k))

-- where a program stands that has not failed and may go on: what is held is within the block, and no read is asked for at the input's end
pub record Sound (p : Place) (size : ℕ) : Type 0 where
  pub within : Within p size
  pub more : p.asks ≡ true → p.ended ≡ false
  pub unfailed : p.failed ≡ false

module _ (line : Line) (most : ℕ) (p : Place) (at : ℕ) (block : List ℕ) (room : ℕ) where
  -- the reading of what is held
  abbrev pub reading : Progress
  reading = block_read line most room (held p block) at p.ended

  abbrev pub stops : Bool
  stops = is_over reading.going reading.at p.ended

  abbrev pub halted : Step
  halted = record { standing = record { place = p; at = at }; text = reading.text; over = true; block = block }

  abbrev pub moved : Step
  moved = record { standing = record { place = gone_on (eqb reading.at 0) p reading.at; at = at + reading.at }; text = reading.text; over = false; block = block_on (eqb reading.at 0) p reading.at block }

  -- the three ways
  pub data How : Step → Type 0 where
    fails : p.failed ≡ true → How (failing p at block)
    halts : p.failed ≡ false → stops ≡ true → How halted
    moves : p.failed ≡ false → stops ≡ false → How moved

  is_failing : p.failed ≡ true → step_from line most p at block room ≡ failing p at block
  unfolding step_from pick
  is_failing e = ap (λ f. pick f (failing p at block) (telling p at block reading)) e

  is_telling : p.failed ≡ false → step_from line most p at block room ≡ telling p at block reading
  unfolding step_from pick
  is_telling e = ap (λ f. pick f (failing p at block) (telling p at block reading)) e

  abbrev by : Bool → Step
  by o = record { standing = standing_on o p at reading.at; text = reading.text; over = o; block = block_over o p reading.at block }

  is_halted : stops ≡ true → telling p at block reading ≡ halted
  unfolding standing_on block_over pick
  is_halted e = ap by e

  is_moved : stops ≡ false → telling p at block reading ≡ moved
  unfolding standing_on block_over pick
  is_moved e = ap by e

  pub how : How (step_from line most p at block room)
  how = go p.failed refl stops refl
    where
      go : (f : Bool) → p.failed ≡ f → (o : Bool) → stops ≡ o → How (step_from line most p at block room)
      go true e o q = subst How (sym (is_failing e)) (fails e)
      go false e true q = subst How (sym (is_telling e ∙ is_halted q)) (halts e q)
      go false e false q = subst How (sym (is_telling e ∙ is_moved q)) (moves e q)

  module _ (w : Within p (length block)) where
    read_in : p.at + reading.at ≤ p.have
    read_in = omega (arith, block_within line most room (held p block) at p.ended, length_held p block w, w.from_to)

    pub moved_held : held moved.standing.place moved.block ≡ drop reading.at (held p block)
    moved_held = held_on p reading.at block w read_in (eqb reading.at 0)

    pub moved_size : length moved.block ≡ length block
    moved_size = size_on p reading.at block w read_in (eqb reading.at 0)

    pub moved_within : Within moved.standing.place (length block)
    moved_within = within_on p reading.at block w read_in (eqb reading.at 0)

    pub moved_ended : moved.standing.place.ended ≡ p.ended
    moved_ended = ended_on (eqb reading.at 0) p reading.at

    pub moved_asks : moved.standing.place.asks ≡ eqb reading.at 0
    moved_asks = asks_on (eqb reading.at 0) p reading.at

    pub moved_sound : p.failed ≡ false → stops ≡ false → Sound moved.standing.place (length moved.block)
    moved_sound f o =
        rw moved_size
        (record {
          within = moved_within;
          more = λ a. moved_ended ∙ not_ended reading.going reading.at p.ended o (sym moved_asks ∙ a);
          unfailed = failed_on (eqb reading.at 0) p reading.at ∙ f;
        })

    -- where a read is asked for, the block has room
    pub moved_room : longest_print ≤ length block → most ≤ room → stops ≡ false → moved.standing.place.asks ≡ true → moved.standing.place.have < length moved.block
    unfolding gone_on pick
    moved_room b r o a =
        let z : eqb reading.at 0 ≡ true = sym moved_asks ∙ a in
        let e : p.ended ≡ false = not_ended reading.going reading.at p.ended o z in
        let n : reading.at ≡ 0 = eqb-true reading.at 0 z in
        rw (moved_size, z) (omega (arith, w.from_to, few e n, length_held p block w))
      where
        few : p.ended ≡ false → reading.at ≡ 0 → length (held p block) < longest_print
        few e n = go (may_read most (length (held p block)) p.ended room) refl
          where
            go : (t : Bool) → may_read most (length (held p block)) p.ended room ≡ t → length (held p block) < longest_print
            go true q = absurd (omega (arith, n, block_moves line most room (held p block) at p.ended q (not_over reading.going reading.at p.ended o)))
            go false q = may_not most (length (held p block)) room r (ap (λ x. may_read most (length (held p block)) x room) (sym e) ∙ q)

    -- where it is the last at the input's end though it would go on, nothing is held
    pub halted_none : most ≤ room → stops ≡ true → reading.going ≡ true → length (held p block) ≡ 0
    halted_none r o g =
        let y = over_why reading.at p.ended (ap (λ x. is_over x reading.at p.ended) (sym g) ∙ o) in
        go y.0 y.1 (may_read most (length (held p block)) p.ended room) refl
      where
        go : reading.at ≡ 0 → p.ended ≡ true → (t : Bool) → may_read most (length (held p block)) p.ended room ≡ t → length (held p block) ≡ 0
        go n e true q = absurd (omega (arith, n, block_moves line most room (held p block) at p.ended q g))
        go n e false q = may_none most (length (held p block)) room r (ap (λ x. may_read most (length (held p block)) x room) (sym e) ∙ q)
