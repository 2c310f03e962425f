-- The ways out of the functions. Assumes nothing.
use Prim.Native.Nat.{ℕ, ◌+◌, ◌≤◌}
use native.Mathlib.Omega.{arith}
use mathlib.Core.Path.{◌≡◌, refl, sym, ◌∙◌, subst}
use mathlib.Core.Bool.{Bool, true, false}
use mathlib.Core.List.{List}
use lib.ListN.{length}
use Rattle.text.specs.Pick.{pick}
use Rattle.text.proofs.Writing.{written_nothing}
use Rattle.feed_input.specs.declared.Place.{Place}
use Rattle.feed_input.specs.Place.{Answer, Within, held, taken_in}
use Rattle.feed_input.proofs.Held.{length_held, in_within}
use Rattle.read_tape.specs.declared.Reading.{Reading}
use Rattle.read_tape.specs.Tape.{Line}
use Rattle.read_tape.specs.Block.{block_read, Stands}
use Rattle.read_tape.proofs.LookAhead.{block_within, block_placed}
use Rattle.read_step.specs.declared.Standing.{Standing}
use Rattle.read_step.specs.declared.Stepped.{Stepped}
use Rattle.read_step.specs.Step.{is_over, failing, telling, step_from, step_of, Further, Steps}

-- ---- is_over

module _ (going : Bool) (n : ℕ) (ended : Bool) where
  pub not_over : is_over going n ended ≡ false → going ≡ true
  unfolding is_over pick
  not_over h = go going refl
    where
      go : (b : Bool) → going ≡ b → going ≡ true
      go true e = e
      go false e = absurd (let z : ◌≡◌ {A = ℕ} 0 1 = cc in omega arith)

-- ---- step

module _ (line : Line) (most : ℕ) (s : Standing) (z : Answer) (block lines : List ℕ) (p : Place) (taken : p ≡ taken_in s.place z (length block)) where
  within : Within p (length block)
  within = subst (λ q. Within q (length block)) (sym taken) (in_within s.place z (length block))

  pub part_from : p.at ≤ p.have
  part_from = within.from_to

  pub part_end : p.have ≤ length block
  part_end = within.to_end

  step_is : step_of line most s z block (length lines) ≡ step_from line most p s.at block (length lines)
  unfolding step_of
  step_is = rw (← taken)

  pub step_failed : p.failed ≡ true → Steps line most s z block lines block lines (record { standing = record { place = p; at = s.at }; count = 0; over = true })
  unfolding step_from pick
  step_failed f =
      let e : step_of line most s z block (length lines) ≡ failing p s.at block = step_is ∙ rw f in
      record { leads = rw e (record { standing_is = refl; over_is = refl; block_is = refl; text_is = written_nothing lines }) }

  -- whether or not the input is taken to be at its end
  module _ (e : Bool) (lines' : List ℕ) (r : Reading) (reads : Stands lines (block_read line most (length lines) (held p block) s.at e) lines' r) where
    pub read_in : p.at + r.at ≤ p.have
    read_in = omega (arith, reads.at_is, block_within line most (length lines) (held p block) s.at e, length_held p block within, within.from_to)

    pub read_placed : r.going ≡ true → s.at + r.at ≤ 9999999999
    read_placed g = omega (arith, reads.at_is, block_placed line most (length lines) (held p block) s.at e (sym reads.going_is ∙ g))

  module _ (lines' : List ℕ) (r : Reading) (reads : Stands lines (block_read line most (length lines) (held p block) s.at p.ended) lines' r) where
    pub step_told : p.failed ≡ false → (block' : List ℕ) (q : Stepped) → Further p s.at r block block' q → Steps line most s z block lines block' lines' q
    unfolding step_from pick
    step_told f block' q w =
        let e : step_of line most s z block (length lines) ≡ telling p s.at block (block_read line most (length lines) (held p block) s.at p.ended) = step_is ∙ rw f in
        record { leads = rw (e, ← reads.at_is, ← reads.going_is) (record { standing_is = w.standing_is; over_is = w.over_is; block_is = w.block_is; text_is = rw w.count_is reads.lines_are }) }
