-- A program's turn: a read, and a step behind it. Assumes nothing.
use Prim.Native.Nat.{ℕ, ◌≤◌}
use native.Mathlib.Omega.{arith}
use mathlib.Core.Path.{◌≡◌, ap}
use mathlib.Core.List.{List}
use lib.ListN.{length}
use Rattle.text.proofs.Writing.{length_put}
use Rattle.feed_input.specs.declared.Place.{Place}
use Rattle.feed_input.specs.Place.{Answer, Within, taken_in}
use Rattle.feed_input.specs.Answers.{Answers}
use Rattle.feed_input.proofs.Held.{in_within}
use Rattle.read_tape.specs.Tape.{Line}
use Rattle.read_step.specs.declared.Standing.{Standing}
use Rattle.read_step.specs.declared.Stepped.{Stepped}
use Rattle.read_step.specs.Step.{opened, Step, step_of, Leads, Steps}
use Rattle.read_step.specs.Session.{Turn}
use Rattle.read_step.proofs.How.{How, fails, halts, moves, how, moved_size, moved_within}

pub opened_within : (s : Standing) (size : ℕ) → s ≡ opened → Within s.place size
opened_within s size e = rw e (record { from_to = omega arith; to_end = omega arith })

module _ {line : Line} {most : ℕ} {s : Standing} {block lines block' lines' : List ℕ} {z : Answer} {r : Stepped} (st : Steps line most s z block lines block' lines' r) where
  abbrev p : Place
  p = taken_in s.place z (length block)

  step_by : (x : Step) → How line most p s.at block (length lines) x → Leads x lines block' lines' r → Within r.standing.place (length block')
  step_by x (fails f) w = rw (ap (λ y. y.place) w.standing_is, w.block_is) (in_within s.place z (length block))
  step_by x (halts f l) w = rw (ap (λ y. y.place) w.standing_is, w.block_is) (in_within s.place z (length block))
  step_by x (moves f l) w =
      rw (ap (λ y. y.place) w.standing_is, w.block_is, moved_size line most p s.at block (length lines) (in_within s.place z (length block)))
      (moved_within line most p s.at block (length lines) (in_within s.place z (length block)))

  -- where it leads lies within the block
  pub step_within : Within r.standing.place (length block')
  unfolding step_of
  step_within = step_by _ (how line most p s.at block (length lines)) st.leads

  -- what is to be written lies in the lines
  pub step_count : r.count ≤ length lines'
  step_count =
      let w = st.leads.text_is in
      omega (arith, ap length w.tape, length_put (step_of line most s z block (length lines)).text lines (omega (arith, w.count_is, w.within)), w.within)

-- a program's turn
pub turns_so : {line : Line} {most : ℕ} {s : Standing} {block bytes block' block'' lines lines' : List ℕ} {z : Answer} {r : Stepped} → Answers s.place block bytes z block' → Steps line most s z block' lines block'' lines' r → Turn line most s block lines block'' lines' r
turns_so {bytes = bytes} {block' = block'} {z = z} a st = record { bytes = bytes; answer = z; block' = block'; answers = a; steps = st; within = step_within st; count = step_count st }
