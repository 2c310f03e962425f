-- A session is short: a step that asks for no read uses a byte or is followed by a read, and a read brings a byte or is the last. Assumes nothing.
use Prim.Native.Nat.{ℕ, ◌+◌, ◌*◌, ◌≤◌, ◌<◌}
use native.Mathlib.Omega.{arith}
use mathlib.Core.Path.{◌≡◌, refl, sym, ap, ◌∙◌}
use mathlib.Core.Bool.{Bool, true, false, true≢false}
use mathlib.Core.List.{List, ◌++◌}
use lib.Dec.{eqb}
use lib.ListN.{length, length-append}
use borrow.Author.Tests.{eqb-false}
use Rattle.text.proofs.Booleans.{nonzero}
use Rattle.feed_input.specs.Place.{Answer, held}
use Rattle.feed_input.specs.Answers.{Answers}
use Rattle.read_tape.specs.Tape.{Line}
use Rattle.read_step.specs.declared.Standing.{Standing}
use Rattle.read_step.specs.declared.Stepped.{Stepped}
use Rattle.read_step.specs.Step.{opened, Steps}
use Rattle.read_step.specs.Session.{Session, next, last, turns}
use Rattle.read_step.proofs.How.{Sound, not_ended}
use Rattle.read_step.proofs.Links as link
use Rattle.read_step.proofs.Session.{start_sound}

-- one step more where no read comes next and the input is not at its end
abbrev pub extra : Bool → Bool → ℕ
extra asks true = 1
extra true false = 1
extra false false = 2

pub extra_least : (a e : Bool) → 1 ≤ extra a e
extra_least a true = omega arith
extra_least true false = omega arith
extra_least false false = omega arith

-- how many turns are left at most, where `input` is yet to be read
abbrev pub cost : Standing → List ℕ → List ℕ → ℕ
cost s block input = length (held s.place block) + 2 * length input + extra s.place.asks s.place.ended

-- a link pays for itself
module _ {line : Line} {most : ℕ} {s : Standing} {block bytes block' block'' lines lines' : List ℕ} {answer : Answer} {r : Stepped} (g : Sound s.place (length block)) (a : Answers s.place block bytes answer block') (st : Steps line most s answer block' lines block'' lines' r) (o : r.over ≡ false) where
  abbrev w : link.Goes g a st
  w = link.goes g a st o

  abbrev n : ℕ
  n = (link.told g a st).at

  abbrev e : Bool
  e = (link.place g a st).ended

  -- where nothing was used, it is not the input's end; else a byte was
  used : e ≡ true → 1 ≤ n
  used h = go (eqb n 0) refl
    where
      go : (z : Bool) → eqb n 0 ≡ z → 1 ≤ n
      go true q = absurd (true≢false (sym h ∙ not_ended (link.told g a st).going n e w.still q))
      go false q = nonzero n (eqb-false n 0 q)

  -- no read was asked for
  quiet_pays : s.place.asks ≡ false → (f z : Bool) → e ≡ f → eqb n 0 ≡ z → extra z f < n + extra false f
  quiet_pays q true z h k = omega (arith, used h)
  quiet_pays q false true h k = omega arith
  quiet_pays q false false h k = omega (arith, nonzero n (eqb-false n 0 k))

  -- a read
  read_pays : s.place.asks ≡ true → (f z : Bool) → e ≡ f → eqb n 0 ≡ z → extra z f < length bytes + n + 1
  read_pays q true z h k = omega (arith, used h)
  read_pays q false true h k = omega (arith, (link.after g a st).came_some q h)
  read_pays q false false h k = omega (arith, (link.after g a st).came_some q h, nonzero n (eqb-false n 0 k))

  pays : extra (eqb n 0) e < length bytes + n + extra s.place.asks s.place.ended
  pays = go s.place.asks refl
    where
      go : (q : Bool) → s.place.asks ≡ q → extra (eqb n 0) e < length bytes + n + extra s.place.asks s.place.ended
      go true q =
          let x : extra s.place.asks s.place.ended ≡ extra true false = ap (λ b. extra b s.place.ended) q ∙ ap (extra true) (g.more q) in
          omega (arith, x, read_pays q e (eqb n 0) refl refl)
      go false q =
          let x : extra s.place.asks s.place.ended ≡ extra false e = ap (λ b. extra b s.place.ended) q ∙ ap (extra false) (sym ((link.after g a st).quiet q).0) in
          omega (arith, x, quiet_pays q e (eqb n 0) refl refl)

  pub link_pays : (input : List ℕ) → cost r.standing block'' input < cost s block (bytes ++ input)
  link_pays input = rw (w.asks_is, w.ended_is) (omega (arith, pays, link.left_count g a st w, length-append bytes input))

turns_left : {line : Line} {most : ℕ} {s : Standing} {block input output : List ℕ} {whole : Bool} → Sound s.place (length block) → (x : Session line most s block input whole output) → turns x ≤ cost s block input
unfolding turns
turns_left g (next {input = input} z a st o x) = omega (arith, turns_left (link.goes g a st o).sound x, link_pays g a st o input)
turns_left {s = s} g (last z a st o) = omega (arith, extra_least s.place.asks s.place.ended)

-- a session over an input of n bytes has at most 2 n + 1 turns
pub session_turns : {line : Line} {most : ℕ} {block input output : List ℕ} {whole : Bool} (x : Session line most opened block input whole output) → turns x ≤ 2 * length input + 1
session_turns {block = block} x = omega (arith, turns_left (start_sound (length block)) x)
