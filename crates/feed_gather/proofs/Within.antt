-- The lines that are taken of a block lie in it. Assumes nothing.
use Prim.Native.Nat.{ℕ, suc, ◌+◌, ◌≤◌, ◌<◌}
use native.Mathlib.Omega.{arith}
use mathlib.Core.Path.{◌≡◌, refl, ap}
use mathlib.Core.Bool.{Bool, true, false}
use mathlib.Core.List.{List, [], ◌∷◌}
use lib.Dec.{ltb}
use lib.ListN.{length, take, drop, length-drop}
use lib.Seq.{length-take-le}
use borrow.Author.Tests.{ltb-true, ltb-false}
use Rattle.rules.specs.declared.Settings.{Settings}
use Rattle.feed_blocks.specs.Lines.{line_length, Cut, cut}
use Rattle.feed_blocks.proofs.Cuts.{cut_line, cut_none}
use Rattle.feed_gather.specs.Gather.{Program, Progress, started, carried, line_taken, room_left, lines_taken, block_taken}
use Rattle.feed_gather.proofs.Blocks.{taken_on, taken_off, taken_none}

-- the lines that a line feed ends: the first, and those behind it; or none
pub ended_line : (u : List ℕ) → line_length u < length u → (cut u).ended ≡ take (line_length u) u ∷ (cut (drop (suc (line_length u)) u)).ended
ended_line u h = ap (λ (c : Cut). c.ended) (cut_line u h)

pub ended_none : (u : List ℕ) → length u ≤ line_length u → (cut u).ended ≡ []
ended_none u h = ap (λ (c : Cut). c.ended) (cut_none u h)

pub line_at : (g : Program) (room : ℕ) (l : List ℕ) (p : Progress) → (line_taken g room l p).at ≡ p.at + length l + 1
unfolding line_taken carried
line_at g room l p = refl

module _ (g : Program) (out err : ℕ) where
  within : (ls : List (List ℕ)) (u : List ℕ) (p : Progress) → ls ≡ (cut u).ended → (lines_taken g out err ls p).at ≤ p.at + length u
  within [] u p e = rw taken_none (omega arith)
  within (l ∷ ls) u p e = go (room_left g out err (length p.out) (length p.err) p.number) refl (ltb (line_length u) (length u)) refl (within ls (drop (suc (line_length u)) u) (line_taken g out l p))
    where
      go : (b : Bool) → room_left g out err (length p.out) (length p.err) p.number ≡ b → (c : Bool) → ltb (line_length u) (length u) ≡ c
          → (ls ≡ (cut (drop (suc (line_length u)) u)).ended → (lines_taken g out err ls (line_taken g out l p)).at ≤ (line_taken g out l p).at + length (drop (suc (line_length u)) u)) → (lines_taken g out err (l ∷ ls) p).at ≤ p.at + length u
      go false r c k on = rw (taken_off g out err l ls p r) (omega arith)
      go true r false k on =
          let none = ended_none u (ltb-false (line_length u) (length u) k) in
          absurd (let z : ◌≡◌ {A = ℕ} 0 1 = cc in omega arith)
      go true r true k on =
          let h = ltb-true (line_length u) (length u) k in
          let first = ended_line u h in
          let el : l ≡ take (line_length u) u = cc in
          let els : ls ≡ (cut (drop (suc (line_length u)) u)).ended = cc in
          rw (taken_on g out err l ls p r) (omega (arith, on els, line_at g out l p, ap length el, length-take-le (line_length u) u (omega arith), length-drop (suc (line_length u)) u))

  pub block_within : (block : List ℕ) (st : Settings) (table names : List ℕ) (number : ℕ) → (block_taken g out err block (started st table names number)).at ≤ length block
  unfolding block_taken
  block_within block st table names number = omega (arith, within (cut block).ended block (started st table names number) refl)
