-- A TAPE IN ANY PIECES: the joined lines of all calls are the lines of the tape. Assumes nothing.
use Prim.Native.Nat.{ℕ, zero, suc, ◌+◌, ◌≤◌}
use native.Mathlib.Omega.{arith}
use mathlib.Core.Path.{◌≡◌, refl, sym, ap, ◌∙◌, subst}
use mathlib.Core.Bool.{Bool, true, false}
use mathlib.Core.List.{List, [], ◌∷◌, ◌++◌, append-nil}
use lib.ListN.{length, drop, length-drop}
use borrow.Author.Tests.{le-leb}
use Rattle.text.specs.Pick.{pick}
use Rattle.read_tape.specs.Tape.{Line, Tells, place_line, read_from, read_text}
use Rattle.read_tape.specs.Block.{Progress, may_read, block_read}
use Rattle.read_tape.specs.Pieces.{Pieces, over, last, call}
use Rattle.read_tape.proofs.One.{places_told}
use Rattle.read_tape.proofs.LookAhead.{read_none, block_reads, block_moves}

module _ (line : Line) (most : ℕ) (tells : Tells line most) (room : ℕ) (block t : List ℕ) (place : ℕ) (ended : Bool) (alone : ended ≡ true → t ≡ []) where
  abbrev b : Progress
  b = block_read line most room block place ended

  reads_last : b.going ≡ false → b.text ≡ read_from line (block ++ t) place
  unfolding pick
  reads_last g = sym (block_reads line most tells block t place ended alone room ∙ (ap (λ q. b.text ++ pick q (read_from line (drop b.at (block ++ t)) (place + b.at)) []) g ∙ append-nil b.text))

  reads_on : b.going ≡ true → b.text ++ read_from line (drop b.at (block ++ t)) (place + b.at) ≡ read_from line (block ++ t) place
  unfolding pick
  reads_on g = sym (block_reads line most tells block t place ended alone room ∙ ap (λ q. b.text ++ pick q (read_from line (drop b.at (block ++ t)) (place + b.at)) []) g)

pieces_read : (line : Line) (most : ℕ) (tells : Tells line most) {s : List ℕ} {place : ℕ} {text : List ℕ} → Pieces line most s place text → text ≡ read_from line s place
pieces_read line most tells (over place) = sym (read_none line [] place refl)
pieces_read line most tells (last room block t place ended alone g) = reads_last line most tells room block t place ended alone g
pieces_read line most tells (call room block t place ended text alone g p) = ap (λ l. (block_read line most room block place ended).text ++ l) (pieces_read line most tells p) ∙ reads_on line most tells room block t place ended alone g

-- of a whole tape
pub tape_read : (tape text : List ℕ) → Pieces place_line 21 tape 0 text → text ≡ read_text tape
unfolding read_text
tape_read tape text p = pieces_read place_line 21 places_told p

-- ---- every tape can be read so: in calls that are lent room for one line

record Cut (s : List ℕ) (place : ℕ) : Type 0 where
  text : List ℕ
  pieces : Pieces place_line 21 s place text

may_one : (s : List ℕ) → 1 ≤ length s → may_read 21 (length s) true 21 ≡ true
unfolding may_read
may_one s h = rw (le-leb 1 (length s) h)

module _ (k : ℕ) (ih : (s : List ℕ) (place : ℕ) → length s ≤ k → Cut s place) where
  cut_more : (s : List ℕ) (place : ℕ) → 1 ≤ length s → length s ≤ suc k → (g : Bool) → (block_read place_line 21 21 s place true).going ≡ g → Cut s place
  cut_more s place l h false e =
      let b = block_read place_line 21 21 s place true in
      record { text = b.text; pieces = subst (λ u. Pieces place_line 21 u place b.text) (append-nil s) (last 21 s [] place true (λ q. refl) e) }
  cut_more s place l h true e =
      let b = block_read place_line 21 21 s place true in
      let m = block_moves place_line 21 21 s place true (may_one s l) e in
      let c = ih (drop b.at (s ++ [])) (place + b.at) (omega (arith, m, length-drop b.at (s ++ []), ap length (append-nil s))) in
      record { text = b.text ++ c.text; pieces = subst (λ u. Pieces place_line 21 u place (b.text ++ c.text)) (append-nil s) (call 21 s [] place true c.text (λ q. refl) e c.pieces) }

  cut_on : (s : List ℕ) (place : ℕ) → length s ≤ suc k → Cut s place
  cut_on [] place h = record { text = []; pieces = over place }
  cut_on (c ∷ s) place h = cut_more (c ∷ s) place (omega arith) h (block_read place_line 21 21 (c ∷ s) place true).going refl

cut_none : (s : List ℕ) (place : ℕ) → length s ≤ 0 → Cut s place
cut_none [] place h = record { text = []; pieces = over place }
cut_none (c ∷ s) place h = absurd (omega (arith, h))

cut_all : (k : ℕ) (s : List ℕ) (place : ℕ) → length s ≤ k → Cut s place
cut_all zero = cut_none
cut_all (suc k) = cut_on k (cut_all k)

pub tape_pieces : (tape : List ℕ) → Pieces place_line 21 tape 0 (read_text tape)
tape_pieces tape =
    let c = cut_all (length tape) tape 0 (omega arith) in
    subst (Pieces place_line 21 tape 0) (tape_read tape c.text c.pieces) c.pieces
