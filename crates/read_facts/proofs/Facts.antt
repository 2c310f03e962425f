-- WHAT A LINE OF FACTS OWES, so that every law and theorem over lines of a tape holds of it; the session's theorem. Assumes nothing.
use Prim.Native.Nat.{ℕ, ◌≤◌}
use native.Mathlib.Omega.{arith}
use mathlib.Core.Path.{◌≡◌, refl, sym, ap, ◌∙◌}
use mathlib.Core.Bool.{Bool, true, false}
use mathlib.Core.List.{List, [], ◌++◌, append-nil}
use lib.Dec.{leb}
use lib.ListN.{length, take, drop, take-append-drop}
use lib.Seq.{length-take-le}
use borrow.Author.Tests.{leb-true, leb-false}
use Rattle.rules.specs.Sizes.{longest_print}
use Rattle.claim_longest.proofs.Ahead.{ahead, ahead_told}
use Rattle.read_tape.specs.Tape.{Tells, read_from}
use Rattle.read_told.specs.Lines.{print_line}
use Rattle.read_told.proofs.Short.{print_short}
use Rattle.read_step.specs.Step.{opened}
use Rattle.read_step.specs.Session.{Session}
use Rattle.read_step.proofs.Session.{session_whole}
use Rattle.read_facts.specs.Facts.{longest_line, tape_facts}

-- what follows `longest_print` bytes changes nothing
line_same : (place : ℕ) (s t : List ℕ) → longest_print ≤ length s → print_line place (s ++ t) ≡ print_line place s
unfolding print_line
line_same place s t h = let q = ahead_told s t h in rw (ahead s t h, q.0, q.1)

-- so a line is as long as one of `longest_print` bytes of the tape
line_most : (place : ℕ) (s : List ℕ) → place ≤ 9999999999 → length (print_line place s) ≤ longest_line
line_most place s h = go (leb longest_print (length s)) refl
  where
    go : (b : Bool) → leb longest_print (length s) ≡ b → length (print_line place s) ≤ longest_line
    go true e =
        let n : length (take longest_print s) ≡ longest_print = length-take-le longest_print s (leb-true longest_print (length s) e) in
        let l : print_line place s ≡ print_line place (take longest_print s) = ap (print_line place) (sym (take-append-drop longest_print s)) ∙ line_same place (take longest_print s) (drop longest_print s) (omega (arith, n)) in
        omega (arith, ap length l, n, print_short place (take longest_print s) (omega arith) (omega (arith, n)))
    go false e = let l = leb-false longest_print (length s) e in omega (arith, print_short place s (omega arith) (omega (arith, l)))

pub facts_told : Tells print_line longest_line
facts_told = record { short = line_most; same = line_same }

-- so it has room where `longest_line` bytes have
pub line_room : (place : ℕ) (s : List ℕ) (room : ℕ) → place ≤ 9999999999 → longest_line ≤ room → length (print_line place s) ≤ room
line_room place s room h l = omega (arith, line_most place s h, l)

-- ---- THE PROGRAM

pub facts_output : {block input output : List ℕ} → Session print_line longest_line opened block input true output → output ≡ tape_facts input
unfolding tape_facts
facts_output {input = input} x = sym (ap (λ l. read_from print_line l 0) (sym (append-nil input)) ∙ session_whole facts_told x [] (λ e. refl))
