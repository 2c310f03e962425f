-- Where `longest_print` bytes are lent no line is refused 13, and more room changes nothing. Assumes nothing.
use Prim.Native.Nat.{ℕ, ◌≤◌}
use native.Mathlib.Omega.{arith}
use mathlib.Core.Path.{◌≡◌, refl, sym, ap, ◌∙◌}
use mathlib.Core.Bool.{Bool, true, false, ◌&&◌, not}
use mathlib.Core.List.{List, []}
use mathlib.Core.Option.{Option, none, some}
use lib.Dec.{ltb, eqb}
use lib.ListN.{length}
use borrow.Author.Tests.{le-ltb}
use Rattle.text.specs.Pick.{pick}
use Rattle.rules.specs.Columns.{column}
use Rattle.rules.specs.Line.{is_shaped, is_kind, is_formed, is_ranged, line_of, name_columns}
use Rattle.rules.specs.Refusal.{refuse, number_of, refusal_number}
use Rattle.rules.specs.Day.{Day, listing_refusal, trade_refusal, correction_refusal, date_refusal, state_refusal, undated, print_of, refusal_of, after_line, tape_of, after, ample}
use Rattle.rules.specs.declared.Line.{Line}
use Rattle.rules.specs.declared.Line.TheVariants.{Dated, Listed, Moded, Leveled, Stepped, Traded, Cancelled, Erred, Corrected}
use Rattle.rules.specs.declared.Refusal.{Refusal}
use Rattle.rules.specs.declared.Refusal.TheVariants.{Shape, Kind, NoDate, Form, Value, NotEntered, InUse, Name, SameName, Conditions, Unmatched, DateOrder, Room}
use Rattle.rules.specs.Sizes.{longest_print}
use Rattle.line_owed.specs.Reached.{Reached}
use Rattle.line_owed.proofs.Owed.{owed_line}
use Rattle.line_owed.proofs.Accepted.{accepted}
use Rattle.claim_programs.proofs.Most.{print_by}

-- ---- a chain of refusals that ends in 13

-- a refusal of another number is not it, and what comes after it is
passes : (b : Bool) (r : Refusal) (later : Option Refusal) → (number_of r ≡ 13 → ⊥) → refusal_number (refuse b r later) ≡ 13 → refusal_number later ≡ 13
unfolding refuse pick refusal_number
passes true r later k h = absurd (k h)
passes false r later k h = h

through : (day : Day) (name : List ℕ) (l : Line) (later : Option Refusal) → refusal_number (state_refusal day name l later) ≡ 13 → refusal_number later ≡ 13
unfolding state_refusal date_refusal listing_refusal trade_refusal correction_refusal number_of
through day name (Dated n) later h = passes _ DateOrder later (λ k. omega arith) h
through day name (Listed l) later h = passes _ SameName later (λ k. omega arith) (passes _ Name _ (λ k. omega arith) (passes _ InUse _ (λ k. omega arith) h))
through day name (Moded m) later h = h
through day name (Leveled n) later h = h
through day name (Stepped n) later h = h
through day name (Traded t) later h = passes _ Unmatched later (λ k. omega arith) (passes _ Conditions _ (λ k. omega arith) (passes _ NotEntered _ (λ k. omega arith) h))
through day name (Cancelled t) later h = passes _ Unmatched later (λ k. omega arith) (passes _ Conditions _ (λ k. omega arith) (passes _ NotEntered _ (λ k. omega arith) h))
through day name (Erred t) later h = passes _ Unmatched later (λ k. omega arith) (passes _ Conditions _ (λ k. omega arith) (passes _ NotEntered _ (λ k. omega arith) h))
through day name (Corrected c) later h = passes _ Unmatched later (λ k. omega arith) (passes _ Conditions _ (λ k. omega arith) (passes _ NotEntered _ (λ k. omega arith) h))

-- no other check has its number
chain : (a b c d e : Bool) (day : Day) (name : List ℕ) (l : Line) → refusal_number (refuse a Shape (refuse b Kind (refuse c NoDate (refuse d Form (refuse e Value (state_refusal day name l none)))))) ≡ 13 → ⊥
unfolding refusal_number number_of
chain a b c d e day name l h =
    ends
    (through day name l none
    (passes e Value _ (λ k. omega arith) (passes d Form _ (λ k. omega arith) (passes c NoDate _ (λ k. omega arith) (passes b Kind _ (λ k. omega arith) (passes a Shape _ (λ k. omega arith) h))))))
  where
    ends : refusal_number none ≡ 13 → ⊥
    ends k = omega (arith, k)

-- ---- one line, on a day that can be reached

module _ (day : Day) (line : List ℕ) (reached : Reached day) where
  -- every line within its values
  fits : is_ranged line ≡ true → length (print_of day (line_of line)) ≤ longest_print
  fits r = print_by day reached.minimum_set (line_of line) (owed_line line r)

  -- the last check of the chain
  abbrev last : ℕ → Option Refusal
  last room = refuse (ltb room (length (print_of day (line_of line)))) Room none

  module _ (room : ℕ) (enough : longest_print ≤ room) where
    fits_then : is_ranged line ≡ true → last room ≡ none
    unfolding refuse pick
    fits_then r = rw (le-ltb room (length (print_of day (line_of line))) (omega (arith, fits r, enough)))

    -- what 5 leaves is as if there were no check of room
    open_ended : (r : Bool) → is_ranged line ≡ r → refuse (not r) Value (state_refusal day (name_columns line) (line_of line) (last room)) ≡ refuse (not r) Value (state_refusal day (name_columns line) (line_of line) none)
    unfolding refuse pick
    open_ended false q = refl
    open_ended true q = ap (state_refusal day (name_columns line) (line_of line)) (fits_then q)

    -- the refusal of a line that is lent enough
    roomless : refusal_of day line room ≡ refuse (not (is_shaped line)) Shape (refuse (not (is_kind (column 1 line))) Kind (refuse (not (eqb (column 1 line) 68) && undated day) NoDate (refuse (not (is_formed line)) Form (refuse (not (is_ranged line)) Value (state_refusal day (name_columns line) (line_of line) none)))))
    unfolding refusal_of
    roomless = ap (λ (o : Option Refusal). refuse (not (is_shaped line)) Shape (refuse (not (is_kind (column 1 line))) Kind (refuse (not (eqb (column 1 line) 68) && undated day) NoDate (refuse (not (is_formed line)) Form o)))) (open_ended (is_ranged line) refl)

    -- NO LINE IS REFUSED 13
    pub never_short : refusal_number (refusal_of day line room) ≡ 13 → ⊥
    unfolding refusal_number number_of
    never_short h = chain _ _ _ _ _ day (name_columns line) (line_of line) (ap refusal_number (sym roomless) ∙ h)

  -- more room changes nothing: refusal, print and state
  module _ (room : ℕ) (enough : longest_print ≤ room) where
    pub same_refusal : refusal_of day line room ≡ refusal_of day line longest_print
    same_refusal = roomless room enough ∙ sym (roomless longest_print (omega arith))

    pub same_tape : tape_of day (record { line = line; room = room }) ≡ tape_of day (ample line)
    unfolding tape_of
    same_tape = ap (λ (o : Option Refusal). elim o [ some r ↦ [] | none ↦ print_of day (line_of line) ]) same_refusal

    pub same_after : after day (record { line = line; room = room }) ≡ after day (ample line)
    unfolding after
    same_after = ap (λ (o : Option Refusal). elim o [ some r ↦ day | none ↦ after_line day (name_columns line) (line_of line) ]) same_refusal

-- on any day a print is no longer than what was lent for it
pub tape_most : (day : Day) (line : List ℕ) → length (tape_of day (ample line)) ≤ longest_print
unfolding tape_of
tape_most day line = go (refusal_of day line longest_print) refl
  where
    go : (o : Option Refusal) → refusal_of day line longest_print ≡ o → length {A = ℕ} (elim o [ some r ↦ [] | none ↦ print_of day (line_of line) ]) ≤ longest_print
    go (some r) e = omega arith
    go none e = (accepted day line longest_print e).fits
