-- Before the first date line the tables are not asked: a call stops, or opens a day. Assumes nothing.
use Prim.Native.Nat.{ℕ}
use mathlib.Core.Path.{◌≡◌, refl, sym, ap, ◌∙◌}
use mathlib.Core.Bool.{Bool, true, false, ◌&&◌, not}
use mathlib.Core.List.{List, []}
use lib.Dec.{eqb, ltb}
use lib.ListN.{length}
use Rattle.text.specs.Pick.{pick}
use Rattle.rules.specs.Columns.{column, columns, number_in, value_of}
use Rattle.rules.specs.Line.{line_of, of_kind, name_columns}
use Rattle.rules.specs.Day.{opened}
use Rattle.rules.specs.declared.Line.{Line}
use Rattle.rules.specs.declared.Line.TheVariants.{Dated}
use Rattle.rules.specs.declared.Settings.{Settings}
use Rattle.rules.specs.declared.Refusal.TheVariants.{Room}
use Rattle.text.proofs.Booleans.{pick_cases}
use Rattle.call_plan.specs.declared.Plan.{Plan}
use Rattle.call_plan.specs.declared.Plan.TheVariants.{Stop, Open, Enter, Change, Level, Step, Print, Cancel, Correct}
use Rattle.call_plan.specs.Plan.{date_plan, line_plan, read_plan, plan_of}
use Rattle.call_print.specs.Print.{printed_name, text_of, fitted_of}
use Rattle.engine.specs.Taken.{asked}

unfoldable pub Early : Plan → Type 0
Early (Stop r) = Unit {0}
Early (Open n) = Unit {0}
Early (Enter i s) = ⊥
Early (Change m) = ⊥
Early (Level n) = ⊥
Early (Step n) = ⊥
Early (Print t) = ⊥
Early (Cancel t) = ⊥
Early (Correct c) = ⊥

alike : (b : Bool) (p q r : Plan) → (b ≡ false → q ≡ r) → pick b p q ≡ pick b p r
unfolding pick
alike true p q r h = refl
alike false p q r h = h refl

-- a D line is a date
pub dated : (kind : ℕ) (line : List ℕ) → eqb kind 68 ≡ true → (of_kind kind line).line ≡ Dated (value_of (number_in (columns 2 9 line)))
unfolding of_kind pick
dated kind line h = rw h

-- not refused 3, so a D line
pub is_date : (b : Bool) → (not b && true) ≡ false → b ≡ true
is_date true h = refl
is_date false h = sym h

module _ (line : List ℕ) where
  date_line : (not (eqb (column 1 line) 68) && true) ≡ false → line_of line ≡ Dated (value_of (number_in (columns 2 9 line)))
  unfolding line_of
  date_line g = dated (column 1 line) line (is_date (eqb (column 1 line) 68) g)

  early_date : (st : Settings) (table names name : List ℕ) (l : Line) (n : ℕ) → l ≡ Dated n → Early (line_plan st table names name l)
  unfolding line_plan date_plan Early
  early_date st table names name l n e = rw e (pick_cases Early _ _ _ (λ z. tt) (λ k. tt))

  pub early : (table names : List ℕ) → Early (plan_of (opened 0) table names line)
  unfolding plan_of read_plan opened Early
  early table names =
      pick_cases Early _ _ _ (λ z. tt) (λ e.
      pick_cases Early _ _ _ (λ z. tt) (λ f.
      pick_cases Early _ _ _ (λ z. tt) (λ g.
      pick_cases Early _ _ _ (λ z. tt) (λ h.
      pick_cases Early _ _ _ (λ z. tt) (λ i. early_date (opened 0) table names (name_columns line) (line_of line) _ (date_line g))))))

  same_date : (st : Settings) (t u m n name : List ℕ) (l : Line) (k : ℕ) → l ≡ Dated k → line_plan st t m name l ≡ line_plan st u n name l
  unfolding line_plan
  same_date st t u m n name l k e = rw e

  same_plan : (t u m n : List ℕ) → plan_of (opened 0) t m line ≡ plan_of (opened 0) u n line
  unfolding plan_of read_plan opened
  same_plan t u m n =
      alike _ _ _ _ (λ e.
      alike _ _ _ _ (λ f.
      alike _ _ _ _ (λ g.
      alike _ _ _ _ (λ h.
      alike _ _ _ _ (λ i. same_date (opened 0) t u m n (name_columns line) (line_of line) _ (date_line g))))))

-- ---- with its room

no_name_lem : (p : Plan) (m : List ℕ) → Early p → printed_name m p ≡ []
unfolding Early printed_name
no_name_lem (Stop r) m h = refl
no_name_lem (Open n) m h = refl
no_name_lem (Enter i s) m h = absurd h
no_name_lem (Change k) m h = absurd h
no_name_lem (Level n) m h = absurd h
no_name_lem (Step n) m h = absurd h
no_name_lem (Print t) m h = absurd h
no_name_lem (Cancel t) m h = absurd h
no_name_lem (Correct c) m h = absurd h

fitted_early : (st : Settings) (name : List ℕ) (p : Plan) (room : ℕ) → Early p → Early (fitted_of st name p room)
unfolding fitted_of pick Early
fitted_early st name p room h = go (ltb room (length (text_of st name p)))
  where
    go : (b : Bool) → Early (pick b (Stop Room) p)
    go true = tt
    go false = h

module _ (line : List ℕ) (room : ℕ) where
  pub early_asked : (t m : List ℕ) → Early (asked (opened 0) t m line room)
  unfolding asked
  early_asked t m = fitted_early (opened 0) _ (plan_of (opened 0) t m line) room (early line t m)

  pub same_asked : (t u m n : List ℕ) → asked (opened 0) t m line room ≡ asked (opened 0) u n line room
  unfolding asked
  same_asked t u m n =
      let p = plan_of (opened 0) t m line in
      let q = plan_of (opened 0) u n line in
      ap (λ (name : List ℕ). fitted_of (opened 0) name p room) (no_name_lem p m (early line t m) ∙ sym (no_name_lem q n (early line u n)))
      ∙ ap (λ (x : Plan). fitted_of (opened 0) (printed_name n q) x room) (same_plan line t u m n)
