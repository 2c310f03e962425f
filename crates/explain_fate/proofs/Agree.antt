-- The plan and the line as it is read, put together, say what the rules say of the line. Assumes nothing.
use Prim.Native.Nat.{ℕ, zero, suc, ◌-◌, ◌≤◌}
use native.Mathlib.Omega.{arith}
use mathlib.Core.Path.{◌≡◌, refl, sym, ap, ◌∙◌}
use mathlib.Core.Bool.{Bool, true, false, ◌&&◌, not}
use mathlib.Core.List.{List}
use mathlib.Core.Option.{Option, none, some}
use lib.ListN.{length}
use borrow.Author.Tests.{not-false}
use Rattle.text.specs.Pick.{pick}
use Rattle.rules.specs.Columns.{column}
use Rattle.rules.specs.Line.{is_shaped, is_kind, is_formed, is_ranged, line_of}
use Rattle.rules.specs.Day.{Day, Call, security_at, refusal_of}
use Rattle.rules.specs.declared.Line.{Line}
use Rattle.rules.specs.declared.Refusal.{Refusal}
use Rattle.rules.specs.declared.Refusal.TheVariants.{Shape, Kind, Form, Value}
use Rattle.rules.specs.declared.Settings.{Settings}
use Rattle.call_table.specs.Sizes.{table_size, names_size}
use Rattle.std.specs.Prelude.{Result, Ok, Err}
use Rattle.line_kinds.specs.Fields.{reading_of}
use Rattle.call_table.specs.Rows.{row, day_of}
use Rattle.call_table.proofs.Held.{held_security}
use Rattle.call_plan.specs.declared.Plan.{Plan}
use Rattle.line_owed.specs.Owed.{OwedLine}
use Rattle.line_owed.proofs.Owed.{owed_line}
use Rattle.line_owed.proofs.Accepted.{accepted}
use Rattle.engine.specs.Taken.{asked}
use Rattle.claim_calls.specs.Held.{stop_of}
use Rattle.claim_calls.proofs.Agree.{by_rules}
use Rattle.explain_fate.specs.Explained.{security_of, security_in, kind_in, fate_at, fate_of, fate_by, explained_by}
use Rattle.explain_fate.specs.Read.{read_security, read_fate, fate_if, SoundReading}
use Rattle.explain_fate.specs.declared.Fate.{Fate}
use Rattle.explain_fate.specs.declared.Fate.TheVariants.{Refused}
use Rattle.explain_fate.proofs.Fates.{number_small}

-- ---- a line as it is read

asks : (b : Bool) (r : Refusal) (d : Result Line Refusal) → (b ≡ false → SoundReading d) → SoundReading (pick b (Err r) d)
unfolding pick SoundReading
asks true r d h = tt
asks false r d h = h refl

sound_read : (line : List ℕ) → SoundReading (reading_of line)
unfolding reading_of SoundReading
sound_read line = asks _ _ _ (λ e. asks _ _ _ (λ f. asks _ _ _ (λ g. asks _ _ _ (λ h. owed_line line (not-false _ h)))))

pub sound_reading : (line : List ℕ) (d : Result Line Refusal) → d ≡ reading_of line → SoundReading d
sound_reading line d e = rw e (sound_read line)

security_read : (line : List ℕ) → read_security (reading_of line) ≡ security_in line
unfolding reading_of read_security security_in pick
security_read line = go (is_shaped line) (is_kind (column 1 line)) (is_formed line) (is_ranged line)
  where
    go : (a b c d : Bool) → read_security (pick (not a) (Err Shape) (pick (not b) (Err Kind) (pick (not c) (Err Form) (pick (not d) (Err Value) (Ok (line_of line)))))) ≡ pick (a && (b && (c && d))) (security_of (line_of line)) 0
    go false b c d = refl
    go true false c d = refl
    go true true false d = refl
    go true true true false = refl
    go true true true true = refl

reading_small : (d : Result Line Refusal) → SoundReading d → read_security d ≤ 512
unfolding SoundReading read_security
reading_small (Err r) h = omega arith
reading_small (Ok l) h = number_small l h

-- the security of an explanation is one of the table's
pub explained_small : (day : Day) (c : Call) → (explained_by day c).security ≤ 512
unfolding explained_by
explained_small day c = rw (← security_read c.line) (reading_small (reading_of c.line) (sound_read c.line))

-- ---- a line that nothing stops

taken : (day : Day) (line : List ℕ) (room : ℕ) → refusal_of day line room ≡ none → reading_of line ≡ Ok (line_of line)
unfolding reading_of pick
taken day line room h = let a = accepted day line room h in rw (a.shaped, a.known, a.formed, a.ranged)

-- ---- by the rules

module _ (st : Settings) (table names : List ℕ) where
  abbrev day : Day
  day = day_of st table names

  held : (i : ℕ) → i ≤ 512 → security_at day i ≡ row table (i - 1)
  held zero h = held_security st table names 1 (omega arith) (omega arith)
  held (suc i) h = held_security st table names (suc i) (omega arith) h

  fate_held : (l : Line) → OwedLine l → fate_at st (row table (security_of l - 1)) l ≡ fate_of day l
  unfolding fate_of day_of
  fate_held l h = ap (λ s. fate_at st s l) (sym (held (security_of l) (number_small l h)))

  module _ (line : List ℕ) (room : ℕ) where
    read_through : refusal_of day line room ≡ none → read_fate st table (reading_of line) ≡ fate_of day (line_of line)
    unfolding read_fate SoundReading
    read_through h =
        let t = taken day line room h in
        let s : OwedLine (line_of line) = rw t at (sound_read line) in
        rw t (fate_held (line_of line) s)

    fate_by_lem : (o : Option Refusal) → refusal_of day line room ≡ o → fate_if o (read_fate st table (reading_of line)) ≡ elim o [ some r ↦ Refused r | none ↦ fate_of day (line_of line) ]
    unfolding fate_if
    fate_by_lem (some r) h = refl
    fate_by_lem none h = read_through h

    module _ (rows : length table ≡ table_size) (places : length names ≡ names_size) where
      fate_is : fate_if (stop_of (asked st table names line room)) (read_fate st table (reading_of line)) ≡ fate_by day (record { line = line; room = room })
      unfolding fate_by
      fate_is =
          let e = (by_rules st table names line room rows places).refusal_is in
          fate_by_lem (stop_of (asked st table names line room)) e ∙ ap (λ (o : Option Refusal). elim o [ some r ↦ Refused r | none ↦ fate_of day (line_of line) ]) (sym e)

      pub told : (p : Plan) (d : Result Line Refusal) (f g : Fate) (kind security : ℕ) → p ≡ asked st table names line room → d ≡ reading_of line → f ≡ read_fate st table d
          → kind ≡ kind_in line → security ≡ read_security d → g ≡ fate_if (stop_of p) f
          → record { kind = kind; security = security; fate = g } ≡ explained_by day (record { line = line; room = room })
      unfolding explained_by
      told p d f g kind security a b c k s h = rw (k, s, h, c, b, a, security_read line, fate_is)
