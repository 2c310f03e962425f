-- One line: what a program tells of it, and the day behind it. Assumes nothing.
use Prim.Native.Nat.{ℕ, ◌+◌, ◌-◌, ◌≤◌, ◌<◌}
use mathlib.Core.Path.{◌≡◌, refl, sym, ap, ◌∙◌}
use mathlib.Core.Bool.{false}
use mathlib.Core.List.{List, [], ◌∷◌, ◌++◌}
use mathlib.Core.Option.{Option, none, some}
use lib.ListN.{length, replicate, length-replicate}
use borrow.Author.Tests.{le-leb, lt-leb, ne_eqb}
use Rattle.text.specs.Pick.{pick}
use Rattle.text.specs.Put.{put}
use Rattle.rules.specs.Day.{Day, Call, refusal_of, after_line, after, ample}
use Rattle.rules.specs.Line.{is_shaped, name_columns, line_of}
use Rattle.rules.specs.Refusal.{refuse}
use Rattle.rules.specs.Sizes.{width, longest_print}
use Rattle.rules.specs.declared.Refusal.{Refusal}
use Rattle.rules.specs.declared.Refusal.TheVariants.{Shape}
use Rattle.rules.specs.declared.Settings.{Settings}
use Rattle.call_table.specs.Sizes.{table_size, names_size}
use Rattle.call_table.specs.Rows.{day_of}
use Rattle.call_plan.specs.declared.Plan.{Plan}
use Rattle.call_print.specs.Print.{print_of}
use Rattle.call_state.specs.After.{settings_after, table_after, names_after}
use Rattle.engine.specs.declared.Answer.{Answer}
use Rattle.engine.specs.Taken.{asked, outcome_of}
use Rattle.engine.proofs.Numbers.{taken_as}
use Rattle.line_owed.specs.Reached.{Reached}
use Rattle.line_owed.proofs.Reached.{kept_call}
use Rattle.claim_calls.specs.Held.{day_after}
use Rattle.claim_calls.specs.Run.{State, Sized, Lent}
use Rattle.claim_calls.proofs.Agree.{by_rules}
use Rattle.claim_calls.proofs.Runs.{link_sized}
use Rattle.feed_gather.specs.Gather.{last_line, Program, Progress, call_of, carried, line_taken}
use Rattle.claim_programs.specs.Told.{Text, told_of_lines, Tells}
use Rattle.claim_programs.proofs.Room.{same_after}

-- ---- the texts of lines

pub told_none : (t : Text) (day : Day) (n : ℕ) → told_of_lines t day n [] ≡ []
unfolding told_of_lines
told_none t day n = refl

pub told_on : (t : Text) (day : Day) (n : ℕ) (l : List ℕ) (ls : List (List ℕ)) → n ≤ last_line → told_of_lines t day n (l ∷ ls) ≡ t day n l ++ told_of_lines t (after day (ample l)) (n + 1) ls
unfolding told_of_lines
told_on t day n l ls h = rw (le-leb n last_line h, told_of_lines)

-- behind the last line nothing is told
pub told_past : (t : Text) (day : Day) (n : ℕ) (ls : List (List ℕ)) → last_line < n → told_of_lines t day n ls ≡ []
unfolding told_of_lines
told_past t day n [] h = refl
told_past t day n (l ∷ ls) h = rw (lt-leb n last_line h, told_of_lines)

-- ---- lines that are not as long as a line should be are alike

pub unshaped : (line : List ℕ) → (length line ≡ width → ⊥) → is_shaped line ≡ false
unfolding is_shaped
unshaped line h = rw (ne_eqb (length line) width h)

pub refused : (day : Day) (line : List ℕ) (room : ℕ) → (length line ≡ width → ⊥) → refusal_of day line room ≡ some Shape
unfolding refusal_of refuse pick
refused day line room h = rw (unshaped line h)

pub after_long : (day : Day) (line : List ℕ) → (length line ≡ width → ⊥) → after day (ample line) ≡ day
unfolding after
after_long day line h = ap (λ (o : Option Refusal). elim o [ some r ↦ day | none ↦ after_line day (name_columns line) (line_of line) ]) (refused day line longest_print h)

-- ---- a state and the day that it holds

pub record Holds (st : Settings) (table names : List ℕ) (day : Day) : Type 0 where
  pub rows : length table ≡ table_size
  pub places : length names ≡ names_size
  pub day_is : day_of st table names ≡ day
  pub reached : Reached day

module _ (st : Settings) (table names line : List ℕ) (room : ℕ) (day : Day) (h : Holds st table names day) (enough : longest_print ≤ room) where
  abbrev q : Plan
  q = asked st table names line room

  sized : (r : ℕ) → r ≡ room → Sized (record { settings = settings_after st (asked st table names line r); table = table_after table (asked st table names line r); names = names_after names line (asked st table names line r) })
  sized r e =
      let c : Lent = record { line = line; tape = replicate room 0 } in
      let z : length c.tape ≡ r = length-replicate room 0 ∙ sym e in
      let s : State = record { settings = st; table = table; names = names } in
      let p : Plan = asked st table names line (length c.tape) in
      let m : State = record { settings = settings_after st p; table = table_after table p; names = names_after names line p } in
      let b : List ℕ = put (print_of st names p) c.tape in
      let a : Answer = record { outcome = outcome_of p (length (print_of st names p)); settings = settings_after st p } in
      rw z at (link_sized s m c b a (taken_as st table names line c.tape m.table m.names b a refl refl refl refl refl) refl (record { rows = h.rows; places = h.places }))

  -- a call keeps it
  pub call_holds : Holds (settings_after st q) (table_after table q) (names_after names line q) (after day (ample line))
  unfolding day_after
  call_holds =
      let z = sized room refl in
      let reached : Reached (day_of st table names) = rw h.day_is h.reached in
      record {
        rows = z.rows;
        places = z.places;
        day_is = sym (by_rules st table names line room h.rows h.places).day_is ∙ (ap (λ (d : Day). after d (record { line = line; room = room })) h.day_is ∙ same_after day line h.reached room enough);
        reached = kept_call day (ample line) h.reached;
      }

-- ---- a line that is taken

abbrev pub On : Progress → Day → Type 0
On p day = Holds p.settings p.table p.names day

pub record Took (out err : Text) (l : List ℕ) (p q : Progress) (day : Day) : Type 0 where
  pub on : On q (after day (ample l))
  pub number_is : q.number ≡ p.number + 1
  pub at_is : q.at ≡ p.at + length l + 1
  pub out_is : q.out ≡ p.out ++ out day p.number l
  pub err_is : q.err ≡ p.err ++ err day p.number l

module _ {g : Program} {out err : Text} (tells : Tells g out err) where
  pub takes : (room : ℕ) (l : List ℕ) (p : Progress) (day : Day) → On p day → g.out_most ≤ room - length p.out → Took out err l p (line_taken g room l p) day
  unfolding line_taken carried
  takes room l p day h enough =
      let c : Call = call_of g room l p in
      let wide : longest_print ≤ c.room = tells.ample_lent (room - length p.out) enough in
      let reached : Reached (day_of p.settings p.table p.names) = rw h.day_is h.reached in
      record {
        on = call_holds p.settings p.table p.names l c.room day h wide;
        number_is = refl;
        at_is = refl;
        out_is = ap (λ (x : List ℕ). p.out ++ x) (tells.out_is p.settings p.table p.names p.number c h.rows h.places reached wide ∙ ap (λ (d : Day). out d p.number l) h.day_is);
        err_is = ap (λ (x : List ℕ). p.err ++ x) (tells.err_is p.settings p.table p.names p.number c h.rows h.places reached wide ∙ ap (λ (d : Day). err d p.number l) h.day_is);
      }
