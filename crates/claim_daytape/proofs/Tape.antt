-- THE DAY PROGRAM: whatever the reads, the joined tape and the joined refusals are those of the rules, of the lines of the joined input. Assumes nothing.
use Prim.Native.Nat.{ℕ, ◌+◌, ◌≤◌, ◌<◌}
use native.Mathlib.Omega.{arith}
use mathlib.Core.Path.{◌≡◌, refl, sym, ap, ◌∙◌}
use mathlib.Core.Bool.{Bool}
use mathlib.Core.List.{List, [], ◌∷◌, ◌++◌}
use mathlib.Core.Option.{Option, none, some}
use lib.ListN.{length, take, replicate}
use Rattle.rules.specs.Day.{Day, fresh, refusal_of, tape_of, after, ample, print_of}
use Rattle.rules.specs.Line.{line_of}
use Rattle.rules.specs.Sizes.{width, longest_print}
use Rattle.rules.specs.declared.Refusal.{Refusal}
use Rattle.call_table.specs.Sizes.{table_size, names_size}
use Rattle.call_table.specs.Rows.{day_of}
use Rattle.call_plan.specs.declared.Plan.{Plan}
use Rattle.call_plan.specs.declared.Plan.TheVariants.{Stop, Open, Enter, Change, Level, Step, Print, Cancel, Correct}
use Rattle.call_print.specs.Print as printed
use Rattle.engine.specs.Taken.{asked, outcome_of}
use Rattle.claim_calls.specs.Held.{stop_of}
use Rattle.claim_calls.proofs.Agree.{by_rules}
use Rattle.feed_blocks.specs.Lines.{lines_by}
use Rattle.feed_gather.specs.Gather.{last_line}
use Rattle.feed_step.specs.Step.{opening}
use Rattle.feed_step.specs.Session.{Session}
use Rattle.feed_lines.specs.Feed.{told, day_program}
use Rattle.feed_lines.proofs.Told.{told_fits}
use Rattle.claim_programs.specs.Told.{Text, Tells}
use Rattle.claim_programs.specs.Exists.{Fits, Has}
use Rattle.claim_programs.proofs.Room.{same_refusal, same_tape, tape_most}
use Rattle.claim_programs.proofs.Exists.{session_exists}
use Rattle.claim_programs.proofs.Lines.{refused}
use Rattle.claim_programs.proofs.Last.{all_told}
use Rattle.claim_programs.proofs.Session.{session_output}
use Rattle.claim_daytape.specs.Claim.{tape_of_lines, told_by, refusals_of_lines, DayTape}

-- ---- what is told of a line, by the rules

abbrev tape : Text
tape day n l = tape_of day (ample l)

abbrev refusals : Text
refusals day n l = told_by n (refusal_of day l longest_print)

-- what is told of an outcome is what is told of its refusal
told_stop : (number n : ℕ) (q : Plan) → told number (outcome_of q n) ≡ told_by number (stop_of q)
unfolding told outcome_of told_by stop_of
told_stop number n (Stop r) = refl
told_stop number n (Open d) = refl
told_stop number n (Enter i s) = refl
told_stop number n (Change m) = refl
told_stop number n (Level l) = refl
told_stop number n (Step l) = refl
told_stop number n (Print t) = refl
told_stop number n (Cancel t) = refl
told_stop number n (Correct c) = refl

tape_long : (day : Day) (l : List ℕ) → (length l ≡ width → ⊥) → tape_of day (ample l) ≡ []
unfolding tape_of
tape_long day l h = ap (λ (o : Option Refusal). elim o [ some r ↦ [] | none ↦ print_of day (line_of l) ]) (refused day l longest_print h)

tells : Tells day_program tape refusals
tells = record {
  ample_lent = λ n h. h;
  out_is = λ st table names number c rows places reached enough. sym (by_rules st table names c.line c.room rows places).print_is ∙ same_tape (day_of st table names) c.line reached c.room enough;
  err_is = λ st table names number c rows places reached enough.
      told_stop number _ (asked st table names c.line c.room)
      ∙ ap (told_by number) (sym (by_rules st table names c.line c.room rows places).refusal_is ∙ same_refusal (day_of st table names) c.line reached c.room enough);
  out_long = λ day number a b h k. tape_long day a h ∙ sym (tape_long day b k);
  err_long = λ day number a b h k. ap (told_by number) (refused day a longest_print h ∙ sym (refused day b longest_print k));
}

-- ---- of lines, joined

tape_none : (day : Day) (n : ℕ) → tape_of_lines day [] ≡ []
unfolding tape_of_lines
tape_none day n = refl

tape_more : (day : Day) (n : ℕ) (l : List ℕ) (ls : List (List ℕ)) → tape_of_lines day (l ∷ ls) ≡ tape_of day (ample l) ++ tape_of_lines (after day (ample l)) ls
unfolding tape_of_lines
tape_more day n l ls = refl

refusals_none : (day : Day) (n : ℕ) → refusals_of_lines day n [] ≡ []
unfolding refusals_of_lines
refusals_none day n = refl

refusals_more : (day : Day) (n : ℕ) (l : List ℕ) (ls : List (List ℕ)) → refusals_of_lines day n (l ∷ ls) ≡ told_by n (refusal_of day l longest_print) ++ refusals_of_lines (after day (ample l)) (n + 1) ls
unfolding refusals_of_lines
refusals_more day n l ls = refl

-- THE TAPE OF A DAY
pub day_tape : {block input out err : List ℕ} {whole : Bool} → width < length block → Session day_program opening (replicate table_size 0) (replicate names_size 0) block input whole out err → DayTape (take last_line (lines_by whole input)) out err
day_tape {block} {input} {out} {err} {whole} b s =
    let z = session_output tells b s in
    record {
      tape_is = z.0 ∙ all_told tape (λ day n ls. tape_of_lines day ls) tape_none tape_more fresh (lines_by whole input);
      refusals_are = z.1 ∙ all_told refusals refusals_of_lines refusals_none refusals_more fresh (lines_by whole input);
    }

-- ---- and every input has a session

fits : Fits day_program
fits = record {
  out_fits = λ st table names number line n rows places reached early wide.
      omega (
        arith,
        ap length (sym (by_rules st table names line n rows places).print_is ∙ same_tape (day_of st table names) line reached n wide),
        tape_most (day_of st table names) line,
      );
  err_fits = λ st table names number line n k rows places reached early deep. omega (arith, told_fits number 0 (outcome_of (asked st table names line n) (length (printed.print_of st names (asked st table names line n)))) (replicate 14 0) (omega arith) early);
}

pub day_exists : (lent_out lent_err block input : List ℕ) → longest_print ≤ length lent_out → 14 ≤ length lent_err → width < length block → Has day_program opening (replicate table_size 0) (replicate names_size 0) block input
day_exists lent_out lent_err block input a b c = session_exists tells fits lent_out lent_err a b block input c
