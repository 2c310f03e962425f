-- The three texts of a day's lines are joined from the same lines, each on the day that those before it left. Assumes nothing.
use Prim.Native.Nat.{ℕ, ◌+◌}
use native.Mathlib.Omega.{arith}
use mathlib.Core.Path.{◌≡◌, refl, ap, ◌∙◌}
use mathlib.Core.List.{List, [], ◌∷◌, ◌++◌}
use lib.ListN.{length, length-append}
use Rattle.rules.specs.Day.{Day, fresh, tape_of, after, ample}
use Rattle.rules.specs.Shown.{shown_by}
use Rattle.claim_daytape.specs.Claim.{tape_of_lines, day_of_lines}
use Rattle.facts_line.specs.Lines as facts
use Rattle.facts_block.specs.Whole.{shown_text}
use Rattle.facts_block.proofs.Whole as shown
use Rattle.explain_fate.specs.Explained.{explained_by}
use Rattle.explain_text.specs.Lines as explanations
use Rattle.explain_block.specs.Whole.{explained_text}
use Rattle.claim_oneday.specs.Claim.{DayLine, day_lines, line_number, day_found, call_made, joined, OneDay}
use Rattle.claim_oneday.proofs.Lines.{one_line}

-- the day behind one line more
day_on : (day : Day) (before : List (List ℕ)) (l : List ℕ) → day_of_lines day (before ++ (l ∷ [])) ≡ after (day_of_lines day before) (ample l)
unfolding day_of_lines
day_on day [] l = refl
day_on day (b ∷ before) l = day_on (after day (ample b)) before l

-- ---- any text that is made line by line

module _ (text : DayLine → List ℕ) (whole : List (List ℕ) → List (List ℕ) → List ℕ)
    (none_left : (before : List (List ℕ)) → whole before [] ≡ [])
    (one_more : (before : List (List ℕ)) (l : List ℕ) (ls : List (List ℕ)) → whole before (l ∷ ls) ≡ text (record { before = before; line = l }) ++ whole (before ++ (l ∷ [])) ls) where
  line_by_line : (before ls : List (List ℕ)) → whole before ls ≡ joined text (day_lines before ls)
  unfolding joined day_lines
  line_by_line before [] = none_left before
  line_by_line before (l ∷ ls) = one_more before l ls ∙ ap (λ (t : List ℕ). text (record { before = before; line = l }) ++ t) (line_by_line (before ++ (l ∷ [])) ls)

-- ---- the tape, the facts, the explanations

module _ (before : List (List ℕ)) where
  abbrev day : Day
  day = day_of_lines fresh before

  tape_none : tape_of_lines day [] ≡ []
  unfolding tape_of_lines
  tape_none = refl

  explained_none : explained_text day (length before + 1) [] ≡ []
  unfolding explained_text
  explained_none = refl

  module _ (l : List ℕ) (ls : List (List ℕ)) where
    tape_more : tape_of_lines day (l ∷ ls) ≡ tape_of day (ample l) ++ tape_of_lines (day_of_lines fresh (before ++ (l ∷ []))) ls
    unfolding tape_of_lines
    tape_more = rw (day_on fresh before l)

    facts_more : shown_text day (l ∷ ls) ≡ facts.line_of (shown_by day (ample l)) ++ shown_text (day_of_lines fresh (before ++ (l ∷ []))) ls
    facts_more = rw (day_on fresh before l) (shown.text_on day l ls)

    explained_more : explained_text day (length before + 1) (l ∷ ls) ≡ explanations.line_of (length before + 1) (explained_by day (ample l)) ++ explained_text (day_of_lines fresh (before ++ (l ∷ []))) (length (before ++ (l ∷ [])) + 1) ls
    unfolding explained_text
    explained_more =
        let e : length (before ++ (l ∷ [])) + 1 ≡ length before + 1 + 1 = omega (arith, length-append before (l ∷ [])) in
        rw (day_on fresh before l, e)

-- ONE DAY: of any lines, from a fresh state
pub one_day : (ls : List (List ℕ)) → OneDay ls
unfolding day_of_lines
one_day ls = record {
  tape_is = line_by_line (λ l. tape_of (day_found l) (call_made l)) (λ before ls. tape_of_lines (day_of_lines fresh before) ls) tape_none tape_more [] ls;
  facts_are = line_by_line (λ l. facts.line_of (shown_by (day_found l) (call_made l))) (λ before ls. shown_text (day_of_lines fresh before) ls) (λ before. shown.text_none (day_of_lines fresh before)) facts_more [] ls;
  explanations_are = line_by_line (λ l. explanations.line_of (line_number l) (explained_by (day_found l) (call_made l))) (λ before ls. explained_text (day_of_lines fresh before) (length before + 1) ls) explained_none explained_more [] ls;
  each = one_line;
}
