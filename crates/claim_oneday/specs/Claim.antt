-- ONE DAY: what the day program, `factlines` and `explain` write of the same lines speaks of the same calls, each on the day that the lines before it left. Assumes nothing.
use Rattle.std.specs.Prelude.{ℕ, ◌+◌, ◌≡◌, Bool, true, false, List, [], ◌∷◌, ◌++◌, leb, length}
use Rattle.std.proofs.Math.Option.{Option, none, some}
use Rattle.rules.specs.Sizes.{longest_print}
use Rattle.rules.specs.Refusal.{refusal_number}
use Rattle.rules.specs.Day.{Day, Call, fresh, refusal_of, tape_of, ample}
use Rattle.rules.specs.Shown.{Fact, shown_by}
use Rattle.claim_daytape.specs.Claim.{tape_of_lines, day_of_lines}
use Rattle.facts_line.specs.Lines as facts
use Rattle.facts_block.specs.Whole.{shown_text}
use Rattle.explain_fate.specs.Explained.{fate_by, explained_by, fate_number, is_on_tape}
use Rattle.explain_text.specs.Lines as explanations
use Rattle.explain_block.specs.Whole.{explained_text}

-- ---- the lines of a day

-- a line, and those before it
pub record DayLine : Type 0 where
  pub before : List (List ℕ)
  pub line : List ℕ

-- the lines ls behind others, in order
unfoldable pub day_lines : List (List ℕ) → List (List ℕ) → List DayLine
day_lines before [] = []
day_lines before (l ∷ ls) = record { before = before; line = l } ∷ day_lines (before ++ (l ∷ [])) ls

-- from a fresh state: its number, the day that it finds, and its call, lent room for any print
abbrev pub line_number : DayLine → ℕ
line_number l = length l.before + 1

abbrev pub day_found : DayLine → Day
day_found l = day_of_lines fresh l.before

abbrev pub call_made : DayLine → Call
call_made l = ample l.line

-- what each line adds, joined in order
unfoldable pub joined : (DayLine → List ℕ) → List DayLine → List ℕ
joined text [] = []
joined text (l ∷ ls) = text l ++ joined text ls

-- a call adds an entry to the shown facts
abbrev pub is_shown : Option Fact → Bool
is_shown none = false
is_shown (some f) = true

-- ---- THE CLAIM

-- any line: never refused 13, told by the refusal's own number, shown exactly if it prints, and announced or printed exactly if it prints
pub record OneLine (l : DayLine) : Type 0 where
  pub room_enough : refusal_number (refusal_of (day_found l) l.line longest_print) ≡ 13 → ⊥
  pub number_is : fate_number (fate_by (day_found l) (call_made l)) ≡ refusal_number (refusal_of (day_found l) l.line longest_print)
  pub shown_is : is_shown (shown_by (day_found l) (call_made l)) ≡ leb 1 (length (tape_of (day_found l) (call_made l)))
  pub on_tape_is : is_on_tape (fate_by (day_found l) (call_made l)) ≡ leb 1 (length (tape_of (day_found l) (call_made l)))

-- all lines: the tape, the facts and the explanations are those of the same calls on the same days
pub record OneDay (ls : List (List ℕ)) : Type 0 where
  pub tape_is : tape_of_lines fresh ls ≡ joined (λ l. tape_of (day_found l) (call_made l)) (day_lines [] ls)
  pub facts_are : shown_text fresh ls ≡ joined (λ l. facts.line_of (shown_by (day_found l) (call_made l))) (day_lines [] ls)
  pub explanations_are : explained_text fresh 1 ls ≡ joined (λ l. explanations.line_of (line_number l) (explained_by (day_found l) (call_made l))) (day_lines [] ls)
  pub each : (l : DayLine) → OneLine l
