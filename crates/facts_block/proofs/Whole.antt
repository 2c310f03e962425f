-- The text of the shown facts, line by line. Assumes nothing.
use Prim.Native.Nat.{ℕ}
use mathlib.Core.Path.{◌≡◌, refl}
use mathlib.Core.List.{List, [], ◌∷◌, ◌++◌}
use mathlib.Core.Option.{Option, none, some}
use Rattle.rules.specs.Day.{Day, after, ample}
use Rattle.rules.specs.Shown.{Fact, entries, shown_by, shown}
use Rattle.facts_line.specs.Lines.{line_of}
use Rattle.facts_block.specs.Whole.{facts_text, calls_of, shown_text}

-- an entry's line in front
entry_text : (o : Option Fact) (l : List Fact) → facts_text (entries o ++ l) ≡ line_of o ++ facts_text l
unfolding facts_text line_of
entry_text none l = refl
entry_text (some f) l = refl

pub text_on : (day : Day) (l : List ℕ) (ls : List (List ℕ)) → shown_text day (l ∷ ls) ≡ line_of (shown_by day (ample l)) ++ shown_text (after day (ample l)) ls
unfolding shown_text calls_of shown
text_on day l ls = entry_text (shown_by day (ample l)) (shown (after day (ample l)) (calls_of ls))

pub text_none : (day : Day) → shown_text day [] ≡ []
unfolding shown_text calls_of shown facts_text
text_none day = refl
