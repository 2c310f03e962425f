-- What the day program tells of a line (document 01, "Shown facts and the whole day"): its print on standard output, its refusal on standard error. Assumes nothing.
use Rattle.std.specs.Prelude.{ℕ, ◌≤◌, Bool, List, [], Result, Ok, Err, eqb, length}
use Rattle.text.specs.Pick.{pick}
use Rattle.rules.specs.Refusal.{number_of}
use Rattle.rules.specs.Sizes.{longest_print}
use Rattle.rules.specs.declared.Refusal.{Refusal}
use Rattle.engine.specs.Taken.{asked, outcome_of}
use Rattle.call_print.specs.Print.{print_of}
use Rattle.feed_blocks.specs.Lines.{ends_at}
use Rattle.feed_gather.specs.Gather.{Program, Progress, Here}
use Rattle.feed_gather.specs.declared.Fed.{Fed}
use Rattle.feed_lines.specs.Refusals.{refusal_line}

-- what is told of an outcome
unfoldable pub told : ℕ → Result ℕ Refusal → List ℕ
told number (Ok n) = []
told number (Err r) = refusal_line number (number_of r)

-- the engine is lent what is left of the tape; a line is taken where `longest_print` bytes of it are left, and 14 for its refusal
abbrev pub day_program : Program
day_program = record {
  lent = λ left. left;
  out = λ st table names number c. print_of st names (asked st table names c.line c.room);
  err = λ st table names number c. told number (outcome_of (asked st table names c.line c.room) (length (print_of st names (asked st table names c.line c.room))));
  out_most = longest_print;
  err_most = 14;
}

-- a line ends at a place: a last line where the block ends, any other at a line feed
unfoldable pub ends_line : Bool → List ℕ → ℕ → Bool
ends_line last block at = pick last (eqb at (length block)) (ends_at block at)

-- lines of the block are taken from wherever the reading stands: it goes on to the same goal, within the lent tape and refusals
pub record Runs (last : Bool) (block names refusals table tape : List ℕ) (f : Fed) (table' tape' : List ℕ) (r : Fed) : Type 0 where
  pub to : (tape₀ refusals₀ : List ℕ) (goal : Progress) → Here day_program last block tape₀ refusals₀ goal table names tape refusals f → Here day_program last block tape₀ refusals₀ goal table' names tape' refusals r
  pub ahead : f.at ≤ r.at
  pub tape_in : r.out ≤ length tape'
  pub refusals_in : r.err ≤ length refusals
