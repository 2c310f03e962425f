-- What a program gathers of day lines: they go to the engine one after the other, and what the program tells of each is joined. One family for the programs that take a day file, over what they tell of a line (`Program`). Assumes nothing.
use Rattle.std.specs.Prelude.{ℕ, ◌+◌, ◌-◌, ◌≡◌, Bool, true, false, ◌&&◌, List, [], ◌∷◌, ◌++◌, leb, ltb, length, drop}
use Rattle.text.specs.Pick.{pick}
use Rattle.text.specs.Put.{Written}
use Rattle.rules.specs.Sizes.{longest_print}
use Rattle.rules.specs.Day.{Call}
use Rattle.rules.specs.declared.Settings.{Settings}
use Rattle.call_plan.specs.declared.Plan.{Plan}
use Rattle.engine.specs.Taken.{asked}
use Rattle.call_state.specs.After.{settings_after, table_after, names_after}
use Rattle.feed_blocks.specs.Lines.{cut}
use Rattle.feed_gather.specs.declared.Fed.{Fed}
use Rattle.feed_gather.specs.declared.Told.{Told}

-- reading ends after this line (document 01, "Shown facts and the whole day")
abbrev pub last_line : ℕ
last_line = 9999999999

-- WHAT A PROGRAM TELLS OF A LINE, on standard output and on standard error: of the engine's state (settings, both tables), the line's number, and its call
pub record Program : Type 0 where
  -- how much tape a call is lent, where so many bytes are left for standard output
  pub lent : ℕ → ℕ
  pub out : Settings → List ℕ → List ℕ → ℕ → Call → List ℕ
  pub err : Settings → List ℕ → List ℕ → ℕ → Call → List ℕ
  -- a line is taken where so many bytes are left for each
  pub out_most : ℕ
  pub err_most : ℕ

-- what is told of a line on standard output
abbrev pub Text : Type 0
Text = Settings → List ℕ → List ℕ → ℕ → Call → List ℕ

-- the program that tells `text` of a line, for which `room` bytes are enough, on standard output alone; each call is lent a tape of `longest_print` bytes
abbrev pub telling : ℕ → Text → Program
telling room text = record { lent = λ left. longest_print; out = text; err = λ st table names number c. []; out_most = room; err_most = 0 }

-- where the reading of a block stands: the engine's state, the number of the next line, the bytes that are read, and what was told so far, each joined in order
pub record Progress : Type 0 where
  pub settings : Settings
  pub table : List ℕ
  pub names : List ℕ
  pub number : ℕ
  pub at : ℕ
  pub out : List ℕ
  pub err : List ℕ

abbrev pub started : Settings → List ℕ → List ℕ → ℕ → Progress
started st table names number = record { settings = st; table = table; names = names; number = number; at = 0; out = []; err = [] }

-- the same as the code has it
abbrev pub nothing_read : Settings → ℕ → Fed
nothing_read st number = record { settings = st; number = number; at = 0; out = 0; err = 0 }

-- ---- one line

-- the call of a line, where `room` bytes are lent for standard output
abbrev pub call_of : Program → ℕ → List ℕ → Progress → Call
call_of g room line p = record { line = line; room = g.lent (room - length p.out) }

-- a line's plan carried out and told; the line and its line feed are read
unfoldable pub carried : Program → Call → Progress → Plan → Progress
carried g c p q = record {
  settings = settings_after p.settings q;
  table = table_after p.table q;
  names = names_after p.names c.line q;
  number = p.number + 1;
  at = p.at + length c.line + 1;
  out = p.out ++ g.out p.settings p.table p.names p.number c;
  err = p.err ++ g.err p.settings p.table p.names p.number c;
}

-- the engine takes a line
unfoldable pub line_taken : Program → ℕ → List ℕ → Progress → Progress
line_taken g room line p = carried g (call_of g room line p) p (asked p.settings p.table p.names line (g.lent (room - length p.out)))

-- ---- many

-- there is room for what is told of a line, and reading has not ended: `n` bytes of `out` are used for standard output, `k` of `err` for standard error
unfoldable pub room_left : Program → ℕ → ℕ → ℕ → ℕ → ℕ → Bool
room_left g out err n k number = leb g.out_most (out - n) && (leb g.err_most (err - k) && leb number last_line)

-- lines are taken in order, as long as there is room
unfoldable pub lines_taken : Program → ℕ → ℕ → List (List ℕ) → Progress → Progress
lines_taken g out err [] p = p
lines_taken g out err (l ∷ ls) p = elim (room_left g out err (length p.out) (length p.err) p.number) [ true ↦ lines_taken g out err ls (line_taken g out l p) | false ↦ p ]

-- a block: each line that a line feed ends
unfoldable pub block_taken : Program → ℕ → ℕ → List ℕ → Progress → Progress
block_taken g out err block p = lines_taken g out err (cut block).ended p

-- ---- from a place on, in a block, or (`true`) in a last line, which no line feed ends

-- the lines ahead: of a block those that a line feed ends, of a last line what is left of it, until its end is read
unfoldable pub lines_from : Bool → List ℕ → ℕ → List (List ℕ)
lines_from false block at = (cut (drop at block)).ended
lines_from true line at = pick (ltb (length line) at) [] (drop at line ∷ [])

-- ---- the promise of whoever takes lines: the answer, both tables and the lent memory at exit, which held `out₀` and `err₀` at the start
pub record Stands (out₀ err₀ : List ℕ) (p : Progress) (table names out err : List ℕ) (f : Fed) : Type 0 where
  pub settings_is : f.settings ≡ p.settings
  pub number_is : f.number ≡ p.number
  pub at_is : f.at ≡ p.at
  pub table_is : table ≡ p.table
  pub names_is : names ≡ p.names
  pub out_is : Written p.out out₀ out f.out
  pub err_is : Written p.err err₀ err f.err

-- the promise of whoever takes one line and tells of it on standard output alone, at the front of `rest`: state, line and rest at entry, tables and rest at exit, and the answer
pub record Tells (g : Program) (st : Settings) (table names : List ℕ) (number : ℕ) (line rest table' names' rest' : List ℕ) (r : Told) : Type 0 where
  pub settings_is : r.settings ≡ settings_after st (asked st table names line (g.lent (length rest)))
  pub table_is : table' ≡ table_after table (asked st table names line (g.lent (length rest)))
  pub names_is : names' ≡ names_after names line (asked st table names line (g.lent (length rest)))
  pub out_is : Written (g.out st table names number (record { line = line; room = g.lent (length rest) })) rest rest' r.count

-- a step from wherever the reading stands
abbrev pub Steps : Program → List ℕ → List ℕ → List ℕ → List ℕ → List ℕ → Fed → List ℕ → List ℕ → List ℕ → List ℕ → Fed → Type 0
Steps g line table names out err f table' names' out' err' r =
    (out₀ err₀ : List ℕ) (p : Progress) → Stands out₀ err₀ p table names out err f → Stands out₀ err₀ (line_taken g (length out₀) line p) table' names' out' err' r

-- the reading stands somewhere in the block, and the lines ahead lead to `goal`
pub record Here (g : Program) (last : Bool) (block out₀ err₀ : List ℕ) (goal : Progress) (table names out err : List ℕ) (f : Fed) : Type 0 where
  pub p : Progress
  pub stands : Stands out₀ err₀ p table names out err f
  pub onward : lines_taken g (length out₀) (length err₀) (lines_from last block f.at) p ≡ goal
