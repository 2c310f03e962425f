-- One call, put together: its explanation, the explanation's line, the day after it. Assumes nothing.
use Prim.Native.Nat.{ℕ, ◌≤◌}
use native.Mathlib.Omega.{arith}
use mathlib.Core.Path.{◌≡◌}
use mathlib.Core.List.{List}
use lib.ListN.{length}
use Rattle.text.specs.Put.{Written}
use Rattle.rules.specs.Day.{Day, ample}
use Rattle.rules.specs.declared.Settings.{Settings}
use Rattle.rules.specs.Sizes.{longest_print}
use Rattle.call_table.specs.Sizes.{table_size, names_size}
use Rattle.call_table.specs.Rows.{day_of}
use Rattle.engine.specs.declared.Answer.{Answer}
use Rattle.engine.specs.Taken.{Taken}
use Rattle.explain_fate.specs.Explained.{explained_by}
use Rattle.explain_fate.specs.declared.Explanation.{Explanation}
use Rattle.explain_fate.proofs.Agree.{explained_small}
use Rattle.explain_text.specs.Lines.{line_of}
use Rattle.explain_text.proofs.Short.{line_short}
use Rattle.feed_gather.specs.Gather.{last_line, Tells}
use Rattle.explain_block.specs.Explains.{explain_program, explanation_room}

-- an explanation's line fits
pub line_room : (day : Day) (line : List ℕ) (number m : ℕ) (e : Explanation) → e ≡ explained_by day (record { line = line; room = longest_print }) → number ≤ last_line → explanation_room ≤ m → length (line_of number e) ≤ m
line_room day line number m e h k l =
    let small : e.security ≤ 512 = rw h (explained_small day (ample line)) in
    omega (arith, line_short number e k small)

module _ (st : Settings) (number : ℕ) (table names line tape table' names' tape' rest rest' : List ℕ) (a : Answer) (e : Explanation) (n : ℕ) where
  pub call_explained : Taken st table names line tape table' names' tape' a → length table ≡ table_size → length names ≡ names_size → length tape ≡ longest_print
      → e ≡ explained_by (day_of st table names) (record { line = line; room = longest_print }) → Written (line_of number e) rest rest' n
      → Tells explain_program st table names number line rest table' names' rest' (record { settings = a.settings; count = n })
  call_explained t rows places size h w =
      record {
        settings_is = rw (← size) t.settings;
        table_is = rw (← size) t.table_is;
        names_is = rw (← size) t.names_is;
        out_is = rw (← h) w;
      }
