-- What `explain` tells of a line: its explanation (crate explain_text), each call lent a tape of `longest_print` bytes. Assumes nothing.
use Rattle.std.specs.Prelude.{ℕ}
use Rattle.call_table.specs.Rows.{day_of}
use Rattle.feed_gather.specs.Gather.{Text, telling, Program}
use Rattle.explain_fate.specs.Explained.{explained_by}
use Rattle.explain_text.specs.Lines.{line_of}

-- any explanation has room in it (crate explain_text, `line_short`)
abbrev pub explanation_room : ℕ
explanation_room = 238

abbrev pub told_explained : Text
told_explained st table names number c = line_of number (explained_by (day_of st table names) c)

abbrev pub explain_program : Program
explain_program = telling explanation_room told_explained
