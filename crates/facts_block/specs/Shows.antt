-- What `factlines` tells of a line: the line of its shown facts (crate facts_line), each call lent a tape of `longest_print` bytes. Assumes nothing.
use Rattle.std.specs.Prelude.{ℕ, ◌+◌}
use Rattle.rules.specs.Shown.{shown_by}
use Rattle.rules.specs.Sizes.{longest_print}
use Rattle.call_table.specs.Rows.{day_of}
use Rattle.feed_gather.specs.Gather.{Text, telling, Program}
use Rattle.facts_line.specs.Lines.{line_of}

-- any line of shown facts has room in it (crate facts_line, `entry_short`)
abbrev pub fact_room : ℕ
fact_room = 186 + longest_print

abbrev pub told_facts : Text
told_facts st table names number c = line_of (shown_by (day_of st table names) c)

abbrev pub facts_program : Program
facts_program = telling fact_room told_facts
