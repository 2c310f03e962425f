-- The state after a plan (document 01, "Day lines"). Assumes nothing.
use Rattle.std.specs.Prelude.{ℕ, ◌*◌, List, replicate}
use Rattle.call_table.specs.Sizes.{table_size, names_size}
use Rattle.rules.specs.Line.{name_columns}
use Rattle.rules.specs.Day.{opened}
use Rattle.rules.specs.declared.Settings.{Settings}
use Rattle.call_table.specs.Rows.{with_row, with_name}
use Rattle.call_plan.specs.declared.Plan.{Plan}
use Rattle.call_plan.specs.declared.Plan.TheVariants.{Stop, Open, Enter, Change, Level, Step, Print, Cancel, Correct}

unfoldable pub settings_after : Settings → Plan → Settings
settings_after st (Stop r) = st
settings_after st (Open n) = opened n
settings_after st (Enter i s) = st
settings_after st (Change m) = record { date = st.date; mode = m; level = st.level; minimum = st.minimum }
settings_after st (Level n) = record { date = st.date; mode = st.mode; level = n; minimum = st.minimum }
settings_after st (Step n) = record { date = st.date; mode = st.mode; level = st.level; minimum = n }
settings_after st (Print t) = st
settings_after st (Cancel t) = st
settings_after st (Correct c) = st

unfoldable pub table_after : List ℕ → Plan → List ℕ
table_after table (Stop r) = table
table_after table (Open n) = replicate table_size 0
table_after table (Enter i s) = with_row table i s
table_after table (Change m) = table
table_after table (Level n) = table
table_after table (Step n) = table
table_after table (Print t) = with_row table t.place t.after
table_after table (Cancel t) = table
table_after table (Correct c) = with_row table c.place c.after

unfoldable pub names_after : List ℕ → List ℕ → Plan → List ℕ
names_after names line (Stop r) = names
names_after names line (Open n) = replicate names_size 0
names_after names line (Enter i s) = with_name names (i * 19) (name_columns line)
names_after names line (Change m) = names
names_after names line (Level n) = names
names_after names line (Step n) = names
names_after names line (Print t) = names
names_after names line (Cancel t) = names
names_after names line (Correct c) = names
