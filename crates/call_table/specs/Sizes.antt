-- Sizes of the lent tables, each as the constant of its name in src has it. Assumes nothing.
use Rattle.std.specs.Prelude.{ℕ, ◌+◌, ◌*◌}
use Rattle.rules.specs.Sizes.{security_places, name_width}

-- where in a row the numbers of each part of a security begin, and how many there are in all
abbrev pub issue_at : ℕ
issue_at = 0

abbrev pub printed_at : ℕ
printed_at = issue_at + 4

abbrev pub range_at : ℕ
range_at = printed_at + 1

abbrev pub counts_at : ℕ
counts_at = range_at + 3

abbrev pub row_size : ℕ
row_size = counts_at + 3

abbrev pub table_size : ℕ
table_size = security_places * row_size

abbrev pub names_size : ℕ
names_size = security_places * name_width
