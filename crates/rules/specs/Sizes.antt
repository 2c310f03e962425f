-- Sizes, each as the constant of its name in src has it. Assumes nothing.
use Rattle.std.specs.Prelude.{ℕ}

-- the columns of a day line
abbrev pub width : ℕ
width = 100

-- how many securities a day may have
abbrev pub security_places : ℕ
security_places = 512

-- the columns of a name
abbrev pub name_width : ℕ
name_width = 19

-- no print is longer
abbrev pub longest_print : ℕ
longest_print = 400
