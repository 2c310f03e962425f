-- The lines of a tape's facts, one a print (document 01, "Reader"). Assumes nothing.
use Rattle.std.specs.Prelude.{ℕ, List}
use Rattle.read_tape.specs.Tape.{read_from}
use Rattle.read_told.specs.Lines.{print_line}

-- no line is longer
abbrev pub longest_line : ℕ
longest_line = 605

-- of a whole tape: at a refusal the length 0, no name and `-`, and it stops
unfoldable pub tape_facts : List ℕ → List ℕ
tape_facts tape = read_from print_line tape 0
