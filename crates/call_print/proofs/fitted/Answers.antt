use native.Mathlib.Omega.{arith}
use Rattle.call_print.specs.Print.{printed_name, print_of}
use Rattle.call_print.proofs.Arms.{printed_short}
use Rattle.call_print.proofs.Room.{told_short, told_fits}
use Rattle.call_print.proofs.Most.{any_fits}
use borrow.Author.Rules.{rules}
use Rattle.call_print.proofs.fitted.Goals as goal

-- with room for the longest print nothing need be asked: no name is longer than 22 bytes, so no print than that
pub returns-then-room-ge-LONGEST_PRINT : goal.returns-then-room-ge-LONGEST_PRINT
returns-then-room-ge-LONGEST_PRINT c = let s = c in
    any_fits s.args.st (printed_name s.args.names.now s.args.p) s.args.line.now (omega (arith, s.well_formed.0)) (printed_short s.args.names.now s.args.p) s.args.p s.args.room (search rules) (search rules)

pub returns-then-room-text_length : goal.returns-then-room-text_length
unfolding print_of
returns-then-room-text_length c = search told_short

pub returns : goal.returns
unfolding print_of
returns c = search told_fits
