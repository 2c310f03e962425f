-- Tests of flags, beside those of numbers and of callees' answers. Assumes nothing.
use Rattle.text.proofs.Tests.{is_le, is_nle, is_eq, is_ne, and_no, and_yes, not_yes, not_no}
use Rattle.text.proofs.Told.{told, pick_true, pick_false, told_not, told_not_not, flag_no, flag_yes}

pub ruleset flags = (told, flag_no, flag_yes)

-- for a row of tests, each by a callee or a flag
pub ruleset rows = (and_no, and_yes, told_not, told_not_not, flag_no, flag_yes)

-- for refusals in a row
pub ruleset refusals = (pick_true, pick_false, not_yes, not_no, is_eq, is_ne, rows)
