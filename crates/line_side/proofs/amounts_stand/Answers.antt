use Rattle.text.specs.Pick.{pick}
use Rattle.line_columns.specs.Columns.{begins, placed}
use Rattle.line_side.proofs.Amounts.{tabled, amounts_yes}
use Rattle.line_side.proofs.amounts_stand.Goals as goal

pub returns-then-part-eq32 : goal.returns-then-part-eq32
unfolding tabled begins placed pick
returns-then-part-eq32 c = search amounts_yes
