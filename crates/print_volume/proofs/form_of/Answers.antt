use Rattle.print_volume.proofs.Forms.{formed_shares, formed_hundreds, formed_tens, formed_odd, formed_full_hundreds, formed_full_tens}
use Rattle.print_volume.proofs.form_of.Goals as goal

pub returns-then-is_in_shares : goal.returns-then-is_in_shares
returns-then-is_in_shares c = search formed_shares

pub returns-then-unit-eq100 : goal.returns-then-unit-eq100
returns-then-unit-eq100 c = search formed_hundreds

pub returns-then-v-eq0 : goal.returns-then-v-eq0
returns-then-v-eq0 c = search formed_tens

pub returns-else-v-eq0 : goal.returns-else-v-eq0
returns-else-v-eq0 c = search formed_odd

pub returns-then-unit-eq100-2 : goal.returns-then-unit-eq100-2
returns-then-unit-eq100-2 c = search formed_full_hundreds

pub returns-else-unit-eq100-2 : goal.returns-else-unit-eq100-2
returns-else-unit-eq100-2 c = search formed_full_tens
