use Rattle.line_letters.proofs.Letters.{lawful_none, lawful_one}
use Rattle.line_letters.proofs.lawful_letters.Goals as goal
use Rattle.line_letters.proofs.lawful_letters.Goals.{then-field-eq32-via-then-field-eq32, then-field-eq32-via-else-field-eq32+then-field-eq32-2}

pub returns-then-field-eq32 : goal.returns-then-field-eq32
returns-then-field-eq32 c = elim c.then-field-eq32.branch [ then-field-eq32-via-then-field-eq32 w ↦ search lawful_none | then-field-eq32-via-else-field-eq32+then-field-eq32-2 w ↦ search lawful_one ]
