use Rattle.line_fields.proofs.Texts.{told_found, told_none, passed}
use Rattle.line_fields.proofs.is_printable_text.Goals as goal
use Rattle.line_fields.proofs.is_printable_text.Goals.{else-not-is_printable, then-not-is_printable}

pub loop-c-preserved : goal.loop-c-preserved
loop-c-preserved c = elim c.if-not-is_printable.branch [ then-not-is_printable w ↦ search told_found | else-not-is_printable w ↦ search told_none ]

pub returns : goal.returns
returns c = search passed
