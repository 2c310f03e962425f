use Rattle.std.proofs.Common.{sym, ◌∙◌}
use Rattle.name_suffix.proofs.Lawful.{unjustified, left_blank, listed_text}
use Rattle.name_suffix.proofs.is_lawful_field.Goals as goal
use Rattle.name_suffix.proofs.is_lawful_field.Goals.{then-n-eq0, else-n-eq0}

pub returns-then-not-is_left_justified : goal.returns-then-not-is_left_justified
returns-then-not-is_left_justified g c listed _ = search unjustified

pub returns : goal.returns
returns g c listed says =
    elim c.if-n-eq0.branch [
      | then-n-eq0 w ↦ w.result-is ∙ left_blank listed c.args.field.now _ c.is_left_justified.ensures c.word_length-n.result c.if-not-is_left_justified.false c.word_length-n.ensures w.if-n-eq0.true
      | else-n-eq0 w ↦ w.result-is ∙ listed_text listed c.args.field.now _ c.is_left_justified.ensures c.word_length-n.result _ c.if-not-is_left_justified.false c.word_length-n.ensures w.if-n-eq0.false (says _ (record { shown = _; shows = sym c.word_length-n.ensures.text_is; says = record { met = w.is_listed.ensures } }))
    ]
