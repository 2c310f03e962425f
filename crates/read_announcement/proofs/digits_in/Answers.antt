use mathlib.Core.Path.{refl}
use Rattle.read_announcement.proofs.Reading.{digits_more, digits_all, digits_small, digits_grow}
use borrow.Author.Rules.{rules}
use Rattle.read_announcement.proofs.digits_in.Goals as goal

pub loop-c-init : goal.loop-c-init
loop-c-init c = (search rules, refl, search rules)

pub with_digit-n-requires : goal.with_digit-n-requires
with_digit-n-requires c = search digits_small

pub loop-c-preserved : goal.loop-c-preserved
loop-c-preserved c = (search rules, search digits_more, search digits_grow)

pub returns : goal.returns
returns c = search digits_all
