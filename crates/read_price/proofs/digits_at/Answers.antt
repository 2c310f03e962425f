use mathlib.Core.Path.{sym, ◌∙◌}
use borrow.Author.Rules.{rules}
use Rattle.text.specs.Reading.{is_digit}
use Rattle.read_price.proofs.Front.{digits_start, digits_ended, digits_other, digits_more, digits_most, ten_fits, more_fits, grows}
use Rattle.read_price.proofs.digits_at.Goals.{then-s-i-via-then-s-i, then-s-i-via-else-s-i+then-not-is_ascii_digit}
use Rattle.read_price.proofs.digits_at.Goals as goal

pub loop-i-init : goal.loop-i-init
loop-i-init c = (search digits_start, search rules)

pub returns-then-s-i : goal.returns-then-s-i
unfolding is_digit
returns-then-s-i c = elim c.then-s-i.branch [
  | then-s-i-via-then-s-i w ↦ search digits_ended
  | then-s-i-via-else-s-i+then-not-is_ascii_digit w ↦ digits_other _ _ _ _ _ c.loop-i.invariant.0 c.loop-i-test.true w.if-s-i.false (sym w.is_ascii_digit.ensures.value ∙ w.if-not-is_ascii_digit.true)
]

pub overflow_mul-value : goal.overflow_mul-value
overflow_mul-value c = record { fits = search ten_fits }

pub overflow_add-value : goal.overflow_add-value
overflow_add-value c = let h = c.if-not-is_ascii_digit.ensures.cases in record { fits = search more_fits }

pub loop-i-preserved : goal.loop-i-preserved
loop-i-preserved c = let h = c.if-not-is_ascii_digit.ensures.cases in (search digits_more, search grows)

pub returns : goal.returns
returns c = digits_most c.args.s.now _ _ _ _ c.loop-i.invariant.0 c.loop-i.auto.i-end c.loop-i-test.false
