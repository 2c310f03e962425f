use borrow.Author.Rules.{rules}
use native.Mathlib.Omega.{arith}
use Rattle.name_text.proofs.Laying.{from_end, from_blank, from_byte, from_start}
use Rattle.name_text.proofs.word_size.Goals as goal

pub loop-i-init : goal.loop-i-init
loop-i-init c = (search rules, search rules, search from_end)

pub loop-i-preserved-then-field-i-eq32 : goal.loop-i-preserved-then-field-i-eq32
loop-i-preserved-then-field-i-eq32 c = (omega arith, omega arith, search from_blank)

pub loop-i-preserved : goal.loop-i-preserved
loop-i-preserved c = (omega arith, omega arith, search from_byte)

pub returns : goal.returns
returns c = search from_start
