use borrow.Author.Rules.{rules}
use native.Mathlib.Omega.{arith}
use mathlib.Core.Path.{◌≡◌, refl, ◌∙◌}
use lib.ListN.{length-set}
use Rattle.text.specs.Put.{put}
use Rattle.text.specs.Decimal.{places}
use Rattle.text.proofs.Decimal.{length_places, one_digit}
use Rattle.text.proofs.write_places.Goals as goal

pub loop-i-init : goal.loop-i-init
unfolding put
loop-i-init c = (search rules, rw length_places, refl)

pub loop-i-preserved : goal.loop-i-preserved
loop-i-preserved c = let l = c.loop-i in
    (search rules, one_digit l.rest l.i l.m (search rules) (search rules) ∙ l.invariant.1, simp length-set l.invariant.2)

pub returns : goal.returns
unfolding places
returns c = let l = c.loop-i in
    let e : l.i ≡ 0 = omega arith in
    record { tape = rw e at l.invariant.1; count_is = rw length_places; within = search rules }
