-- How long the line of an explanation is: at most 238 bytes. Assumes nothing.
use Prim.Native.Nat.{ℕ, ◌≤◌}
use native.Mathlib.Omega.{arith}
use mathlib.Core.Bool.{Bool, true, false}
use lib.Dec.{eqb}
use lib.ListN.{length, length-append}
use Rattle.text.specs.Bytes.{bytes}
use Rattle.text.specs.Pick.{pick}
use Rattle.text.proofs.Decimal.{length_decimal}
use Rattle.text_right.specs.Justified.{right}
use Rattle.text_right.proofs.Writes.{length_right}
use Rattle.rules.specs.Refusal.{number_of}
use Rattle.rules.proofs.Refusals.{number_most}
use Rattle.explain_words.proofs.Short.{reasons_short}
use Rattle.explain_fate.specs.declared.Fate.{Fate}
use Rattle.explain_fate.specs.declared.Fate.TheVariants.{Refused, Accepted, Announced, LeftOff, Printed}
use Rattle.explain_fate.specs.declared.Explanation.{Explanation}
use Rattle.explain_text.specs.Lines.{security_text, head_text, refused_text, fate_text, line_of}

security_short : (n : ℕ) → n ≤ 512 → length (security_text n) ≤ 5
unfolding security_text pick
security_short n h = go (eqb n 0)
  where
    go : (b : Bool) → length (pick b (bytes "     ") (right 5 n)) ≤ 5
    go true = omega arith
    go false = omega (arith, length_right 4 n (omega arith))

fate_short : (f : Fate) → length (fate_text f) ≤ 219
unfolding fate_text refused_text
fate_short (Refused r) = simp length-append (omega (arith, length_decimal 1 (number_of r) (omega (arith, number_most r))))
fate_short Accepted = omega arith
fate_short Announced = omega arith
fate_short LeftOff = omega arith
fate_short (Printed r) = reasons_short r.prints r.full r.shows

pub line_short : (number : ℕ) (e : Explanation) → number ≤ 9999999999 → e.security ≤ 512 → length (line_of number e) ≤ 238
unfolding line_of head_text
line_short number e h k =
    simp length-append (omega (arith, length_right 9 number (omega arith), security_short e.security k, fate_short e.fate))
