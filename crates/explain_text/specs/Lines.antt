-- The text of an explanation: one line. Assumes nothing.
use Rattle.std.specs.Prelude.{ℕ, List, [], ◌∷◌, ◌++◌, eqb}
use Rattle.text.specs.Bytes.{bytes}
use Rattle.text.specs.Pick.{pick}
use Rattle.text.specs.Decimal.{decimal}
use Rattle.text_right.specs.Justified.{right}
use Rattle.rules.specs.Refusal.{number_of}
use Rattle.explain_words.specs.Text.{reasons_text}
use Rattle.explain_fate.specs.declared.Fate.{Fate}
use Rattle.explain_fate.specs.declared.Fate.TheVariants.{Refused, Accepted, Announced, LeftOff, Printed}
use Rattle.explain_fate.specs.declared.Explanation.{Explanation}

-- a security in five columns, blank for none
unfoldable pub security_text : ℕ → List ℕ
security_text n = pick (eqb n 0) (bytes "     ") (right 5 n)

-- the line's number in ten columns, its kind, its security
unfoldable pub head_text : ℕ → ℕ → ℕ → List ℕ
head_text number kind security = right 10 number ++ bytes " " ++ (kind ∷ []) ++ security_text security ++ bytes " "

unfoldable pub refused_text : ℕ → List ℕ
refused_text n = bytes "refused " ++ decimal n

unfoldable pub fate_text : Fate → List ℕ
fate_text (Refused r) = refused_text (number_of r)
fate_text Accepted = bytes "accepted"
fate_text Announced = bytes "announced"
fate_text LeftOff = bytes "left off"
fate_text (Printed r) = reasons_text r.prints r.full r.shows

unfoldable pub line_of : ℕ → Explanation → List ℕ
line_of number e = head_text number e.kind e.security ++ fate_text e.fate ++ (10 ∷ [])
