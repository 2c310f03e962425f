-- A need `x ≡ pick ..`, `x ≡ a || b`, `x ≡ a && b` or `x ≡ not a` from tests on the way and from what callees ensure of their answers. Assumes nothing.
use mathlib.Core.Path.{◌≡◌, sym, ap, ◌∙◌}
use mathlib.Core.Bool.{Bool, true, false, not}
use borrow.Author.Tests.{not-true, not-false}
use Rattle.text.specs.Pick.{pick}
use Rattle.text.proofs.Tests.{bools}

module _ {A : Type 0} (x p q : A) (t : Bool) where
  pub pick_true : true ≡ t → x ≡ p → x ≡ pick t p q
  unfolding pick
  pick_true h e = rw (← h) e

  pub pick_false : false ≡ t → x ≡ q → x ≡ pick t p q
  unfolding pick
  pick_false h e = rw (← h) e

-- a callee answered r
module _ (r t : Bool) (e : r ≡ t) where
  pub told_yes : r ≡ true → true ≡ t
  told_yes h = sym h ∙ e

  pub told_no : r ≡ false → false ≡ t
  told_no h = sym h ∙ e

  pub told_not : not r ≡ true → false ≡ t
  told_not h = sym (not-true r h) ∙ e

  pub told_not_not : not r ≡ false → true ≡ t
  told_not_not h = sym (not-false r h) ∙ e

  pub turned : not r ≡ not t
  turned = ap not e

-- x was matched, and is y: f of it, where f opens (`search (case f)` under `unfolding f`)
module _ {A B : Type 0} where
  pub case : (f : A → B) (x y : A) (r : B) → x ≡ y → r ≡ f y → r ≡ f x
  case f x y r e h = rw e h

  pub case_2 : {P : Type 0} (f : P → A → B) (p : P) (x y : A) (r : B) → x ≡ y → r ≡ f p y → r ≡ f p x
  case_2 f p x y r e h = rw e h

  pub case_3 : {P Q : Type 0} (f : P → Q → A → B) (p : P) (q : Q) (x y : A) (r : B) → x ≡ y → r ≡ f p q y → r ≡ f p q x
  case_3 f p q x y r e h = rw e h

-- a flag
pub flag_no : (t : Bool) → not t ≡ true → false ≡ t
flag_no t h = sym (not-true t h)

pub flag_yes : (t : Bool) → not t ≡ false → true ≡ t
flag_yes t h = sym (not-false t h)

pub ruleset told = (pick_true, pick_false, told_yes, told_no, told_not, told_not_not, bools)

-- beside what callees answered, flags tested and answers turned round
pub ruleset answers = (told, turned, flag_no, flag_yes)
