-- A side with its letters as they are shown has the same text and the same facts. Assumes nothing.
use Prim.Native.Nat.{ℕ}
use mathlib.Core.Path.{◌≡◌, refl, ap}
use mathlib.Core.Bool.{Bool, true, false, ◌||◌}
use mathlib.Core.List.{List}
use Rattle.text.specs.Pick.{opt}
use Rattle.rules.specs.Conditions.{after_name, after_price, at_end}
use Rattle.rules.specs.Side.{head_text, tail_text, side_text}
use Rattle.rules.specs.Correction.{repeats_name, end_pair, cancel_text, correction_text}
use Rattle.rules.specs.Shown.{shown_letters, conditions_of}
use Rattle.rules.specs.declared.Letters.{Letters}
use Rattle.rules.specs.declared.Side.{Side}
use Rattle.line_owed.specs.Shown.{shown_side}
use Rattle.rules.specs.declared.PriceForm.TheVariants.{Full}

pub same_conditions : (x : Side) → conditions_of (shown_side x) ≡ conditions_of x
unfolding conditions_of shown_side shown_letters
same_conditions x = refl

pub same_side : (name : List ℕ) (network unit : ℕ) (x : Side) → side_text name network unit Full true (shown_side x) ≡ side_text name network unit Full true x
unfolding side_text head_text tail_text after_name after_price at_end shown_side shown_letters
same_side name network unit x = refl

pub same_end : (x : Side) → end_pair (shown_side x) ≡ end_pair x
unfolding end_pair shown_side shown_letters
same_end x = refl

pub same_repeat : (x : Letters) → repeats_name (shown_letters x) ≡ repeats_name x
unfolding repeats_name shown_letters
same_repeat x = sorted x.s x.l x.o x.c x.k x.n x.m x.b
  where
    sorted : (s l o c k n m b : Bool) → (s || (l || (o || (false || ((c || k) || (false || ((n || m) || b))))))) ≡ (s || (l || (o || (c || (k || (n || (m || b)))))))
    sorted true l o c k n m b = refl
    sorted false true o c k n m b = refl
    sorted false false true c k n m b = refl
    sorted false false false true k n m b = refl
    sorted false false false false true n m b = refl
    sorted false false false false false true m b = refl
    sorted false false false false false false m b = refl

same_repeats : (y : Side) → repeats_name (shown_side y).letters ≡ repeats_name y.letters
unfolding shown_side
same_repeats y = same_repeat y.letters

pub same_cancel : (opening name : List ℕ) (network unit : ℕ) (x : Side) → cancel_text opening name network unit Full true (shown_side x) ≡ cancel_text opening name network unit Full true x
unfolding cancel_text
same_cancel opening name network unit x = rw (same_side name network unit x, same_end x)

pub same_correction : (name : List ℕ) (network unit : ℕ) (x y : Side) → correction_text name network unit Full true (shown_side x) (shown_side y) ≡ correction_text name network unit Full true x y
unfolding correction_text
same_correction name network unit x y =
    rw (same_side name network unit x, ap (λ b. side_text (opt b name) network unit Full true (shown_side y)) (same_repeats y), same_side (opt (repeats_name y.letters) name) network unit y, same_end y)
