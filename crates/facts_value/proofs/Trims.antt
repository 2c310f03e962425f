-- A fraction without the zeros at its end: a turn's steps, and its text. Assumes nothing.
use Prim.Native.Nat.{ℕ, zero, suc, ◌-◌, ◌/◌, ◌%◌, ◌≤◌, ◌<◌}
use native.Mathlib.Numerals.{sub-one}
use native.Mathlib.Omega.{arith}
use mathlib.Core.Path.{◌≡◌, refl, ap, ◌∙◌}
use mathlib.Core.List.{List, [], ◌++◌}
use lib.Dec.{eqb}
use lib.ListN.{length}
use borrow.Author.Tests.{eq-eqb, ne_eqb}
use Rattle.text.specs.Bytes.{bytes}
use Rattle.text.specs.Pick.{pick}
use Rattle.text.specs.Put.{Written}
use Rattle.text.specs.Decimal.{places}
use Rattle.text.proofs.Decimal.{length_places}
use Rattle.text.proofs.Writing.{shorter, room_no, written_nothing}
use Rattle.facts_value.specs.Values.{trimmed, point_text}

zero_cut : (k m : ℕ) → 0 < k → m % 10 ≡ 0 → trimmed (k - 1) (m / 10) ≡ trimmed k m
unfolding trimmed pick
zero_cut zero m h e = absurd (omega arith)
zero_cut (suc k) m h e = rw (sub-one, eq-eqb (m % 10) 0 e)

none_cut : (k m : ℕ) → 0 < k → (m % 10 ≡ 0 → ⊥) → places k m ≡ trimmed k m
unfolding trimmed pick
none_cut zero m h e = absurd (omega arith)
none_cut (suc k) m h e = rw (ne_eqb (m % 10) 0 e)

nothing_left : (k m : ℕ) → k ≤ 0 → places 0 m ≡ trimmed k m
unfolding trimmed places
nothing_left zero m h = refl
nothing_left (suc k) m h = absurd (omega arith)

module _ (k m : ℕ) (t : List ℕ) (left : trimmed k m ≡ t) where
  pub trim_again : 0 < k → m % 10 ≡ 0 → trimmed (k - 1) (m / 10) ≡ t
  trim_again h e = zero_cut k m h e ∙ left

  pub trim_stopped : 0 < k → (m % 10 ≡ 0 → ⊥) → places k m ≡ t
  trim_stopped h e = none_cut k m h e ∙ left

  pub trim_ended : k ≤ 0 → places 0 m ≡ t
  trim_ended h = nothing_left k m h ∙ left

module _ (k n m : ℕ) (t : List ℕ) (told : places k n ≡ t) where
  pub trimmed_room : length t ≤ m → k ≤ m
  trimmed_room h = omega (arith, h, length_places k n, ap length told)

  pub trimmed_written : (b a : List ℕ) (r : ℕ) → Written (places k n) b a r → Written t b a r
  trimmed_written b a r w = rw (← told) w

-- room for the point of a fraction that is not zero
pub point_room : (f m : ℕ) → length (point_text f) ≤ m → (f ≡ 0 → ⊥) → length (bytes ".") ≤ m
unfolding point_text
point_room f m h z = shorter (bytes ".") (trimmed 8 f) m (room_no (eqb f 0) [] (bytes "." ++ trimmed 8 f) m h (ne_eqb f 0 z))

pub nothing_placed : (n : ℕ) (b : List ℕ) → Written (places 0 n) b b 0
unfolding places
nothing_placed n b = written_nothing b
