-- Laws of what follows a root, in the form that the code's needs have. Assumes nothing.
use Prim.Native.Nat.{ℕ, ◌+◌, ◌-◌, ◌≤◌}
use native.Mathlib.Omega.{arith}
use mathlib.Core.Path.{◌≡◌, refl, sym, ◌∙◌}
use mathlib.Core.Bool.{Bool, true, false, ◌&&◌}
use mathlib.Core.List.{List}
use lib.ListN.{length, take, drop}
use lib.Seq.{length-take-le}
use lib.Dec.{eqb, leb}
use borrow.Author.Tests.{le-leb, leb-true}
use Rattle.text.specs.Pick.{same}
use Rattle.text.proofs.Texts.{and_left, and_right}
use Rattle.text.proofs.Std.{pointwise_same}
use lib.Pointwise.{pointwise}
use Rattle.rules.specs.Tape.{is_letter}
use Rattle.read_name.specs.Name.{count_of, ends_in, suffix_text, with_end, lawful_root, plain_end, ends_lawfully, name_alone, name_on}

and_false : (b : Bool) → (b && false) ≡ false
and_false true = refl
and_false false = refl

-- ---- a text at the end

module _ (e s : List ℕ) where
  pub ends_no : pointwise eqb (drop (length s - length e) s) e ≡ false → ends_in e s ≡ false
  unfolding ends_in
  ends_no h = rw (← pointwise_same, h, and_false)

  pub ends_yes : (n : ℕ) → pointwise eqb (drop (length s - length e) s) e ≡ true → n + length e ≡ length s → ends_in e s ≡ true
  unfolding ends_in
  ends_yes n h k = rw (le-leb (length e) (length s) (omega arith), ← pointwise_same, h)

-- x is what stands before it
module _ (e s x : List ℕ) (h : pointwise eqb (drop (length s - length e) s) e ≡ true) (k : x ≡ take (length s - length e) s) (n : length x + length e ≡ length s) where
  pub with_is : (r : Bool) → r ≡ suffix_text x → r ≡ with_end e s
  unfolding with_end
  with_is r q = rw (ends_yes e s (length x) h n, ← k) q

  pub lawful_is : (t q r : Bool) → q ≡ plain_end t s → q ≡ false → r ≡ plain_end t x → r ≡ ends_lawfully t e s
  unfolding ends_lawfully
  lawful_is t q r f p y = rw (← f, p, ends_yes e s (length x) h n, ← k) y

pub ends_room : (e s : List ℕ) (q : Bool) → q ≡ ends_in e s → q ≡ true → length e ≤ length s
unfolding ends_in
ends_room e s q k y = leb-true (length e) (length s) (and_left (leb (length e) (length s)) (same (drop (length s - length e) s) e) (sym k ∙ y))

-- what stands before it, as the code cuts it out
pub before_cut : (e s : List ℕ) → length s - length e ≡ length (take (length s - length e) s)
before_cut e s = sym (length-take-le (length s - length e) s (omega arith))

-- a name without an appendage is one on each network
pub alone_on : (t : Bool) (network : ℕ) (name : List ℕ) → name_alone t name ≡ true → name_on t network name ≡ true
unfolding name_alone name_on ends_lawfully
alone_on t network name h =
    let n = count_of is_letter 7 name in
    rw (and_left (lawful_root (take n name)) (plain_end t (drop n name)) h, and_right (lawful_root (take n name)) (plain_end t (drop n name)) h)
