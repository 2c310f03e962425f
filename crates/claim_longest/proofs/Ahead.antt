-- LOOK-AHEAD: where at least `longest_print` bytes of a tape are there, what follows them changes nothing of the answer at their front. Assumes nothing.
use Prim.Native.Nat.{ℕ, ◌≤◌}
use native.Mathlib.Omega.{arith}
use mathlib.Core.Path.{◌≡◌, refl, sym, ap, ◌∙◌, subst}
use mathlib.Core.List.{List, [], ◌++◌, append_assoc}
use mathlib.Core.Option.{Option, none, some}
use lib.ListN.{length, take, drop, take-append-drop}
use lib.Seq.{length-take-le, take-append-le}
use Rattle.std.specs.Prelude.{Result, Ok, Err}
use Rattle.rules.specs.Sizes.{longest_print}
use Rattle.rules.specs.NormalPrint.{ReadFact, NormalPrint}
use Rattle.rules.specs.declared.Refusal.{Refusal}
use Rattle.reader.specs.declared.Print.TheVariants.{Announcement, Trade, Cancel, Error, Correction}
use Rattle.reader.specs.Read.{print_at, read_at}
use Rattle.reader.specs.Told.{length_of, name_length, name_in, name_at, fact_in}
use Rattle.reader.proofs.Bounds.{print_within}
use Rattle.reader.specs.declared.Print.{Print}
use Rattle.claim_longest.proofs.Longest.{no_fact, no_length, longest_print_lem}
use Rattle.claim_longest.proofs.Determined.{determined}
use Rattle.claim_longest.proofs.Short.{print_short}

-- no facts, no name
no_name_lem : (s : List ℕ) (r : Result Print Refusal) → fact_in s r ≡ none → name_in s r ≡ []
unfolding fact_in name_in name_length
no_name_lem s (Ok (Announcement n)) e = refl
no_name_lem s (Ok (Trade x)) e = absurd (no_fact _ (sym e))
no_name_lem s (Ok (Cancel x)) e = absurd (no_fact _ (sym e))
no_name_lem s (Ok (Error x)) e = absurd (no_fact _ (sym e))
no_name_lem s (Ok (Correction x)) e = absurd (no_fact _ (sym e))
no_name_lem s (Err r) e = refl

-- ---- what is told at the front of a text

module _ (s : List ℕ) where
  abbrev count : ℕ
  count = length_of (print_at s)

  front_length : length (take count s) ≡ count
  front_length = length-take-le count s (print_within s).print

  normal : (f : ReadFact) → fact_in s (print_at s) ≡ some f → NormalPrint (take count s) (name_in s (print_at s)) f
  unfolding read_at name_at
  normal f e = (longest_print_lem s 0).told f e

  told_some : (f : ReadFact) → fact_in s (print_at s) ≡ some f → 1 ≤ count
  told_some f e = omega (arith, front_length, (normal f e).some_text)

  -- the print that is told reads as far wherever it begins
  begins : (u rest : List ℕ) → u ≡ take count s ++ rest → count ≤ length_of (print_at u)
  unfolding read_at
  begins u rest q = go (fact_in s (print_at s)) refl
    where
      go : (f : Option ReadFact) → fact_in s (print_at s) ≡ f → count ≤ length_of (print_at u)
      go none e = omega (arith, no_length s (print_at s) e)
      go (some f) e = omega (arith, front_length, (longest_print_lem u 0).longest (take count s) (name_in s (print_at s)) rest f (normal f e) q)

  -- no more than `longest_print` bytes are read at a place
  pub read_short : length_of (print_at s) ≤ longest_print
  read_short = go (fact_in s (print_at s)) refl
    where
      go : (f : Option ReadFact) → fact_in s (print_at s) ≡ f → count ≤ longest_print
      go none e = omega (arith, no_length s (print_at s) e)
      go (some f) e = omega (arith, front_length, print_short (normal f e))

-- ---- the length

module _ (s t : List ℕ) (enough : longest_print ≤ length s) where
  front_same : take (count (s ++ t)) (s ++ t) ≡ take (count (s ++ t)) s
  front_same = take-append-le (count (s ++ t)) s t (omega (arith, read_short (s ++ t)))

  -- THE LENGTH IS THE SAME, WHATEVER FOLLOWS
  pub ahead : length_of (print_at (s ++ t)) ≡ length_of (print_at s)
  ahead =
      let less = begins (s ++ t) s (drop (count (s ++ t)) s) (sym (ap (λ l. l ++ drop (count (s ++ t)) s) front_same ∙ take-append-drop (count (s ++ t)) s)) in
      let more = begins s (s ++ t) (drop (count s) s ++ t) (ap (λ l. l ++ t) (sym (take-append-drop (count s) s)) ∙ append_assoc (take (count s) s) (drop (count s) s) t) in
      omega (arith, less, more)

  -- ---- the name and the facts

  two_told : (f g : Option ReadFact) → fact_in s (print_at s) ≡ f → fact_in (s ++ t) (print_at (s ++ t)) ≡ g → (name_in (s ++ t) (print_at (s ++ t)) ≡ name_in s (print_at s)) × (g ≡ f)
  two_told none none e q = (no_name_lem (s ++ t) (print_at (s ++ t)) q ∙ sym (no_name_lem s (print_at s) e), refl)
  two_told none (some g) e q = absurd (omega (arith, ahead, no_length s (print_at s) e, told_some (s ++ t) g q))
  two_told (some f) none e q = absurd (omega (arith, ahead, no_length (s ++ t) (print_at (s ++ t)) q, told_some s f e))
  two_told (some f) (some g) e q =
      let p : NormalPrint (take (count s) s) (name_in (s ++ t) (print_at (s ++ t))) g = subst (λ l. NormalPrint l (name_in (s ++ t) (print_at (s ++ t))) g) (front_same ∙ ap (λ k. take k s) ahead) (normal (s ++ t) g q) in
      let d = determined p (normal s f e) in
      (d.0, ap some d.1)

  -- SO ARE THE NAME AND THE FACTS
  pub ahead_told : (name_in (s ++ t) (print_at (s ++ t)) ≡ name_in s (print_at s)) × (fact_in (s ++ t) (print_at (s ++ t)) ≡ fact_in s (print_at s))
  ahead_told = two_told (fact_in s (print_at s)) (fact_in (s ++ t) (print_at (s ++ t))) refl refl
