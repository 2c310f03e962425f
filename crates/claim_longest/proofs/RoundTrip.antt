-- The reader at a normal print gives its length, its name and its facts: where nothing follows, and where another normal print follows. Assumes nothing.
use Prim.Native.Nat.{ℕ, ◌≤◌}
use native.Mathlib.Omega.{arith}
use mathlib.Core.Path.{◌≡◌, refl, sym, ap, ◌∙◌, subst}
use mathlib.Core.List.{List, [], ◌++◌}
use mathlib.Core.Option.{Option, none, some}
use lib.ListN.{length, take, drop, take-append-drop}
use lib.Seq.{take_at, length-take-le}
use Rattle.std.specs.Prelude.{Result}
use Rattle.rules.specs.NormalPrint.{ReadFact, NormalPrint}
use Rattle.rules.specs.declared.Refusal.{Refusal}
use Rattle.reader.specs.Read.{read_at}
use Rattle.reader.specs.Told.{length_of, name_at, fact_in}
use Rattle.reader.proofs.Bounds.{print_within}
use Rattle.reader.specs.declared.Print.{Print}
use Rattle.claim_decoder.proofs.Fresh.{Fresh, fresh_end}
use Rattle.claim_longest.specs.Back.{Back}
use Rattle.claim_longest.proofs.Longest.{longest_print_lem}
use Rattle.claim_longest.proofs.Determined.{determined}
use Rattle.claim_longest.proofs.Following.{exact, next_fresh}

module _ (text name : List ℕ) (fact : ReadFact) (p : NormalPrint text name fact) (rest : List ℕ) (f : Fresh rest) where
  abbrev tape : List ℕ
  tape = text ++ rest

  abbrev answer : Result Print Refusal
  answer = read_at tape 0

  within : length_of answer ≤ length tape
  unfolding read_at
  within = (print_within tape).print

  -- what is told is told of the first bytes, as many as are answered
  front : length_of answer ≡ length text → take (length_of answer) tape ≡ text
  front e = take_at text rest (length_of answer) (sym e)

  back_by : (g : ReadFact) → fact_in tape answer ≡ some g → Back text name rest fact
  back_by g e =
      let l = longest_print_lem tape 0 in
      let q = l.told g e in
      let most = exact p rest f (take (length_of answer) tape) (name_at tape 0) (drop (length_of answer) tape) g q (sym (take-append-drop (length_of answer) tape)) in
      let least = l.longest text name rest fact p refl in
      let n : length_of answer ≡ length text = omega (most, least, length-take-le (length_of answer) tape within, arith) in
      let d = determined (subst (λ t. NormalPrint t (name_at tape 0) g) (front n) q) p in
      record { length_back = n; name_back = d.0; fact_back = e ∙ ap some d.1 }

  back_from : (o : Option ReadFact) → fact_in tape answer ≡ o → Back text name rest fact
  back_from none e = absurd ((longest_print_lem tape 0).refused e text name rest fact p refl)
  back_from (some g) e = back_by g e

  pub read_back : Back text name rest fact
  read_back = back_from (fact_in tape answer) refl

-- where nothing follows
pub round_trip : (text name : List ℕ) (fact : ReadFact) → NormalPrint text name fact → Back text name [] fact
round_trip text name fact p = read_back text name fact p [] fresh_end

-- where another normal print follows, and anything behind it
pub followed : (text name : List ℕ) (fact : ReadFact) → NormalPrint text name fact → (next name' : List ℕ) (fact' : ReadFact) → NormalPrint next name' fact' → (rest : List ℕ) → Back text name (next ++ rest) fact
followed text name fact p next name' fact' q rest = read_back text name fact p (next ++ rest) (next_fresh q rest)
