-- A tape of normal prints is read back, print after print. Assumes nothing.
use Prim.Native.Nat.{ℕ, zero, suc, ◌≤◌}
use native.Mathlib.Omega.{arith}
use mathlib.Core.Path.{◌≡◌, refl, sym, ap, ◌∙◌}
use mathlib.Core.List.{List, [], ◌∷◌, ◌++◌}
use mathlib.Core.Option.{some}
use lib.ListN.{length, take, drop, length-append}
use lib.Seq.{take_at, drop_at}
use Rattle.rules.specs.NormalPrint.{ReadFact}
use Rattle.reader.specs.Read.{read_at}
use Rattle.reader.specs.Told.{length_of, name_at, fact_in}
use Rattle.claim_decoder.proofs.Fresh.{Fresh, fresh_end}
use Rattle.claim_longest.specs.Back.{Back}
use Rattle.claim_longest.specs.Tape.{Reading, Prints, blank, onward, readings}
use Rattle.claim_longest.proofs.Following.{next_fresh}
use Rattle.claim_longest.proofs.RoundTrip.{read_back}

prints_fresh : {s : List ℕ} {l : List Reading} → Prints s l → Fresh s
prints_fresh blank = fresh_end
prints_fresh (onward text name rest fact l p q) = next_fresh p rest

read_one : (k : ℕ) (s : List ℕ) (f : ReadFact) → 1 ≤ length s → fact_in s (read_at s 0) ≡ some f → readings (suc k) s ≡ record { text = take (length_of (read_at s 0)) s; name = name_at s 0; fact = f } ∷ readings k (drop (length_of (read_at s 0)) s)
unfolding readings
read_one k [] f h e = absurd (omega (h, arith))
read_one k (c ∷ s) f h e = rw (readings, e)

module _ (text name rest : List ℕ) (fact : ReadFact) (k : ℕ) (b : Back text name rest fact) (some_text : 1 ≤ length text) where
  read_next : readings (suc k) (text ++ rest) ≡ record { text = text; name = name; fact = fact } ∷ readings k rest
  read_next =
      let s = text ++ rest in
      let n = length_of (read_at s 0) in
      read_one k s fact (omega (some_text, length-append text rest, arith)) b.fact_back
      ∙ (ap (λ t. record { text = t; name = name_at s 0; fact = fact } ∷ readings k (drop n s)) (take_at text rest n (sym b.length_back))
      ∙ (ap (λ m. record { text = text; name = m; fact = fact } ∷ readings k (drop n s)) b.name_back
      ∙ ap (λ r. record { text = text; name = name; fact = fact } ∷ readings k r) (drop_at text rest n (sym b.length_back))))

no_steps : (text rest : List ℕ) → 1 ≤ length text → length (text ++ rest) ≤ 0 → ⊥
no_steps text rest h k = omega (h, k, length-append text rest, arith)

nothing_read : (k : ℕ) → readings k [] ≡ []
unfolding readings
nothing_read zero = refl
nothing_read (suc k) = refl

-- THE PRINTS OF A TAPE ARE READ BACK, in order, none between them and none left out
pub tape_back : (k : ℕ) {tape : List ℕ} {l : List Reading} → Prints tape l → length tape ≤ k → readings k tape ≡ l
tape_back k blank h = nothing_read k
tape_back zero (onward text name rest fact l p q) h = absurd (no_steps text rest p.some_text h)
tape_back (suc k) (onward text name rest fact l p q) h =
    read_next text name rest fact k (read_back text name fact p rest (prints_fresh q)) p.some_text
    ∙ ap (λ m. record { text = text; name = name; fact = fact } ∷ m) (tape_back k q (omega (h, p.some_text, length-append text rest, arith)))
