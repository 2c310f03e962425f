-- What is told up to the last line is what is told of so many lines. Assumes nothing.
use Prim.Native.Nat.{ℕ, suc, ◌+◌, ◌-◌}
use native.Mathlib.Omega.{arith}
use mathlib.Core.Path.{◌≡◌, refl, sym, ap, ◌∙◌}
use mathlib.Core.Bool.{Bool, true, false}
use mathlib.Core.List.{List, [], ◌∷◌, ◌++◌}
use lib.Dec.{leb}
use lib.ListN.{take}
use lib.Seq.{take-nil}
use borrow.Author.Tests.{leb-true, leb-false}
use Rattle.rules.specs.Day.{Day, after, ample}
use Rattle.feed_gather.specs.Gather.{last_line}
use Rattle.claim_programs.specs.Told.{Text, told_of_lines}
use Rattle.claim_programs.proofs.Lines.{told_none, told_on, told_past}

-- any text of lines that is made line by line
module _ (t : Text) (whole : Day → ℕ → List (List ℕ) → List ℕ) (none_left : (day : Day) (n : ℕ) → whole day n [] ≡ [])
    (one_more : (day : Day) (n : ℕ) (l : List ℕ) (ls : List (List ℕ)) → whole day n (l ∷ ls) ≡ t day n l ++ whole (after day (ample l)) (n + 1) ls) where
  to_last : (day : Day) (n : ℕ) (ls : List (List ℕ)) → told_of_lines t day n ls ≡ whole day n (take (suc last_line - n) ls)
  to_last day n [] = told_none t day n ∙ (sym (none_left day n) ∙ ap (whole day n) (sym (take-nil (suc last_line - n))))
  to_last day n (l ∷ ls) = go (leb n last_line) refl (to_last (after day (ample l)) (n + 1) ls)
    where
      go : (b : Bool) → leb n last_line ≡ b → told_of_lines t (after day (ample l)) (n + 1) ls ≡ whole (after day (ample l)) (n + 1) (take (suc last_line - (n + 1)) ls) → told_of_lines t day n (l ∷ ls) ≡ whole day n (take (suc last_line - n) (l ∷ ls))
      go true e on =
          let h = leb-true n last_line e in
          let k : suc last_line - n ≡ suc (last_line - n) = omega arith in
          let m : suc last_line - (n + 1) ≡ last_line - n = omega arith in
          told_on t day n l ls h
          ∙ (ap (λ (x : List ℕ). t day n l ++ x) (on ∙ ap (λ (j : ℕ). whole (after day (ample l)) (n + 1) (take j ls)) m)
          ∙ (sym (one_more day n l (take (last_line - n) ls)) ∙ ap (λ (j : ℕ). whole day n (take j (l ∷ ls))) (sym k)))
      go false e on =
          let h = leb-false n last_line e in
          let z : suc last_line - n ≡ 0 = omega arith in
          told_past t day n (l ∷ ls) h ∙ (sym (none_left day n) ∙ ap (λ (j : ℕ). whole day n (take j (l ∷ ls))) (sym z))

  -- from the first line on
  pub all_told : (day : Day) (ls : List (List ℕ)) → told_of_lines t day 1 ls ≡ whole day 1 (take last_line ls)
  all_told day ls = to_last day 1 ls ∙ ap (λ (j : ℕ). whole day 1 (take j ls)) (let n : suc last_line - 1 ≡ last_line = omega arith in n)
