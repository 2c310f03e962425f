-- Laws of a side's numbers, looked at all at once. Assumes nothing.
use Prim.Native.Nat.{ℕ, ◌+◌, ◌-◌, ◌≤◌}
use native.Mathlib.Omega.{arith}
use mathlib.Core.Path.{◌≡◌, sym, ap, ◌∙◌}
use mathlib.Core.Bool.{Bool, true, false, ◌&&◌}
use mathlib.Core.List.{List}
use lib.ListN.{get_or, take, drop}
use lib.Seq.{drop-drop}
use Rattle.text.proofs.Texts.{and_left, and_right}
use Rattle.text.proofs.Booleans.{and_both}
use Rattle.rules.specs.declared.Number.TheVariants.{Is}
use Rattle.rules.specs.Columns.{columns, is_blank, blank, number_in}
use Rattle.line_columns.specs.Columns.{stands, worth_of, formed, placed}
use Rattle.line_columns.proofs.Parts.{blank_part}
use Rattle.line_columns.proofs.Numbers.{number_stands, stands_in, stands_on}
use Rattle.line_side.specs.Side.{amounts_stand}
use Rattle.text.proofs.Parts.{all_parts}

-- the tables have the volume from column 2 on and n at column 10
unfoldable pub tabled : List ℕ → List ℕ → Bool
tabled fs ms = placed false 8 fs ms && placed true 14 (drop 8 fs) (drop 8 ms)

pub amounts_yes : (fs ms part : List ℕ) (r : Bool) → r ≡ formed fs ms (get_or (take 33 part) 0 0) (drop 1 (take 33 part)) → get_or part 0 0 ≡ 32 → tabled fs ms ≡ true → r ≡ true → amounts_stand part ≡ true
unfolding amounts_stand tabled
amounts_yes fs ms part r e h t k =
    let f = sym e ∙ k in
    and_both
    (stands_on fs ms part 32 8 f (omega arith) (and_left (placed false 8 fs ms) _ t) h)
    (stands_in fs ms part 33 8 14 f (omega arith) (and_right (placed false 8 fs ms) _ t))

module _ (part : List ℕ) (r : Bool) (h : r ≡ true → amounts_stand part ≡ true) (k : r ≡ true) where
  pub volume_stands : stands true (take 9 part) ≡ true
  unfolding amounts_stand
  volume_stands = and_left (stands true (take 9 part)) _ (h k)

  pub n_stands : stands true (take 14 (drop 9 part)) ≡ true
  unfolding amounts_stand
  n_stands = and_right (stands true (take 9 part)) _ (h k)

-- an amount from 1 up, as its columns are worth
pub amount_is : (s : List ℕ) (b : Bool) → (b ≡ true → stands true s ≡ true) → b ≡ true → 1 ≤ worth_of 0 s → number_in s ≡ Is (worth_of 0 s)
amount_is s b h k w = number_stands s (h k) w

-- the columns behind the letters in two parts
pub end_parts : (part : List ℕ) → blank (columns 29 46 part) ≡ (blank (take 16 (drop 28 part)) && blank (take 2 (drop 44 part)))
unfolding blank
end_parts part = sym (all_parts is_blank 28 16 2 part)

-- a field behind the letters, where all is blank there
pub field_none : (part : List ℕ) (r : Bool) (j k : ℕ) → 28 ≤ j → j + k ≤ 46 → r ≡ blank (take 18 (drop 28 part)) → r ≡ true → blank (take k (drop j part)) ≡ true
field_none part r j k h l e q =
    let i : 28 + (j - 28) ≡ j = omega arith in
    let z : drop (j - 28) (drop 28 part) ≡ drop j part = drop-drop (j - 28) 28 part ∙ ap (λ (n : ℕ). drop n part) i in
    rw z at (blank_part k (j - 28) 18 (drop 28 part) (omega arith) (sym e ∙ q))

-- what is known of volume and n where they are read
pub ruleset known = (volume_stands, n_stands)
