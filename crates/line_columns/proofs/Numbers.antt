-- Laws of numbers in their columns. Assumes nothing.
use Prim.Native.Nat.{ℕ, zero, suc, ◌+◌, ◌-◌, ◌*◌, ◌%◌, ◌^◌, ◌≤◌, ◌<◌}
use native.Mathlib.Nat.{pow-suc, pow-le-pow_right}
use native.Mathlib.Numerals.{add-one}
use native.Mathlib.Omega.{arith}
use mathlib.Core.Path.{◌≡◌, refl, sym, ap, ◌∙◌}
use mathlib.Core.Bool.{Bool, true, false, ◌&&◌, ◌||◌, not}
use mathlib.Core.List.{List, [], ◌∷◌}
use lib.ListN.{length, get_or, take, drop, drop_of_length-le}
use lib.Seq.{drop-cons, take-take, drop-drop}
use lib.Dec.{leb, ltb, eqb}
use borrow.Author.Tests.{eq-eqb, ne_eqb, eqb-true, leb-true, leb-false, le-leb, lt-ltb, le-ltb, not-true}
use Rattle.text.specs.Pick.{pick}
use Rattle.text.specs.Reading.{is_digit}
use Rattle.text.proofs.Texts.{and_left, and_right}
use Rattle.text.proofs.Booleans.{and_false, and_both, or_other, and_true}
use Rattle.rules.specs.declared.Number.TheVariants.{Is}
use Rattle.rules.specs.Columns.{is_blank, justified, digits_from, numeral, number_in, between}
use Rattle.line_columns.specs.Columns.{goes_on, stands, worth_of, fits, formed, begins, placed}
use Rattle.text.proofs.Parts.{take_within}

-- ---- what stands in a column

-- behind a digit: a digit
from_zero : (c : ℕ) → goes_on false 57 c ≡ true → (48 ≤ c) × (c ≤ 57)
unfolding goes_on between pick
from_zero c h = go (eqb c 48) refl
  where
    go : (b : Bool) → eqb c 48 ≡ b → (48 ≤ c) × (c ≤ 57)
    go true e = let z = eqb-true c 48 e in (omega arith, omega arith)
    go false e =
        let k = or_other (leb 48 c && leb c 57) (eqb c 48) h e in
        (leb-true 48 c (and_left (leb 48 c) (leb c 57) k), leb-true c 57 (and_right (leb 48 c) (leb c 57) k))

-- behind a blank, where no blank stands: 1 to 9
from_one : (c : ℕ) → goes_on true 57 c ≡ true → eqb c 32 ≡ false → (49 ≤ c) × (c ≤ 57)
unfolding goes_on between pick
from_one c h e =
    let k = or_other (leb 49 c && leb c 57) (eqb c 32) h e in
    (leb-true 49 c (and_left (leb 49 c) (leb c 57) k), leb-true c 57 (and_right (leb 49 c) (leb c 57) k))

-- ---- numbers

-- a digit's value
digit_worth : (acc c : ℕ) → 48 ≤ c → c ≤ 57 → acc * 10 + c % 16 ≡ acc * 10 + (c - 48)
digit_worth acc c h k = omega arith

digit_first : (acc c : ℕ) (s : List ℕ) → 48 ≤ c → c ≤ 57 → digits_from acc (c ∷ s) ≡ digits_from (acc * 10 + c % 16) s
unfolding digits_from is_digit pick
digit_first acc c s h k = rw (le-leb 48 c h, le-leb c 57 k, digit_worth acc c h k)

-- columns behind a digit are digits
digits_stand : (acc : ℕ) (s : List ℕ) → stands false s ≡ true → digits_from acc s ≡ Is (worth_of acc s)
unfolding stands worth_of digits_from
digits_stand acc [] h = refl
digits_stand acc (c ∷ s) h =
    let g = from_zero c (and_left (goes_on false 57 c) (stands (eqb c 32) s) h) in
    let k : stands false s ≡ true = rw (← ne_eqb c 32 (λ q. absurd (omega arith))) (and_right (goes_on false 57 c) (stands (eqb c 32) s) h) in
    digit_first acc c s g.0 g.1 ∙ digits_stand (acc * 10 + c % 16) s k

blank_first : (c : ℕ) (s : List ℕ) → c ≡ 32 → (number_in (c ∷ s) ≡ number_in s) × (worth_of 0 (c ∷ s) ≡ worth_of 0 s)
unfolding number_in justified is_blank pick worth_of
blank_first c s e = (rw e, rw e)

one_first : (c : ℕ) (s : List ℕ) → 49 ≤ c → c ≤ 57 → number_in (c ∷ s) ≡ digits_from (0 * 10 + c % 16) s
unfolding number_in justified is_blank numeral pick
one_first c s h k =
    rw (ne_eqb c 32 (λ q. absurd (omega arith)), ne_eqb c 48 (λ q. absurd (omega arith))) (digit_first 0 c s (omega arith) k)

-- columns of a number that are worth something are that number
pub number_stands : (s : List ℕ) → stands true s ≡ true → 1 ≤ worth_of 0 s → number_in s ≡ Is (worth_of 0 s)
unfolding stands worth_of
number_stands [] h k = absurd (omega arith)
number_stands (c ∷ s) h k = go (eqb c 32) refl (number_stands s)
  where
    go : (b : Bool) → eqb c 32 ≡ b → (stands true s ≡ true → 1 ≤ worth_of 0 s → number_in s ≡ Is (worth_of 0 s)) → number_in (c ∷ s) ≡ Is (worth_of (0 * 10 + c % 16) s)
    go true e ih =
        let z = blank_first c s (eqb-true c 32 e) in
        let t : stands true s ≡ true = ap (λ (x : Bool). stands x s) (sym e) ∙ and_right (goes_on true 57 c) (stands (eqb c 32) s) h in
        z.0 ∙ ih t (rw (← z.1) k) ∙ ap Is (sym z.1)
    go false e ih =
        let g = from_one c (and_left (goes_on true 57 c) (stands (eqb c 32) s) h) e in
        let t : stands false s ≡ true = ap (λ (x : Bool). stands x s) (sym e) ∙ and_right (goes_on true 57 c) (stands (eqb c 32) s) h in
        one_first c s g.0 g.1 ∙ digits_stand (0 * 10 + c % 16) s t

-- ---- columns by tables

-- from a later column on
later : (j : ℕ) (fs ms : List ℕ) (left : ℕ) (s : List ℕ) → formed fs ms left s ≡ true → formed (drop j fs) (drop j ms) (get_or (left ∷ s) j 0) (drop j s) ≡ true
unfolding formed
later zero fs ms left s h = h
later (suc j) [] ms left s h = refl
later (suc j) (f ∷ fs) [] left s h = cc
later (suc j) (f ∷ fs) (m ∷ ms) left [] h = cc
later (suc j) (f ∷ fs) (m ∷ ms) left (c ∷ s) h = later j fs ms c s (and_right (fits f m left c) (formed fs ms c s) h)

placed_fits : (first : Bool) (f m left c : ℕ) → begins first f ≡ true → eqb m 57 ≡ true → fits f m left c ≡ true → goes_on (first || eqb left 32) 57 c ≡ true
unfolding fits begins pick
placed_fits true f m left c h k e = rw (h, eqb-true m 57 k) at e
placed_fits false f m left c h k e = rw (not-true (eqb f 32) h, eqb-true m 57 k) at e

placed_stands : (first : Bool) (k : ℕ) (fs ms : List ℕ) (left : ℕ) (s : List ℕ) → placed first k fs ms ≡ true → formed fs ms left s ≡ true → stands (first || eqb left 32) (take k s) ≡ true
unfolding placed formed stands
placed_stands first zero fs ms left s h e = refl
placed_stands first (suc k) [] ms left s h e = cc
placed_stands first (suc k) (f ∷ fs) [] left s h e = cc
placed_stands first (suc k) (f ∷ fs) (m ∷ ms) left [] h e = cc
placed_stands first (suc k) (f ∷ fs) (m ∷ ms) left (c ∷ s) h e =
    let t = and_right (begins first f) (eqb m 57 && placed false k fs ms) h in
    and_both
    (placed_fits first f m left c (and_left (begins first f) (eqb m 57 && placed false k fs ms) h) (and_left (eqb m 57) (placed false k fs ms) t) (and_left (fits f m left c) (formed fs ms c s) e))
    (placed_stands false k fs ms c s (and_right (eqb m 57) (placed false k fs ms) t) (and_right (fits f m left c) (formed fs ms c s) e))

-- k columns of a number that begins at column j of the tables; the first m of s were looked at
pub stands_in : (fs ms s : List ℕ) (m j k : ℕ) → formed fs ms (get_or (take m s) 0 0) (drop 1 (take m s)) ≡ true → 1 + j + k ≤ m → placed true k (drop j fs) (drop j ms) ≡ true → stands true (take k (drop (1 + j) s)) ≡ true
stands_in fs ms s m j k f h t =
    let e : take k (drop j (drop 1 (take m s))) ≡ take k (drop (1 + j) s) = rw (drop-drop j 1 (take m s)) (take_within k (1 + j) m s h) in
    ap (stands true) (sym e) ∙ placed_stands true k (drop j fs) (drop j ms) _ _ t (later j fs ms _ _ f)

-- the tables' first k columns, of a number that begins with a blank before them
pub stands_on : (fs ms s : List ℕ) (m k : ℕ) → formed fs ms (get_or (take (suc m) s) 0 0) (drop 1 (take (suc m) s)) ≡ true → k ≤ m → placed false k fs ms ≡ true → get_or s 0 0 ≡ 32 → stands true (take (suc k) s) ≡ true
unfolding stands goes_on between pick
stands_on fs ms [] m k f h t e = absurd (omega arith)
stands_on fs ms (c ∷ s) m k f h t e =
    let g : stands (eqb c 32) (take k s) ≡ true = rw (take-take k m s h) at (placed_stands false k fs ms c (take m s) t f) in
    rw e (ap (λ (b : Bool). stands b (take k s)) (sym (eq-eqb c 32 e)) ∙ g)

-- ---- one column, as the code sets its values

behind_is : (front left x : ℕ) → x ≡ pick (eqb front 32) 32 left → eqb x 32 ≡ (eqb front 32 || eqb left 32)
unfolding pick
behind_is front left x h = go (eqb front 32) h
  where
    go : (b : Bool) → x ≡ pick b 32 left → eqb x 32 ≡ (b || eqb left 32)
    go true e = rw e
    go false e = rw e

over : (m c : ℕ) → ltb m c ≡ not (leb c m)
over m c = go (leb c m) refl
  where
    go : (b : Bool) → leb c m ≡ b → ltb m c ≡ not b
    go true e = le-ltb m c (leb-true c m e)
    go false e = lt-ltb m c (leb-false c m e)

tests : (a b e : Bool) → pick {A = ℕ} e 0 (pick (not b) 1 (pick a 0 1)) ≡ pick ((a && b) || e) 0 1
unfolding pick
tests true true true = refl
tests true true false = refl
tests true false true = refl
tests true false false = refl
tests false true true = refl
tests false true false = refl
tests false false true = refl
tests false false false = refl

pub column_is : (front most left c behind low blank w v r : ℕ)
    → behind ≡ pick (eqb front 32) 32 left → low ≡ pick (eqb behind 32) 49 48 → blank ≡ pick (eqb behind 32) 32 48
    → w ≡ pick (leb low c) 0 1 → v ≡ pick (ltb most c) 1 w → r ≡ pick (eqb c blank) 0 v
    → r ≡ pick (fits front most left c) 0 1
unfolding fits goes_on between
column_is front most left c behind low blank w v r e1 e2 e3 e4 e5 e6 =
    rw (← behind_is front left behind e1, e6, e5, e4, ← e2, ← e3, over most c) (tests (leb low c) (leb c most) (eqb c blank))

-- ---- all columns: `bad` is 0 as long as each went on a number

next : (fs ms s : List ℕ) (i : ℕ) → i < length fs → length ms ≡ length fs → length s ≡ length fs + 1
    → formed (drop i fs) (drop i ms) (get_or s i 0) (drop (i + 1) s) ≡ (fits (get_or fs i 0) (get_or ms i 0) (get_or s i 0) (get_or s (i + 1) 0) && formed (drop (i + 1) fs) (drop (i + 1) ms) (get_or s (i + 1) 0) (drop (i + 1 + 1) s))
unfolding formed
next fs ms s i h l k = rw (drop-cons fs i 0 h, drop-cons ms i 0 (omega arith), drop-cons s (i + 1) 0 (omega arith), add-one i, add-one (suc i))

counted : (bad r : ℕ) (b x : Bool) → r ≡ pick b 0 1 → (eqb (bad + r) 0 && x) ≡ (eqb bad 0 && (b && x))
unfolding pick
counted bad r true x h = let e : bad + r ≡ bad = omega (arith, h) in rw e
counted bad r false x h = rw (ne_eqb (bad + r) 0 (λ q. absurd (omega (arith, h)))) (sym (and_false (eqb bad 0)))

pub one_more : (fs ms s : List ℕ) (bad i r : ℕ) (x : Bool) → (eqb bad 0 && formed (drop i fs) (drop i ms) (get_or s i 0) (drop (i + 1) s)) ≡ x → i < length fs → length ms ≡ length fs → length s ≡ length fs + 1
    → r ≡ pick (fits (get_or fs i 0) (get_or ms i 0) (get_or s i 0) (get_or s (i + 1) 0)) 0 1
    → (eqb (bad + r) 0 && formed (drop (i + 1) fs) (drop (i + 1) ms) (get_or s (i + 1) 0) (drop (i + 1 + 1) s)) ≡ x
one_more fs ms s bad i r x e h l k q = counted bad r _ _ q ∙ ap (λ (b : Bool). eqb bad 0 && b) (sym (next fs ms s i h l k)) ∙ e

pub at_most_one_lem : (r : ℕ) (b : Bool) → r ≡ pick b 0 1 → r ≤ 1
unfolding pick
at_most_one_lem r true h = omega arith
at_most_one_lem r false h = omega arith

pub all_formed : (fs ms s : List ℕ) (bad i : ℕ) (x : Bool) → (eqb bad 0 && formed (drop i fs) (drop i ms) (get_or s i 0) (drop (i + 1) s)) ≡ x → length fs ≤ i → eqb bad 0 ≡ x
unfolding formed
all_formed fs ms s bad i x e h = sym (and_true (eqb bad 0)) ∙ (rw (drop_of_length-le fs h) at e)

-- ---- what columns are worth: acc is worth those before i

pub worth_next : (s : List ℕ) (i acc : ℕ) → i < length s → worth_of acc (drop i s) ≡ worth_of (acc * 10 + get_or s i 0 % 16) (drop (i + 1) s)
unfolding worth_of
worth_next s i acc h = rw (drop-cons s i 0 h, add-one)

pub worth_end : (s : List ℕ) (i acc : ℕ) → length s ≤ i → worth_of acc (drop i s) ≡ acc
unfolding worth_of
worth_end s i acc h = rw (drop_of_length-le s h)

pub worth_small : (acc i : ℕ) → acc + 2 ≤ 2 * 10 ^ i → i < 14 → acc < 2 * 10 ^ 13
worth_small acc i h k = omega (arith, pow-le-pow_right {n = 10} (omega arith) {i = i} {j = 13} (omega arith))

pub worth_grows : (acc w i : ℕ) → acc + 2 ≤ 2 * 10 ^ i → w ≤ 15 → acc * 10 + w + 2 ≤ 2 * 10 ^ (i + 1)
worth_grows acc w i h k = rw add-one (omega (arith, pow-suc 10 i))
