-- What is stored at a place is read back there, and every other place is as it was: the tables hold a day's lists. Assumes nothing.
use Prim.Native.Nat.{ℕ, zero, suc, ◌+◌, ◌-◌, ◌*◌, ◌≤◌, ◌<◌}
use native.Mathlib.Nat.{not-suc-le-zero, le_of_suc-le-suc}
use native.Mathlib.Omega.{arith}
use mathlib.Core.Path.{◌≡◌, refl, sym, ap, ◌∙◌}
use mathlib.Core.Logic.{◌⊎◌, inl, inr, ⊎_elim}
use mathlib.Core.List.{List, [], ◌∷◌, ◌++◌, append_assoc}
use lib.ListN.{length, get_or, set, take, drop, replicate, length-set, length-append, length-drop}
use lib.Seq.{get_or-set_same, get_or-set_other, drop-drop, take-append-le, drop-append-le, drop_at, take_at, length-take-le, drop-append-add}
use Rattle.rules.specs.declared.Security.{Security}
use Rattle.rules.specs.Day.{vacant, no_name}
use Rattle.call_table.specs.Rows.{stored_from, issue_numbers, printed_numbers, range_numbers, counts_numbers, row, with_row, name_of, with_name, rows_from, names_from}
use Rattle.text.proofs.Parts.{take_within}
use Rattle.rules.specs.Sizes.{name_width}
use Rattle.call_table.specs.Sizes.{issue_at, printed_at, range_at, counts_at, row_size}

-- ---- numbers stored one after the other

length_stored : (vs t : List ℕ) (b n : ℕ) → length (stored_from t b n vs) ≡ length t
length_stored [] t b n = refl
length_stored (v ∷ vs) t b n = length_stored vs (set t (b + n) v) b (suc n) ∙ length-set t (b + n) v

below : (vs t : List ℕ) (b n j : ℕ) → j < b + n → get_or (stored_from t b n vs) j 0 ≡ get_or t j 0
below [] t b n j h = refl
below (v ∷ vs) t b n j h = below vs (set t (b + n) v) b (suc n) j (omega arith) ∙ get_or-set_other t (b + n) j v 0 (omega arith)

above : (vs t : List ℕ) (b n j : ℕ) → b + n + length vs ≤ j → get_or (stored_from t b n vs) j 0 ≡ get_or t j 0
above [] t b n j h = refl
above (v ∷ vs) t b n j h = above vs (set t (b + n) v) b (suc n) j (omega arith) ∙ get_or-set_other t (b + n) j v 0 (omega arith)

within : (vs t : List ℕ) (b n k : ℕ) → k < length vs → b + n + length vs ≤ length t → get_or (stored_from t b n vs) (b + (n + k)) 0 ≡ get_or vs k 0
within [] t b n k h l = absurd (not-suc-le-zero h)
within (v ∷ vs) t b n zero h l =
    let e : b + (n + 0) ≡ b + n = omega arith in
    rw e (below vs (set t (b + n) v) b (suc n) (b + n) (omega arith) ∙ get_or-set_same t (b + n) v 0 (omega arith))
within (v ∷ vs) t b n (suc k) h l =
    let e : b + (n + suc k) ≡ b + (suc n + k) = omega arith in
    rw e (within vs (set t (b + n) v) b (suc n) k (le_of_suc-le-suc h) (rw length-set (omega arith)))

-- from b + m on is m further from b on
stored_shift : (vs t : List ℕ) (b m n : ℕ) → stored_from t (b + m) n vs ≡ stored_from t b (m + n) vs
stored_shift [] t b m n = refl
stored_shift (v ∷ vs) t b m n =
    let e : b + m + n ≡ b + (m + n) = omega arith in
    let f : m + suc n ≡ suc (m + n) = omega arith in
    stored_shift vs (set t (b + m + n) v) b m (suc n) ∙ ap (λ (k : ℕ). stored_from (set t (b + m + n) v) b k vs) f ∙ ap (λ (k : ℕ). stored_from (set t k v) b (suc (m + n)) vs) e

-- a row is its numbers, those of each part from where it begins
numbers : Security → List ℕ
numbers s = issue_numbers s.issue ++ (printed_numbers s.printed ++ (range_numbers s.range ++ counts_numbers s.counts))

stored_row : (t : List ℕ) (i : ℕ) (s : Security) → with_row t i s ≡ stored_from t (i * row_size) 0 (numbers s)
unfolding numbers
stored_row t i s =
    let b = i * row_size in
    let t₁ = stored_from t (b + issue_at) 0 (issue_numbers s.issue) in
    let t₂ = stored_from t₁ (b + printed_at) 0 (printed_numbers s.printed) in
    let t₃ = stored_from t₂ (b + range_at) 0 (range_numbers s.range) in
    stored_shift (counts_numbers s.counts) t₃ b counts_at 0
    ∙ ap (λ (u : List ℕ). stored_from u b counts_at (counts_numbers s.counts))
    (stored_shift (range_numbers s.range) t₂ b range_at 0
    ∙ ap (λ (u : List ℕ). stored_from u b range_at (range_numbers s.range))
    (stored_shift (printed_numbers s.printed) t₁ b printed_at 0
    ∙ ap (λ (u : List ℕ). stored_from u b printed_at (printed_numbers s.printed))
    (stored_shift (issue_numbers s.issue) t b issue_at 0)))

pub length_row : (t : List ℕ) (i : ℕ) (s : Security) → length (with_row t i s) ≡ length t
length_row t i s = ap length (stored_row t i s) ∙ length_stored (numbers s) t (i * row_size) 0

module _ (t : List ℕ) (i : ℕ) (f : ℕ → ℕ) (at : (k : ℕ) → k < row_size → get_or t (i * row_size + k) 0 ≡ f k) where
  number_at : (m n : ℕ) → m + n < row_size → get_or t (i * row_size + m + n) 0 ≡ f (m + n)
  number_at m n h = let e : i * row_size + m + n ≡ i * row_size + (m + n) = omega arith in ap (λ (k : ℕ). get_or t k 0) e ∙ at (m + n) h

  row_by : row t i ≡ record {
    issue = record { unit = f 0; network = f 1; market = f 2; first = f 3 };
    printed = record { price = f printed_at };
    range = record { high = f range_at; low = f (range_at + 1); last = f (range_at + 2) };
    counts = record { trades = f counts_at; qualified = f (counts_at + 1); primaries = f (counts_at + 2) };
  }
  row_by = λ x. record {
    issue = record { unit = number_at issue_at 0 (omega arith) x; network = number_at issue_at 1 (omega arith) x; market = number_at issue_at 2 (omega arith) x; first = number_at issue_at 3 (omega arith) x };
    printed = record { price = number_at printed_at 0 (omega arith) x };
    range = record { high = number_at range_at 0 (omega arith) x; low = number_at range_at 1 (omega arith) x; last = number_at range_at 2 (omega arith) x };
    counts = record { trades = number_at counts_at 0 (omega arith) x; qualified = number_at counts_at 1 (omega arith) x; primaries = number_at counts_at 2 (omega arith) x };
  }

stored_at : (t : List ℕ) (i : ℕ) (s : Security) → i * row_size + row_size ≤ length t → (k : ℕ) → k < row_size → get_or (with_row t i s) (i * row_size + k) 0 ≡ get_or (numbers s) k 0
unfolding numbers
stored_at t i s l k h =
    let e : i * row_size + (0 + k) ≡ i * row_size + k = omega arith in
    ap (λ (u : List ℕ). get_or u (i * row_size + k) 0) (stored_row t i s) ∙ rw e at (within (numbers s) t (i * row_size) 0 k h (omega arith))

pub same_row : (t : List ℕ) (i : ℕ) (s : Security) → i * row_size + row_size ≤ length t → row (with_row t i s) i ≡ s
unfolding numbers
same_row t i s l = row_by (with_row t i s) i (λ k. get_or (numbers s) k 0) (stored_at t i s l)

pub other_row : (t : List ℕ) (i j : ℕ) (s : Security) → (i < j) ⊎ (j < i) → row (with_row t i s) j ≡ row t j
unfolding numbers
other_row t i j s d =
    row_by (with_row t i s) j (λ k. get_or t (j * row_size + k) 0)
    (λ k h.
    ap (λ (u : List ℕ). get_or u (j * row_size + k) 0) (stored_row t i s)
    ∙ ⊎_elim (λ lt. above (numbers s) t (i * row_size) 0 (j * row_size + k) (omega arith)) (λ gt. below (numbers s) t (i * row_size) 0 (j * row_size + k) (omega arith)) d)
    ∙ sym (row_by t j (λ k. get_or t (j * row_size + k) 0) (λ k h. refl))

-- ---- the rows as a list

pub rows_get : (k i j : ℕ) (t : List ℕ) → j < k → get_or (rows_from k i t) j vacant ≡ row t (i + j)
unfolding rows_from
rows_get zero i j t h = absurd (not-suc-le-zero h)
rows_get (suc k) i zero t h = ap (row t) (omega arith)
rows_get (suc k) i (suc j) t h = rows_get k (suc i) j t (le_of_suc-le-suc h) ∙ ap (row t) (omega arith)

rows_later : (k i m : ℕ) (t : List ℕ) (s : Security) → m < i → rows_from k i (with_row t m s) ≡ rows_from k i t
unfolding rows_from
rows_later zero i m t s h = refl
rows_later (suc k) i m t s h = rw (other_row t m i s (inl h), rows_later k (suc i) m t s (omega arith))

pub rows_set : (k i j : ℕ) (t : List ℕ) (s : Security) → j < k → (i + k) * row_size ≤ length t → rows_from k i (with_row t (i + j) s) ≡ set (rows_from k i t) j s
unfolding rows_from
rows_set zero i j t s h l = absurd (not-suc-le-zero h)
rows_set (suc k) i zero t s h l =
    let e : i + 0 ≡ i = omega arith in
    rw (e, same_row t i s (omega arith), rows_later k (suc i) i t s (omega arith))
rows_set (suc k) i (suc j) t s h l =
    let e : i + suc j ≡ suc i + j = omega arith in
    rw (other_row t (i + suc j) i s (inr (omega arith))) (rw e (ap (λ (r : List Security). row t i ∷ r) (rows_set k (suc i) j t s (le_of_suc-le-suc h) (omega arith))))

-- ---- names

-- the name put at place i is read there
pub name_kept : (names name : List ℕ) (i : ℕ) → length name ≡ name_width → i * name_width + name_width ≤ length names → name_of (with_name names (i * name_width) name) i ≡ name
unfolding name_of with_name
name_kept names name i e l =
    rw (drop_at (take (i * name_width) names) (name ++ drop (i * name_width + length name) names) (i * name_width) (length-take-le (i * name_width) names (omega arith)), take_at name (drop (i * name_width + length name) names) 19 e)

-- a name before it is as it was
pub name_before : (names name : List ℕ) (i j : ℕ) → j < i → i * name_width ≤ length names → name_of (with_name names (i * name_width) name) j ≡ name_of names j
unfolding name_of with_name
name_before names name i j h l =
    let t = take (i * name_width) names in
    let n : length t ≡ i * name_width = length-take-le (i * name_width) names l in
    let d : name_width ≤ length (drop (j * name_width) t) = rw length-drop (omega arith) in
    rw (drop-append-le (j * name_width) t _ (omega arith), take-append-le name_width (drop (j * name_width) t) _ d) (take_within 19 (j * name_width) (i * name_width) names (omega arith))

-- and so is a name after it
pub name_after : (names name : List ℕ) (i j : ℕ) → length name ≡ name_width → i < j → i * name_width + name_width ≤ length names → name_of (with_name names (i * name_width) name) j ≡ name_of names j
unfolding name_of with_name
name_after names name i j e h l =
    let t = take (i * name_width) names in
    let n : length t ≡ i * name_width = length-take-le (i * name_width) names (omega arith) in
    let q : length (t ++ name) ≡ i * name_width + name_width = length-append t name ∙ omega (arith, n, e) in
    let m : ℕ = j * name_width - (i * name_width + name_width) in
    let k : j * name_width ≡ i * name_width + name_width + m = omega arith in
    let r = drop (i * name_width + length name) names in
    let x : drop (i * name_width + name_width + m) (t ++ (name ++ r)) ≡ drop m r = rw (← append_assoc t name r) (ap (λ (z : ℕ). drop (z + m) ((t ++ name) ++ r)) (sym q) ∙ drop-append-add (t ++ name) r m) in
    let y : drop m r ≡ drop (i * name_width + name_width + m) names = rw (e, drop-drop) in
    rw k (ap (take name_width) (x ∙ y))

-- ---- the names as a list

pub names_get : (k i j : ℕ) (names : List ℕ) → j < k → get_or (names_from k i names) j no_name ≡ name_of names (i + j)
unfolding names_from
names_get zero i j names h = absurd (not-suc-le-zero h)
names_get (suc k) i zero names h = ap (name_of names) (omega arith)
names_get (suc k) i (suc j) names h = names_get k (suc i) j names (le_of_suc-le-suc h) ∙ ap (name_of names) (omega arith)

names_later : (k i m : ℕ) (names name : List ℕ) → length name ≡ name_width → m < i → m * name_width + name_width ≤ length names → names_from k i (with_name names (m * name_width) name) ≡ names_from k i names
unfolding names_from
names_later zero i m names name e h l = refl
names_later (suc k) i m names name e h l = rw (name_after names name m i e h l, names_later k (suc i) m names name e (omega arith) l)

pub names_set : (k i j : ℕ) (names name : List ℕ) → length name ≡ name_width → j < k → (i + k) * name_width ≤ length names → names_from k i (with_name names ((i + j) * name_width) name) ≡ set (names_from k i names) j name
unfolding names_from
names_set zero i j names name e h l = absurd (not-suc-le-zero h)
names_set (suc k) i zero names name e h l =
    let q : i + 0 ≡ i = omega arith in
    rw (q, name_kept names name i e (omega arith), names_later k (suc i) i names name e (omega arith) (omega arith))
names_set (suc k) i (suc j) names name e h l =
    let q : i + suc j ≡ suc i + j = omega arith in
    rw (name_before names name (i + suc j) i (omega arith) (omega arith)) (rw q (ap (λ (r : List (List ℕ)). name_of names i ∷ r) (names_set k (suc i) j names name e (le_of_suc-le-suc h) (omega arith))))

-- ---- cleared tables

nought_at : (m j : ℕ) → ◌≡◌ {A = ℕ} (get_or (replicate m 0) j 0) 0
nought_at zero j = refl
nought_at (suc m) zero = refl
nought_at (suc m) (suc j) = nought_at m j

nought_row : (m i : ℕ) → row (replicate m 0) i ≡ vacant
unfolding vacant
nought_row m i = row_by (replicate m 0) i (λ k. 0) (λ k h. nought_at m (i * row_size + k))

pub rows_cleared : (k i m : ℕ) → rows_from k i (replicate m 0) ≡ replicate k vacant
unfolding rows_from vacant
rows_cleared zero i m = refl
rows_cleared (suc k) i m = rw (nought_row m i, rows_cleared k (suc i) m)

noughts : (j k : ℕ) → j ≡ k → ◌≡◌ {A = List ℕ} (replicate j 0) (replicate k 0)
noughts j k e = rw e

drop_noughts : (a m : ℕ) → ◌≡◌ {A = List ℕ} (drop a (replicate m 0)) (replicate (m - a) 0)
drop_noughts zero m = noughts m (m - 0) (omega arith)
drop_noughts (suc a) zero = noughts 0 (0 - suc a) (omega arith)
drop_noughts (suc a) (suc m) = drop_noughts a m ∙ noughts (m - a) (suc m - suc a) (omega arith)

take_noughts : (n m : ℕ) → n ≤ m → ◌≡◌ {A = List ℕ} (take n (replicate m 0)) (replicate n 0)
take_noughts zero m h = refl
take_noughts (suc n) zero h = absurd (not-suc-le-zero h)
take_noughts (suc n) (suc m) h = ap (λ (l : List ℕ). 0 ∷ l) (take_noughts n m (le_of_suc-le-suc h))

nought_name : (m i : ℕ) → i * name_width + name_width ≤ m → name_of (replicate m 0) i ≡ no_name
unfolding name_of no_name
nought_name m i h = rw (drop_noughts (i * name_width) m) (take_noughts name_width (m - i * name_width) (omega arith))

pub names_cleared : (k i m : ℕ) → (i + k) * name_width ≤ m → names_from k i (replicate m 0) ≡ replicate k no_name
unfolding names_from
names_cleared zero i m h = refl
names_cleared (suc k) i m h = rw (nought_name m i (omega arith), names_cleared k (suc i) m (omega arith))
