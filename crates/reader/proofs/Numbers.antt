-- An answer of the reader in document 01's numbers: a print has at least one byte, and the reader refuses by 14 alone. Assumes nothing.
use Prim.Native.Nat.{ℕ, ◌+◌, ◌≤◌}
use native.Mathlib.Omega.{arith}
use mathlib.Core.Path.{◌≡◌, refl, ap, ◌∙◌}
use mathlib.Core.Bool.{Bool, true, false}
use mathlib.Core.List.{List}
use lib.Dec.{leb}
use lib.ListN.{drop}
use borrow.Author.Tests.{le-leb}
use Rattle.std.specs.Prelude.{Option, Some, None, Result, Ok, Err}
use Rattle.text.specs.Bytes.{bytes}
use Rattle.text.specs.Pick.{pick}
use Rattle.text.specs.Reading.{starts}
use Rattle.text.proofs.Booleans.{pick_cases}
use Rattle.rules.specs.Refusal.{number_of}
use Rattle.rules.specs.declared.Refusal.{Refusal}
use Rattle.rules.specs.declared.Refusal.TheVariants.{NoPrint}
use Rattle.rules.specs.declared.Side.{Side}
use Rattle.read_announcement.specs.Announced.{announced_length}
use Rattle.read_announcement.proofs.Sound.{announced_positive}
use Rattle.read_name.specs.declared.NameRead.{NameRead}
use Rattle.read_name.specs.Head.{head_at}
use Rattle.read_name.proofs.Bounds.{head_some, head_length}
use Rattle.read_name.specs.declared.AgainRead.{AgainRead}
use Rattle.read_side.specs.declared.SideRead.{SideRead}
use Rattle.reader.specs.declared.PrintRead.{PrintRead}
use Rattle.reader.specs.Read.{trade_side, trade_head, trade_at, end_at, amended, ended_by, cancel_side, cancel_head, cancel_at, corrected_by, second_side, second_head, second_at, correction_side, correction_head, correction_at, announced_by, print_at, read_at}
use Rattle.reader.specs.Told.{answer_number, length_of, name_in, name_at, fact_in, ReadIs}
use Rattle.reader.specs.declared.Print.{Print}

-- ---- 0 with a length, or 14 without one

unfoldable Numbered : Result Print Refusal → Type 0
Numbered r = answer_number r ≡ pick (leb 1 (length_of r)) 0 14

none : Numbered (Err NoPrint)
unfolding Numbered length_of number_of pick
none = refl

-- a length of at least 1
counted : (n : ℕ) → 1 ≤ n → ◌≡◌ {A = ℕ} 0 (pick (leb 1 n) 0 14)
unfolding pick
counted n h = rw (le-leb 1 n h)

-- where the end pair stands behind some bytes
end_some : (s : List ℕ) (n : ℕ) (x : Side) (m : ℕ) → 1 ≤ n → end_at s n x ≡ Some m → 1 ≤ m
unfolding end_at pick
end_some s n x m h = go x.letters.g (starts (bytes ">>") (drop n s))
  where
    go : (a b : Bool) → pick a (Some n) (pick b (Some (n + 2)) None) ≡ Some m → 1 ≤ m
    go true b e = let q : n ≡ m = cc in omega arith
    go false true e = let q : n + 2 ≡ m = cc in omega arith
    go false false e = absurd (let z : ◌≡◌ {A = ℕ} 0 1 = cc in omega arith)

-- a trade: its name has at least one byte
trade_side_lem : (h : NameRead) → 1 ≤ h.used → (x : Result SideRead Refusal) → Numbered (trade_side h x)
unfolding trade_side Numbered length_of
trade_side_lem h k (Err r) = none
trade_side_lem h k (Ok x) = counted (h.used + x.taken.used) (omega arith)

trade_head_lem : (s : List ℕ) (head : Option NameRead) → head ≡ head_at true s → Numbered (trade_head s head)
unfolding trade_head
trade_head_lem s None e = none
trade_head_lem s (Some h) e = trade_side_lem h (omega (arith, head_some true s h (Some h) e refl, head_length true s h (Some h) e refl)) _

-- a cancel or an error
amendment : (error : Bool) (x : PrintRead) → 1 ≤ x.length → Numbered (amended error x)
unfolding amended Numbered length_of
amendment true x h = counted x.length h
amendment false x h = counted x.length h

cancel_side_lem : (s : List ℕ) (error : Bool) (h : NameRead) (x : Result SideRead Refusal) → Numbered (cancel_side s error h x)
unfolding cancel_side ended_by
cancel_side_lem s error h (Err r) = none
cancel_side_lem s error h (Ok x) = go (end_at s (6 + h.used + x.taken.used) x.taken.side) refl
  where
    go : (end : Option ℕ) → end_at s (6 + h.used + x.taken.used) x.taken.side ≡ end → Numbered (ended_by error h x.taken.side end)
    go None e = none
    go (Some m) e = amendment error _ (end_some s (6 + h.used + x.taken.used) x.taken.side m (omega arith) e)

cancel_head_lem : (s : List ℕ) (error : Bool) (head : Option NameRead) → Numbered (cancel_head s error head)
unfolding cancel_head
cancel_head_lem s error None = none
cancel_head_lem s error (Some h) = cancel_side_lem s error h _

-- a correction
corrected : (s : List ℕ) (h : NameRead) (x y : Side) (n : ℕ) → 1 ≤ n → (end : Option ℕ) → end_at s n y ≡ end → Numbered (corrected_by h x y end)
unfolding corrected_by Numbered length_of
corrected s h x y n k None e = none
corrected s h x y n k (Some m) e = counted m (end_some s n y m k e)

second_side_lem : (s : List ℕ) (h : NameRead) (x : Side) (n u : ℕ) → 1 ≤ n → (side : Result SideRead Refusal) → Numbered (second_side s h x n u side)
unfolding second_side
second_side_lem s h x n u k (Err r) = none
second_side_lem s h x n u k (Ok y) = pick_cases Numbered _ _ (Err NoPrint) (λ e. corrected s h x y.taken.side (n + y.taken.used) (omega arith) _ refl) (λ e. none)

second_head_lem : (s : List ℕ) (h : NameRead) (x : SideRead) (n : ℕ) → 1 ≤ n → (again : Option AgainRead) → Numbered (second_head s h x n again)
unfolding second_head
second_head_lem s h x n k None = none
second_head_lem s h x n k (Some g) = second_side_lem s h x.taken.side (n + g.used) g.used (omega arith) _

second_at_lem : (s : List ℕ) (h : NameRead) (x : SideRead) (n : ℕ) → Numbered (second_at s h x n)
unfolding second_at
second_at_lem s h x n = pick_cases Numbered _ _ (Err NoPrint) (λ e. second_head_lem s h x (n + 4) (omega arith) _) (λ e. none)

correction_side_lem : (s : List ℕ) (h : NameRead) (x : Result SideRead Refusal) → Numbered (correction_side s h x)
unfolding correction_side
correction_side_lem s h (Err r) = none
correction_side_lem s h (Ok x) = second_at_lem s h x (7 + h.used + x.taken.used)

correction_head_lem : (s : List ℕ) (head : Option NameRead) → Numbered (correction_head s head)
unfolding correction_head
correction_head_lem s None = none
correction_head_lem s (Some h) = correction_side_lem s h _

-- an announcement
announced_by_lem : (s : List ℕ) (r : Option ℕ) → announced_length s ≡ r → Numbered (announced_by r)
unfolding announced_by Numbered length_of
announced_by_lem s None e = none
announced_by_lem s (Some n) e = counted n (announced_positive s n e)

print_by : (s : List ℕ) → Numbered (print_at s)
unfolding print_at correction_at cancel_at trade_at
print_by s =
    pick_cases Numbered _ _ _ (λ e. announced_by_lem s (announced_length s) refl) (λ e.
    pick_cases Numbered _ _ _ (λ f. correction_head_lem s (head_at false (drop 7 s))) (λ f.
    pick_cases Numbered _ _ _ (λ g. cancel_head_lem s false (head_at false (drop 6 s))) (λ g.
    pick_cases Numbered _ _ _ (λ h. cancel_head_lem s true (head_at false (drop 6 s))) (λ h.
    trade_head_lem s (head_at true s) refl))))

-- ---- at a place of a tape

module _ (tape : List ℕ) (place : ℕ) where
  number_at : answer_number (read_at tape place) ≡ pick (leb 1 (length_of (read_at tape place))) 0 14
  unfolding read_at Numbered
  number_at = print_by (drop place tape)

  -- a refusal is 14
  pub refused_by : (r : Refusal) → read_at tape place ≡ Err r → number_of r ≡ 14
  unfolding length_of pick
  refused_by r e = rw e at number_at

  pub answered : (r : Result Print Refusal) → r ≡ read_at tape place → ReadIs tape place r
  unfolding name_at
  answered r e = record {
    answer_is = e;
    number_is = ap answer_number e ∙ number_at;
    length_is = ap length_of e;
    name_is = ap (name_in (drop place tape)) e;
    facts_are = ap (fact_in (drop place tape)) e;
  }
