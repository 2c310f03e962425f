-- Laws for callers: the numbers of an answer are within the text. Assumes nothing.
use Prim.Native.Nat.{ℕ, suc, ◌-◌, ◌≤◌}
use native.Mathlib.Omega.{arith}
use mathlib.Core.Path.{◌≡◌, refl, sym, ◌∙◌}
use mathlib.Core.Bool.{Bool, true, false, ◌&&◌, ◌||◌, not}
use mathlib.Core.List.{List, [], ◌∷◌}
use mathlib.Core.Logic.{⊎_elim}
use lib.ListN.{length, take, drop, length-drop}
use lib.Seq.{length-take-le}
use lib.Dec.{eqb, leb}
use borrow.Author.Tests.{leb-true}
use Rattle.std.specs.Prelude.{Option, Some, None}
use Rattle.text.specs.Bytes.{bytes}
use Rattle.text.specs.Pick.{pick, member}
use Rattle.text.specs.Reading.{heads, starts}
use Rattle.text.proofs.Texts.{and_left, and_right}
use Rattle.rules.specs.Tape.{is_letter, is_upper, is_raised}
use Rattle.rules.specs.Columns.{between}
use Rattle.rules.specs.Names.{is_suffix, is_reserved, listed_suffixes}
use Rattle.rules.specs.declared.Letters.{Letters}
use Rattle.text.proofs.Booleans.{or_cases}
use Rattle.name_back.proofs.Parts.{each, member_each, class_ends, suffix_case}
use Rattle.read_name.specs.Name.{count_of, ends_in, suffix_text, with_end, plain_end, ends_lawfully, lawful_root, appendage_of, name_on}
use Rattle.read_name.specs.Head.{after_in, name_count, named_by, in_run, head_at, again_by, again_in, again_at}
use Rattle.read_name.specs.declared.NameRead.{NameRead}
use Rattle.read_name.specs.declared.AgainRead.{AgainRead}
use Rattle.read_name.proofs.Count.{count_within, name_within}
use Rattle.read_name.proofs.Ends.{ends_room, before_cut}

-- ---- how long a name is: 1 to 21 bytes

class_most : (c : ℕ) (e : List ℕ) → is_letter c ≡ true → member e class_ends ≡ true → leb (length (112 ∷ c ∷ e)) 6 ≡ true
unfolding each
class_most c e h m = member_each (λ t. leb (suc (suc (length t))) 6) class_ends e refl m

suffix_most : (s : List ℕ) → is_suffix s ≡ true → length s ≤ 6
unfolding each listed_suffixes
suffix_most s h = leb-true (length s) 6 (suffix_case (λ t. leb (length t) 6) refl class_most (λ c k. refl) s h)

text_most : (s : List ℕ) → suffix_text s ≡ true → length s ≤ 7
unfolding suffix_text pick
text_most [] h = omega arith
text_most (c ∷ s) h = go (eqb c 46) refl h
  where
    go : (b : Bool) → eqb c 46 ≡ b → pick b (not (heads is_raised s) && is_suffix s) (is_raised c && is_suffix (c ∷ s)) ≡ true → length (c ∷ s) ≤ 7
    go true e k = let n = suffix_most s (and_right (not (heads is_raised s)) (is_suffix s) k) in omega arith
    go false e k = let n = suffix_most (c ∷ s) (and_right (is_raised c) (is_suffix (c ∷ s)) k) in omega arith

with_most : (e s : List ℕ) → length e ≤ 5 → with_end e s ≡ true → length s ≤ 12
unfolding with_end
with_most e s l h =
    let a = ends_room e s (ends_in e s) refl (and_left (ends_in e s) (suffix_text (take (length s - length e) s)) h) in
    let n = text_most (take (length s - length e) s) (and_right (ends_in e s) (suffix_text (take (length s - length e) s)) h) in
    omega (arith, before_cut e s)

temporary_most : (s : List ℕ) → (with_end (bytes ".XD") s || (with_end (bytes ".XDIS") s || (with_end (bytes ".Xr") s || (with_end (bytes ".N") s || with_end (bytes ".XI") s)))) ≡ true → length s ≤ 12
temporary_most s h =
    ⊎_elim (λ a. with_most (bytes ".XD") s (omega arith) a)
    (λ h₂. ⊎_elim (λ a. with_most (bytes ".XDIS") s (omega arith) a)
    (λ h₃. ⊎_elim (λ a. with_most (bytes ".Xr") s (omega arith) a)
    (λ h₄. ⊎_elim (λ a. with_most (bytes ".N") s (omega arith) a) (λ a. with_most (bytes ".XI") s (omega arith) a)
    (or_cases (with_end (bytes ".N") s) (with_end (bytes ".XI") s) h₄))
    (or_cases (with_end (bytes ".Xr") s) _ h₃))
    (or_cases (with_end (bytes ".XDIS") s) _ h₂))
    (or_cases (with_end (bytes ".XD") s) _ h)

plain_most : (t : Bool) (s : List ℕ) → plain_end t s ≡ true → length s ≤ 12
unfolding plain_end
plain_most t s h =
    ⊎_elim (λ a. let n = text_most s a in omega arith) (λ k. temporary_most s (and_right t _ k)) (or_cases (suffix_text s) _ h)

ends_most : (t : Bool) (e s : List ℕ) → length e ≤ 3 → ends_lawfully t e s ≡ true → length s ≤ 15
unfolding ends_lawfully
ends_most t e s l h = ⊎_elim (λ a. let n = plain_most t s a in omega arith) (λ k. more k) (or_cases (plain_end t s) _ h)
  where
    more : (ends_in e s && plain_end t (take (length s - length e) s)) ≡ true → length s ≤ 15
    more k =
        let a = ends_room e s (ends_in e s) refl (and_left (ends_in e s) (plain_end t (take (length s - length e) s)) k) in
        let n = plain_most t (take (length s - length e) s) (and_right (ends_in e s) (plain_end t (take (length s - length e) s)) k) in
        omega (arith, before_cut e s)

appendage_most : (network : ℕ) → length (appendage_of network) ≤ 3
unfolding appendage_of pick
appendage_most network = go (eqb network 65)
  where
    go : (b : Bool) → length (pick b (bytes ".BC") (bytes ".DL")) ≤ 3
    go true = omega arith
    go false = omega arith

root_most : (s : List ℕ) → lawful_root s ≡ true → length s ≤ 6
unfolding lawful_root between
root_most s h = leb-true (length s) 6 (and_right (leb 1 (length s)) (leb (length s) 6) (and_left (leb 1 (length s) && leb (length s) 6) (not (is_reserved s)) h))

root_some : (s : List ℕ) → lawful_root s ≡ true → 1 ≤ length s
unfolding lawful_root between
root_some s h = leb-true 1 (length s) (and_left (leb 1 (length s)) (leb (length s) 6) (and_left (leb 1 (length s) && leb (length s) 6) (not (is_reserved s)) h))

name_some : (t : Bool) (network : ℕ) (name : List ℕ) → name_on t network name ≡ true → 1 ≤ length name
unfolding name_on
name_some t network name h =
    let n = count_of is_letter 7 name in
    let w : n ≤ length name = count_within is_letter 7 name in
    let a = root_some (take n name) (and_left (lawful_root (take n name)) (ends_lawfully t (appendage_of network) (drop n name)) h) in
    omega (arith, length-take-le n name w)

pub name_most : (t : Bool) (network : ℕ) (name : List ℕ) → name_on t network name ≡ true → length name ≤ 21
unfolding name_on
name_most t network name h =
    let n = count_of is_letter 7 name in
    let w : n ≤ length name = count_within is_letter 7 name in
    let a = root_most (take n name) (and_left (lawful_root (take n name)) (ends_lawfully t (appendage_of network) (drop n name)) h) in
    let b = ends_most t (appendage_of network) (drop n name) (appendage_most network) (and_right (lawful_root (take n name)) (ends_lawfully t (appendage_of network) (drop n name)) h) in
    omega (arith, length-take-le n name w, length-drop n name)

-- ---- the head

record Parts (t : Bool) (name : List ℕ) (used : ℕ) (x : NameRead) : Type 0 where
  used_is : x.used ≡ used
  length_is : x.length ≡ length name
  some : 1 ≤ length name
  short : length name ≤ 21

never : ◌≡◌ {A = ℕ} 0 1 → ⊥
never z = omega arith

parts : (t : Bool) (name : List ℕ) (used : ℕ) (after : Option Letters) (x : NameRead) → named_by t name used after ≡ Some x → Parts t name used x
unfolding named_by pick
parts t name used None x h = absurd (never (cc))
parts t name used (Some letters) x h = go (name_on t 65 name) (name_on t 66 name) refl refl h
  where
    go : (a b : Bool) → name_on t 65 name ≡ a → name_on t 66 name ≡ b → pick (a || b) (Some (record { length = length name; used = used; letters = letters; a = a; b = b })) None ≡ Some x → Parts t name used x
    go true b e f k = record { used_is = cc; length_is = cc; some = name_some t 65 name e; short = name_most t 65 name e }
    go false true e f k = record { used_is = cc; length_is = cc; some = name_some t 66 name f; short = name_most t 66 name f }
    go false false e f k = absurd (never (cc))

run_of : List ℕ → List ℕ
run_of s = take (count_of is_upper 35 s) s

run_within : (s : List ℕ) → length (run_of s) ≤ length s
unfolding run_of
run_within s = let w = count_within is_upper 35 s in omega (arith, length-take-le (count_of is_upper 35 s) s w)

-- r is what a caller was answered
module _ (t : Bool) (s : List ℕ) (x : NameRead) (r : Option NameRead) (e : r ≡ head_at t s) (n : r ≡ Some x) where
  head_parts : Parts t (take (name_count (run_of s)) (run_of s)) (length (run_of s)) x
  unfolding head_at in_run run_of
  head_parts = parts t (take (name_count (run_of s)) (run_of s)) (length (run_of s)) (after_in (drop (name_count (run_of s)) (run_of s))) x (sym e ∙ n)

  pub head_used : x.used ≤ length s
  head_used = rw head_parts.used_is (run_within s)

  pub head_length : x.length ≤ x.used
  head_length =
      let k = name_count (run_of s) in
      let w : k ≤ length (run_of s) = name_within (run_of s) in
      omega (arith, head_parts.used_is, head_parts.length_is, length-take-le k (run_of s) w)

  pub head_some : 1 ≤ x.length
  head_some = rw head_parts.length_is head_parts.some

  pub head_short : x.length ≤ 21
  head_short = rw head_parts.length_is head_parts.short

-- ---- the head of a correcting trade

again_parts : (used : ℕ) (after : Option Letters) (x : AgainRead) → again_by used after ≡ Some x → x.used ≡ used
unfolding again_by
again_parts used None x h = absurd (never (cc))
again_parts used (Some letters) x h = cc

again_run : (name run : List ℕ) (x : AgainRead) → again_in name run ≡ Some x → x.used ≤ length run
unfolding again_in pick
again_run name [] x h = omega (arith, again_parts 0 (after_in []) x h)
again_run name (c ∷ run) x h = go (starts name (c ∷ run)) h
  where
    go : (b : Bool) → pick b (again_by (length (c ∷ run)) (after_in (drop (length name) (c ∷ run)))) None ≡ Some x → x.used ≤ length (c ∷ run)
    go true k = omega (arith, again_parts (length (c ∷ run)) (after_in (drop (length name) (c ∷ run))) x k)
    go false k = absurd (never (cc))

pub again_used : (name s : List ℕ) (x : AgainRead) (r : Option AgainRead) → r ≡ again_at name s → r ≡ Some x → x.used ≤ length s
unfolding again_at run_of
again_used name s x r e n = let w = run_within s in let u = again_run name (run_of s) x (sym e ∙ n) in omega arith
