-- The security of a name: the number at which it stands, where no other has it. Assumes nothing.
use Prim.Native.Nat.{ℕ, zero, suc, ◌+◌, ◌-◌, ◌≤◌, ◌<◌}
use native.Mathlib.Nat.{le_of_suc-le-suc, not-suc-le-zero}
use native.Mathlib.Omega.{arith}
use mathlib.Core.Path.{◌≡◌, refl, sym, ap, ◌∙◌}
use mathlib.Core.Bool.{Bool, true, false, ◌&&◌}
use mathlib.Core.List.{List, [], ◌∷◌}
use mathlib.Core.Option.{some}
use lib.ListN.{length, get_or, length-append}
use borrow.Author.Tests.{not-true}
use Rattle.text.specs.Pick.{pick, opt, same, among}
use Rattle.text.specs.Reading.{heads, span}
use Rattle.text.proofs.Texts.{same_true, same_refl}
use Rattle.text.proofs.Booleans.{neither, or_first, or_second, false_true, and_true}
use Rattle.rules.specs.Tape.{is_letter, is_raised}
use Rattle.rules.specs.Columns.{is_blank, word}
use Rattle.rules.specs.Names.{part_text, name_text, has_temporary, same_name, temporary_field}
use Rattle.rules.specs.Day.{no_name}
use Rattle.name_text.proofs.Text.{name_sum}
use Rattle.claim_decoder.specs.Decode.{Names, is_name_of, number_from, name_in, shows_suffix}

-- ---- the same text

-- texts that one test tells apart
apart : (p : ℕ → Bool) (s t : List ℕ) → heads p s ≡ true → heads p t ≡ false → same s t ≡ false
apart p s t h k = go (same s t) refl
  where
    go : (b : Bool) → same s t ≡ b → b ≡ false
    go false e = refl
    go true e = absurd (false_true (sym k ∙ (ap (heads p) (sym (same_true s t e)) ∙ h)))

-- ---- a name among those listed

own_name : (b : Bool) (name : List ℕ) → is_name_of (name_text b name) name ≡ true
unfolding is_name_of
own_name true name = or_first _ _ (same_refl (name_text true name))
own_name false name = or_second (same (name_text false name) (name_text true name)) _ (same_refl (name_text false name))

other_name : (b : Bool) (m n : List ℕ) → same_name m n ≡ false → is_name_of (name_text b m) n ≡ false
unfolding is_name_of same_name
other_name true m n h =
    let p = neither (same (name_text true m) (name_text true n)) _ h in
    let q = neither (same (name_text true m) (name_text false n)) _ p.1 in
    rw (p.0, q.0)
other_name false m n h =
    let p = neither (same (name_text true m) (name_text true n)) _ h in
    let q = neither (same (name_text true m) (name_text false n)) _ p.1 in
    let r = neither (same (name_text false m) (name_text true n)) _ q.1 in
    rw (r.0, r.1)

-- no name stands at a vacant place
vacant_head : (b : Bool) → heads is_letter (name_text b no_name) ≡ false
unfolding name_text no_name word span is_blank is_letter part_text opt is_raised among pick
vacant_head true = refl
vacant_head false = refl

pub no_name_lem : (text : List ℕ) → heads is_letter text ≡ true → is_name_of text no_name ≡ false
unfolding is_name_of
no_name_lem text h = rw (apart is_letter text (name_text true no_name) h (vacant_head true), apart is_letter text (name_text false no_name) h (vacant_head false))

number_at : (l : Names) (k j : ℕ) (text : List ℕ) → j < length l → is_name_of text (get_or l j no_name) ≡ true → ((m : ℕ) → m < j → is_name_of text (get_or l m no_name) ≡ false) → number_from k text l ≡ some (k + j)
unfolding number_from pick
number_at [] k j text h e f = absurd (not-suc-le-zero h)
number_at (n ∷ l) k zero text h e f = rw e (ap some (omega arith))
number_at (n ∷ l) k (suc j) text h e f =
    rw (f 0 (omega arith)) (number_at l (suc k) j text (le_of_suc-le-suc h) e (λ m i. f (suc m) (omega arith)) ∙ ap some (omega arith))

-- THE SECURITY IS FOUND by its name, with or without its temporary suffix
pub number_back : (l : Names) (i : ℕ) (b : Bool) → 1 ≤ i → i ≤ length l → ((m : ℕ) → m < i - 1 → is_name_of (name_text b (name_in l i)) (get_or l m no_name) ≡ false) → number_from 1 (name_text b (name_in l i)) l ≡ some i
number_back l i b h k f = number_at l 1 (i - 1) (name_text b (name_in l i)) (omega arith) (own_name b (name_in l i)) f ∙ ap some (omega arith)

pub unlike_name : (b : Bool) (m n : List ℕ) → same_name m n ≡ false → is_name_of (name_text b m) n ≡ false
unlike_name b m n h = other_name b m n h

-- ---- the temporary suffix

some_part : (t : List ℕ) → same t [] ≡ false → 1 ≤ length (part_text t)
unfolding same part_text
some_part [] h = absurd (false_true (sym h))
some_part (c ∷ t) h = simp length-append (omega arith)

with_suffix : (name : List ℕ) → has_temporary name ≡ true → same (name_text false name) (name_text true name) ≡ false
unfolding has_temporary opt
with_suffix name h = go (same (name_text false name) (name_text true name)) refl
  where
    more : 1 ≤ length (part_text (word (temporary_field name)))
    more = some_part (word (temporary_field name)) (not-true (same (word (temporary_field name)) []) h)

    go : (b : Bool) → same (name_text false name) (name_text true name) ≡ b → b ≡ false
    go false e = refl
    go true e = absurd (omega (arith, more, ap length (same_true (name_text false name) (name_text true name) e), name_sum false name, name_sum true name))

pub suffix_back : (b : Bool) (name : List ℕ) → shows_suffix (name_text b name) name ≡ (b && has_temporary name)
unfolding shows_suffix
suffix_back true name = rw (same_refl (name_text true name)) (and_true (has_temporary name))
suffix_back false name = go (has_temporary name) refl
  where
    go : (b : Bool) → has_temporary name ≡ b → (b && same (name_text false name) (name_text true name)) ≡ false
    go true e = with_suffix name e
    go false e = refl
