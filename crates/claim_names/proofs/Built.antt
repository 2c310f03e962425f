-- A text that passes is the name of a security that an S line can enter. Assumes nothing.
use Prim.Native.Nat.{ℕ, zero, suc, ◌≤◌}
use native.Mathlib.Omega.{arith}
use mathlib.Core.Path.{◌≡◌, refl, sym, ap, ◌∙◌}
use mathlib.Core.Logic.{⊎_elim}
use mathlib.Core.Bool.{Bool, true, false, ◌&&◌, ◌||◌, not}
use mathlib.Core.List.{List, [], ◌∷◌, ◌++◌, append_assoc, append-nil}
use lib.Dec.{eqb, leb}
use lib.ListN.{length, take, drop, get_or, take-append-drop}
use borrow.Author.Tests.{eqb-true, leb-true, not-true}
use Rattle.text.specs.Bytes.{bytes}
use Rattle.text.specs.Pick.{pick, opt, all, same, member, among}
use Rattle.text.specs.Reading.{heads, span, starts}
use Rattle.text.proofs.Texts.{and_left, and_right, same_true}
use Rattle.text.proofs.Tests.{is_le, is_ne}
use Rattle.text.proofs.Booleans.{or_true, and_both, false_true, or_cases}
use Rattle.text.proofs.Parts.{all_append}
use Rattle.rules.specs.Tape.{is_letter, is_raised}
use Rattle.rules.specs.Columns.{is_blank, blank, word, not_blank, between, filled, left_justified, is_root}
use Rattle.rules.specs.Names.{texts, root_field, suffix_field, temporary_field, appendage_field, part_text, name_text, listed_suffixes, is_reserved, is_preferred, is_suffix, is_temporary, is_appendage, lawful_field, lawful_name}
use Rattle.rules.specs.Line.{is_printable, is_network}
use Rattle.name_back.specs.Plain.{NamePlain}
use Rattle.name_back.proofs.Parts.{each, member_each, class_ends, suffix_case}
use Rattle.claim_compose.specs.Columns.{first_or, later, text_field}
use Rattle.read_name.specs.Name.{ends_in, before, suffix_text, with_end, plain_end, ends_lawfully, lawful_root, root_count, appendage_of, name_on}
use Rattle.claim_names.proofs.Counts.{count_passes, end_is}

-- ---- a word in its columns

word_byte : (c : ℕ) (s : List ℕ) → not_blank c ≡ true → word (c ∷ s) ≡ c ∷ word s
unfolding word span pick
word_byte c s h = rw (word, h)

nothing_there : word [] ≡ []
unfolding word span
nothing_there = refl

blank_there : (s : List ℕ) → word (32 ∷ s) ≡ []
unfolding word span pick is_blank
blank_there s = refl

pub word_field : (k : ℕ) (w : List ℕ) → all not_blank w ≡ true → length w ≤ k → word (text_field k w) ≡ w
unfolding text_field first_or later all
word_field zero [] h l = nothing_there
word_field zero (c ∷ w) h l = absurd (omega (l, arith))
word_field (suc k) [] h l = blank_there (text_field k [])
word_field (suc k) (c ∷ w) h l = word_byte c (text_field k w) (and_left (not_blank c) (all not_blank w) h) ∙ ap (λ x. c ∷ x) (word_field k w (and_right (not_blank c) (all not_blank w) h) (omega (l, arith)))

-- bytes that pass, then blanks
filled_byte : (p : ℕ → Bool) (c : ℕ) (s : List ℕ) → p c ≡ true → filled p (c ∷ s) ≡ filled p s
unfolding filled span pick
filled_byte p c s h = rw (filled, h)

blanks_field : (k : ℕ) → blank (text_field k []) ≡ true
unfolding text_field first_or later blank all is_blank
blanks_field zero = refl
blanks_field (suc k) = blanks_field k

filled_blanks : (p : ℕ → Bool) (k : ℕ) → p 32 ≡ false → filled p (text_field k []) ≡ true
unfolding text_field first_or later filled span pick blank all is_blank
filled_blanks p zero h = refl
filled_blanks p (suc k) h = rw (filled, h) (blanks_field k)

pub filled_field : (p : ℕ → Bool) (k : ℕ) (w : List ℕ) → p 32 ≡ false → all p w ≡ true → length w ≤ k → filled p (text_field k w) ≡ true
unfolding text_field first_or later all
filled_field p zero [] b h l = filled_blanks p zero b
filled_field p zero (c ∷ w) b h l = absurd (omega (l, arith))
filled_field p (suc k) [] b h l = filled_blanks p (suc k) b
filled_field p (suc k) (c ∷ w) b h l = filled_byte p c (text_field k w) (and_left (p c) (all p w) h) ∙ filled_field p k w b (and_right (p c) (all p w) h) (omega (l, arith))

printable_blank : (s : List ℕ) → all is_printable s ≡ true → (is_printable 32 && all is_printable s) ≡ true
unfolding is_printable between
printable_blank s h = h

printable_field : (k : ℕ) (w : List ℕ) → all is_printable w ≡ true → all is_printable (text_field k w) ≡ true
unfolding text_field first_or later all
printable_field zero w h = refl
printable_field (suc k) [] h = printable_blank (text_field k []) (printable_field k [] h)
printable_field (suc k) (c ∷ w) h = and_both (and_left (is_printable c) (all is_printable w) h) (printable_field k w (and_right (is_printable c) (all is_printable w) h))

-- ---- the words of a name

-- no blank, at most k bytes, all printable
fits : ℕ → List ℕ → Bool
fits k w = all not_blank w && (leb (length w) k && all is_printable w)

module _ (k : ℕ) (w : List ℕ) (h : fits k w ≡ true) where
  no_blank : all not_blank w ≡ true
  unfolding fits
  no_blank = and_left (all not_blank w) _ h

  few : length w ≤ k
  unfolding fits
  few = leb-true (length w) k (and_left (leb (length w) k) _ (and_right (all not_blank w) _ h))

  prints : all is_printable w ≡ true
  unfolding fits
  prints = and_right (leb (length w) k) _ (and_right (all not_blank w) _ h)

letter_fine : (c : ℕ) → is_letter c ≡ true → (not_blank c ≡ true) × (is_printable c ≡ true)
unfolding is_letter is_printable between is_blank
letter_fine c h =
    let l = leb-true 65 c (and_left (leb 65 c) _ h) in
    let u = leb-true c 90 (and_right (leb 65 c) _ h) in
    (rw (sym (is_ne c 32 (λ e. omega (e, l, arith)))), and_both (sym (is_le 32 c (omega (l, arith)))) (sym (is_le c 126 (omega (u, arith)))))

listed_fit : each (fits 7) listed_suffixes ≡ true
unfolding each fits listed_suffixes all is_blank is_printable between
listed_fit = refl

ends_fit : each (fits 5) class_ends ≡ true
unfolding each fits all is_blank is_printable between
ends_fit = refl

class_fit : (c : ℕ) (e : List ℕ) → is_letter c ≡ true → member e class_ends ≡ true → fits 7 (112 ∷ c ∷ e) ≡ true
unfolding fits all is_blank is_printable between
class_fit c e h m =
    let f = letter_fine c h in
    let r : fits 5 e ≡ true = member_each (fits 5) class_ends e ends_fit m in
    rw (f.0, f.1, no_blank 5 e r, prints 5 e r, sym (is_le (suc (suc (length e))) 7 (omega (few 5 e r, arith))))

series_fit : (c : ℕ) → is_letter c ≡ true → fits 7 (112 ∷ 67 ∷ c ∷ []) ≡ true
unfolding fits all is_blank is_printable between
series_fit c h = let f = letter_fine c h in rw (f.0, f.1)

suffix_fit : (w : List ℕ) → is_suffix w ≡ true → fits 7 w ≡ true
suffix_fit w h = suffix_case (fits 7) listed_fit class_fit series_fit w h

letters_fit : (w : List ℕ) → all is_letter w ≡ true → (all not_blank w ≡ true) × (all is_printable w ≡ true)
unfolding all
letters_fit [] h = (refl, refl)
letters_fit (c ∷ w) h =
    let f = letter_fine c (and_left (is_letter c) (all is_letter w) h) in
    let r = letters_fit w (and_right (is_letter c) (all is_letter w) h) in
    (and_both f.0 r.0, and_both f.1 r.1)

-- ---- a name from its words: root, suffix, temporary suffix, appendage

name_of : List ℕ → List ℕ → List ℕ → List ℕ → List ℕ
name_of root suffix temporary appendage = text_field 6 root ++ (text_field 7 suffix ++ (text_field 4 temporary ++ text_field 2 appendage))

module _ (root suffix temporary appendage : List ℕ) where
  root_there : root_field (name_of root suffix temporary appendage) ≡ text_field 6 root
  unfolding name_of text_field
  root_there = refl

  suffix_there : suffix_field (name_of root suffix temporary appendage) ≡ text_field 7 suffix
  unfolding name_of text_field
  suffix_there = refl

  temporary_there : temporary_field (name_of root suffix temporary appendage) ≡ text_field 4 temporary
  unfolding name_of text_field
  temporary_there = refl

  appendage_there : appendage_field (name_of root suffix temporary appendage) ≡ text_field 2 appendage
  unfolding name_of text_field
  appendage_there = refl

  nineteen : length (name_of root suffix temporary appendage) ≡ 19
  unfolding name_of text_field
  nineteen = refl

-- what the words of a name owe
record Words (network : ℕ) (root suffix temporary appendage : List ℕ) : Type 0 where
  letters : all is_letter root ≡ true
  low : 1 ≤ length root
  high : length root ≤ 6
  free : is_reserved root ≡ false
  suffix_is : (same suffix [] || is_suffix suffix) ≡ true
  temporary_is : (same temporary [] || is_temporary temporary) ≡ true
  appendage_is : (same appendage [] || is_appendage network appendage) ≡ true

none_fits : (k : ℕ) → fits k [] ≡ true
unfolding fits all
none_fits k = rw (sym (is_le 0 k (omega arith)))

blank_no : not_blank 32 ≡ false
unfolding is_blank
blank_no = refl

letter_no : is_letter 32 ≡ false
unfolding is_letter
letter_no = refl

first_letter : (k : ℕ) (w : List ℕ) → all is_letter w ≡ true → 1 ≤ length w → is_letter (get_or (text_field (suc k) w) 0 0) ≡ true
unfolding text_field first_or all
first_letter k [] h l = absurd (omega (l, arith))
first_letter k (c ∷ w) h l = and_left (is_letter c) (all is_letter w) h

-- a word is none or listed, and fits
word_fit : (k : ℕ) (listed : List ℕ → Bool) (w : List ℕ) → ((v : List ℕ) → listed v ≡ true → fits k v ≡ true) → (same w [] || listed w) ≡ true → fits k w ≡ true
word_fit k listed w f h = ⊎_elim (λ e. ap (fits k) (same_true w [] e) ∙ none_fits k) (λ m. f w m) (or_cases (same w []) (listed w) h)

temporary_fit : (w : List ℕ) → is_temporary w ≡ true → fits 4 w ≡ true
unfolding is_temporary each fits all is_blank is_printable between
temporary_fit w h = member_each (fits 4) (texts ("XD" ∷ "XDIS" ∷ "Xr" ∷ "N" ∷ "XI" ∷ [])) w refl h

appendage_fit : (network : ℕ) (w : List ℕ) → is_appendage network w ≡ true → fits 2 w ≡ true
unfolding is_appendage fits all is_blank is_printable between
appendage_fit network w h =
    ⊎_elim (λ e. rw (same_true w (bytes "BC") (and_left (same w (bytes "BC")) (eqb network 65) e)))
    (λ e. rw (same_true w (bytes "DL") (and_left (same w (bytes "DL")) (eqb network 66) e)))
    (or_cases (same w (bytes "BC") && eqb network 65) (same w (bytes "DL") && eqb network 66) h)

field_lawful : (k : ℕ) (listed : List ℕ → Bool) (w : List ℕ) → fits k w ≡ true → (same w [] || listed w) ≡ true → lawful_field listed (text_field k w) ≡ true
unfolding lawful_field left_justified
field_lawful k listed w f h = rw (filled_field not_blank k w blank_no (no_blank k w f) (few k w f), word_field k w (no_blank k w f) (few k w f), h)

module _ (network : ℕ) (root suffix temporary appendage : List ℕ) (h : Words network root suffix temporary appendage) where
  name : List ℕ
  name = name_of root suffix temporary appendage

  suffix_fits : fits 7 suffix ≡ true
  suffix_fits = word_fit 7 is_suffix suffix suffix_fit h.suffix_is

  temporary_fits : fits 4 temporary ≡ true
  temporary_fits = word_fit 4 is_temporary temporary temporary_fit h.temporary_is

  appendage_fits : fits 2 appendage ≡ true
  appendage_fits = word_fit 2 (is_appendage network) appendage (appendage_fit network) h.appendage_is

  root_word : word (text_field 6 root) ≡ root
  root_word = word_field 6 root (letters_fit root h.letters).0 h.high

  root_is : is_root (text_field 6 root) ≡ true
  unfolding is_root
  root_is = and_both (first_letter 5 root h.letters h.low) (filled_field is_letter 6 root letter_no h.letters h.high)

  built_plain : NamePlain network (name_of root suffix temporary appendage)
  unfolding lawful_name
  built_plain = record {
    root = ap is_root (root_there root suffix temporary appendage) ∙ root_is;
    lawful = rw (root_there root suffix temporary appendage, root_word, h.free, suffix_there root suffix temporary appendage, field_lawful 7 is_suffix suffix suffix_fits h.suffix_is, temporary_there root suffix temporary appendage, field_lawful 4 is_temporary temporary temporary_fits h.temporary_is, appendage_there root suffix temporary appendage, field_lawful 2 (is_appendage network) appendage appendage_fits h.appendage_is);
  }

  built_printable : all is_printable (name_of root suffix temporary appendage) ≡ true
  unfolding name_of
  built_printable =
      all_append is_printable (text_field 6 root) _ (printable_field 6 root (letters_fit root h.letters).1)
      (all_append is_printable (text_field 7 suffix) _ (printable_field 7 suffix (prints 7 suffix suffix_fits))
      (all_append is_printable (text_field 4 temporary) _ (printable_field 4 temporary (prints 4 temporary temporary_fits))
      (printable_field 2 appendage (prints 2 appendage appendage_fits))))

  built_text : (b : Bool) → name_text b (name_of root suffix temporary appendage) ≡ root ++ part_text suffix ++ opt b (part_text temporary) ++ part_text appendage
  unfolding name_text
  built_text b = rw (root_there root suffix temporary appendage, root_word, suffix_there root suffix temporary appendage, word_field 7 suffix (no_blank 7 suffix suffix_fits) (few 7 suffix suffix_fits), temporary_there root suffix temporary appendage, word_field 4 temporary (no_blank 4 temporary temporary_fits) (few 4 temporary temporary_fits), appendage_there root suffix temporary appendage, word_field 2 appendage (no_blank 2 appendage appendage_fits) (few 2 appendage appendage_fits))

-- ---- the words of a text that passes

-- a suffix as it is shown
record SuffixOf (s : List ℕ) : Type 0 where
  suffix : List ℕ
  listed : (same suffix [] || is_suffix suffix) ≡ true
  shown : part_text suffix ≡ s

some_suffix : (w : List ℕ) → is_suffix w ≡ true → (same w [] || is_suffix w) ≡ true
some_suffix w h = rw h (or_true (same w []))

not_none : is_suffix [] ≡ false
unfolding is_suffix member listed_suffixes same is_preferred starts
not_none = refl

raised_shown : (c : ℕ) (s : List ℕ) → is_raised c ≡ true → part_text (c ∷ s) ≡ c ∷ s
unfolding part_text opt
raised_shown c s h = rw h

dotted_shown : (c : ℕ) (s : List ℕ) → is_raised c ≡ false → part_text (c ∷ s) ≡ 46 ∷ c ∷ s
unfolding part_text opt
dotted_shown c s h = rw h

dotted_of : (s : List ℕ) → (not (heads is_raised s) && is_suffix s) ≡ true → SuffixOf (46 ∷ s)
dotted_of [] h = absurd (false_true (sym not_none ∙ h))
dotted_of (d ∷ s) h = record { suffix = d ∷ s; listed = some_suffix (d ∷ s) (and_right (not (is_raised d)) _ h); shown = dotted_shown d s (not-true (is_raised d) (and_left (not (is_raised d)) _ h)) }

either_of : (c : ℕ) (s : List ℕ) (b : Bool) → eqb c 46 ≡ b → pick b (not (heads is_raised s) && is_suffix s) (is_raised c && is_suffix (c ∷ s)) ≡ true → SuffixOf (c ∷ s)
unfolding pick
either_of c s true e k = rw (eqb-true c 46 e) (dotted_of s k)
either_of c s false e k = record { suffix = c ∷ s; listed = some_suffix (c ∷ s) (and_right (is_raised c) _ k); shown = raised_shown c s (and_left (is_raised c) _ k) }

suffix_of : (s : List ℕ) → suffix_text s ≡ true → SuffixOf s
unfolding suffix_text part_text same
suffix_of [] h = record { suffix = []; listed = refl; shown = refl }
suffix_of (c ∷ s) h = either_of c s (eqb c 46) refl h

-- what follows the root, without an appendage
record PlainOf (b : Bool) (s : List ℕ) : Type 0 where
  suffix : List ℕ
  temporary : List ℕ
  suffix_listed : (same suffix [] || is_suffix suffix) ≡ true
  temporary_listed : (same temporary [] || is_temporary temporary) ≡ true
  shown : part_text suffix ++ opt b (part_text temporary) ≡ s

nothing_more : (b : Bool) (s : List ℕ) → s ++ opt b (part_text []) ≡ s
unfolding part_text opt
nothing_more true s = append-nil s
nothing_more false s = append-nil s

suffix_alone : (b : Bool) (s : List ℕ) → suffix_text s ≡ true → PlainOf b s
unfolding same
suffix_alone b s h =
    let o = suffix_of s h in
    record { suffix = o.suffix; temporary = []; suffix_listed = o.listed; temporary_listed = refl; shown = nothing_more b (part_text o.suffix) ∙ o.shown }

with_temporary : (e w s : List ℕ) → part_text w ≡ e → (same w [] || is_temporary w) ≡ true → with_end e s ≡ true → PlainOf true s
unfolding with_end opt
with_temporary e w s p l h =
    let o = suffix_of (before e s) (and_right (ends_in e s) _ h) in
    record { suffix = o.suffix; temporary = w; suffix_listed = o.listed; temporary_listed = l; shown = ap (λ x. part_text o.suffix ++ x) p ∙ ap (λ x. x ++ e) o.shown ∙ end_is e s (and_left (ends_in e s) _ h) }

one_of_five : (s : List ℕ) → (with_end (bytes ".XD") s || (with_end (bytes ".XDIS") s || (with_end (bytes ".Xr") s || (with_end (bytes ".N") s || with_end (bytes ".XI") s)))) ≡ true → PlainOf true s
unfolding part_text opt is_raised among is_temporary member same
one_of_five s h =
    ⊎_elim (λ q. with_temporary (bytes ".XD") (bytes "XD") s refl refl q)
    (λ h₂. ⊎_elim (λ q. with_temporary (bytes ".XDIS") (bytes "XDIS") s refl refl q)
    (λ h₃. ⊎_elim (λ q. with_temporary (bytes ".Xr") (bytes "Xr") s refl refl q)
    (λ h₄. ⊎_elim (λ q. with_temporary (bytes ".N") (bytes "N") s refl refl q)
    (λ q. with_temporary (bytes ".XI") (bytes "XI") s refl refl q)
    (or_cases (with_end (bytes ".N") s) (with_end (bytes ".XI") s) h₄))
    (or_cases (with_end (bytes ".Xr") s) (with_end (bytes ".N") s || with_end (bytes ".XI") s) h₃))
    (or_cases (with_end (bytes ".XDIS") s) (with_end (bytes ".Xr") s || (with_end (bytes ".N") s || with_end (bytes ".XI") s)) h₂))
    (or_cases (with_end (bytes ".XD") s) (with_end (bytes ".XDIS") s || (with_end (bytes ".Xr") s || (with_end (bytes ".N") s || with_end (bytes ".XI") s))) h)

plain_of : (b : Bool) (s : List ℕ) → plain_end b s ≡ true → PlainOf b s
unfolding plain_end
plain_of false s h = ⊎_elim (λ q. suffix_alone false s q) (λ q. absurd (false_true q)) (or_cases (suffix_text s) false h)
plain_of true s h = ⊎_elim (λ q. suffix_alone true s q) (λ q. one_of_five s q) (or_cases (suffix_text s) _ h)

-- what follows the root
record EndOf (b : Bool) (network : ℕ) (s : List ℕ) : Type 0 where
  plain : List ℕ
  appendage : List ℕ
  plain_is : PlainOf b plain
  listed : (same appendage [] || is_appendage network appendage) ≡ true
  shown : plain ++ part_text appendage ≡ s

own : ℕ → List ℕ
own network = pick (eqb network 65) (bytes "BC") (bytes "DL")

own_test : ℕ → Bool
own_test network = same (own network) [] || is_appendage network (own network)

own_a : own_test 65 ≡ true
unfolding own_test own pick same is_appendage
own_a = refl

own_b : own_test 66 ≡ true
unfolding own_test own pick same is_appendage
own_b = refl

or_false : (x : Bool) → (x || false) ≡ true → x ≡ true
or_false true h = refl
or_false false h = h

own_listed : (network : ℕ) → is_network network ≡ true → (same (own network) [] || is_appendage network (own network)) ≡ true
unfolding is_network among own_test
own_listed network h = ⊎_elim (λ e. ap own_test (eqb-true network 65 e) ∙ own_a) (λ e. ap own_test (eqb-true network 66 (or_false (eqb network 66) e)) ∙ own_b) (or_cases (eqb network 65) (eqb network 66 || false) h)

by_pick : (b : Bool) → part_text (pick b (bytes "BC") (bytes "DL")) ≡ pick b (bytes ".BC") (bytes ".DL")
unfolding pick part_text opt is_raised among
by_pick true = refl
by_pick false = refl

own_shown : (network : ℕ) → part_text (own network) ≡ appendage_of network
unfolding own appendage_of
own_shown network = by_pick (eqb network 65)

end_of : (b : Bool) (network : ℕ) (s : List ℕ) → is_network network ≡ true → ends_lawfully b (appendage_of network) s ≡ true → EndOf b network s
unfolding ends_lawfully part_text same
end_of b network s n h =
    ⊎_elim
    (λ q. record { plain = s; appendage = []; plain_is = plain_of b s q; listed = refl; shown = append-nil s })
    (λ q. record { plain = before (appendage_of network) s; appendage = own network; plain_is = plain_of b (before (appendage_of network) s) (and_right (ends_in (appendage_of network) s) _ q); listed = own_listed network n; shown = ap (λ x. before (appendage_of network) s ++ x) (own_shown network) ∙ end_is (appendage_of network) s (and_left (ends_in (appendage_of network) s) _ q) })
    (or_cases (plain_end b s) (ends_in (appendage_of network) s && plain_end b (before (appendage_of network) s)) h)

joined : (root s t e plain rest : List ℕ) → s ++ t ≡ plain → plain ++ e ≡ rest → root ++ s ++ t ++ e ≡ root ++ rest
joined root s t e plain rest h k = append_assoc (root ++ s) t e ∙ append_assoc root s (t ++ e) ∙ ap (λ x. root ++ x) (sym (append_assoc s t e) ∙ ap (λ x. x ++ e) h ∙ k)

-- THE NAME THAT AN S LINE CAN ENTER
pub record Built (temporary : Bool) (network : ℕ) (text : List ℕ) : Type 0 where
  pub name : List ℕ
  pub plain : NamePlain network name
  pub sized : length name ≡ 19
  pub printable : all is_printable name ≡ true
  pub shown : name_text temporary name ≡ text

pub name_built : (temporary : Bool) (network : ℕ) (text : List ℕ) → is_network network ≡ true → name_on temporary network text ≡ true → Built temporary network text
unfolding name_on lawful_root between
name_built b network text n h =
    let root = take (root_count text) text in
    let rest = drop (root_count text) text in
    let r = and_left (lawful_root root) _ h in
    let u = and_left (between 1 6 (length root)) _ r in
    let o = end_of b network rest n (and_right (lawful_root root) _ h) in
    let p = o.plain_is in
    let w : Words network root p.suffix p.temporary o.appendage = record {
      letters = count_passes is_letter 7 text;
      low = leb-true 1 (length root) (and_left (leb 1 (length root)) _ u);
      high = leb-true (length root) 6 (and_right (leb 1 (length root)) _ u);
      free = not-true (is_reserved root) (and_right (between 1 6 (length root)) _ r);
      suffix_is = p.suffix_listed;
      temporary_is = p.temporary_listed;
      appendage_is = o.listed;
    } in
    record {
      name = name_of root p.suffix p.temporary o.appendage;
      plain = built_plain network root p.suffix p.temporary o.appendage w;
      sized = nineteen root p.suffix p.temporary o.appendage;
      printable = built_printable network root p.suffix p.temporary o.appendage w;
      shown = built_text network root p.suffix p.temporary o.appendage w b ∙ joined root (part_text p.suffix) (opt b (part_text p.temporary)) (part_text o.appendage) o.plain rest p.shown o.shown ∙ take-append-drop (root_count text) text;
    }
