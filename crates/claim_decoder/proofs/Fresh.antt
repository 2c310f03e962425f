-- What may follow a print: nothing, or another print. No print goes on with a part of the one before it. Assumes nothing.
use Prim.Native.Nat.{ℕ, suc, ◌+◌, ◌≤◌}
use native.Mathlib.Omega.{arith}
use mathlib.Core.Path.{◌≡◌, refl, sym, ap, ◌∙◌}
use mathlib.Core.Bool.{Bool, true, false, ◌&&◌, ◌||◌, not}
use mathlib.Core.List.{List, [], ◌∷◌, ◌++◌, append_assoc}
use mathlib.Core.Logic.{⊎_elim}
use lib.Dec.{eqb, leb}
use lib.ListN.{length, length-append, length-take}
use borrow.Author.Tests.{eqb-true, eqb-false, ne_eqb, leb-true, lt-leb, not-true}
use Rattle.text.specs.Bytes.{bytes}
use Rattle.text.specs.Pick.{pick, opt, all, same, among, member}
use Rattle.text.specs.Reading.{heads, is_digit, starts, past, dot_digit}
use Rattle.text.proofs.Texts.{and_left, and_right, same_true}
use Rattle.text.proofs.Booleans.{neither, and_both, false_true, or_cases}
use Rattle.text.proofs.Parts.{span_short}
use Rattle.rules.specs.Tape.{is_letter, is_upper, is_raised}
use Rattle.rules.specs.Columns.{word, not_blank}
use Rattle.rules.specs.Names.{root_field, suffix_field, temporary_field, appendage_field, texts, part_text, name_text, listed_suffixes, is_reserved, is_suffix, is_temporary, is_appendage, lawful_field, lawful_name}
use Rattle.rules.specs.Conditions.{after_name}
use Rattle.rules.specs.Side.{head_text, tail_text, side_text}
use Rattle.rules.specs.declared.Letters.{Letters}
use Rattle.rules.specs.declared.Side.{Side}
use Rattle.print_volume.specs.Reading.{mark_at}
use Rattle.print_conditions.proofs.TailBack.{Ends}
use Rattle.print_side.proofs.SideBack.{side_lower}
use Rattle.name_back.specs.Plain.{NamePlain}
use Rattle.name_back.proofs.Root.{root_text}
use Rattle.name_back.proofs.Parts.{each, member_each, suffix_case, field_case}
use Rattle.rules.specs.declared.PriceForm.{PriceForm}

pub record Fresh (s : List ℕ) : Type 0 where
  pub ends : Ends s
  pub pair : Ends (bytes ">>" ++ s)

pub fresh_end : Fresh []
unfolding starts is_digit dot_digit mark_at pick
fresh_end = record {
  ends = record { digit = refl; cash = refl; average = refl; stopped = refl; seller = refl; rule = refl; previous = refl; dot = refl; mark = refl };
  pair = record { digit = refl; cash = refl; average = refl; stopped = refl; seller = refl; rule = refl; previous = refl; dot = refl; mark = refl };
}

-- announcements, corrections, cancels and errors begin with a pair
pub fresh_pair : (s : List ℕ) → Fresh (bytes "<<" ++ s)
unfolding starts is_digit dot_digit mark_at pick
fresh_pair s = record {
  ends = record { digit = refl; cash = refl; average = refl; stopped = refl; seller = refl; rule = refl; previous = refl; dot = refl; mark = refl };
  pair = record { digit = refl; cash = refl; average = refl; stopped = refl; seller = refl; rule = refl; previous = refl; dot = refl; mark = refl };
}

-- after the original of a correction
pub fresh_was : (s : List ℕ) → Ends (bytes "WAS." ++ s)
unfolding starts is_digit dot_digit mark_at pick
fresh_was s = record { digit = refl; cash = refl; average = refl; stopped = refl; seller = refl; rule = refl; previous = refl; dot = refl; mark = refl }

-- ---- what follows a root: no letter, and no letter dot with an L

nonempty : List ℕ → Bool
nonempty [] = false
nonempty (c ∷ s) = true

mild : List ℕ → Bool
mild [] = true
mild (c ∷ s) = not (is_letter c) && (not (eqb 46 c) || (nonempty s && not (heads (eqb 76) s)))

mild_append : (t u : List ℕ) → mild t ≡ true → mild u ≡ true → mild (t ++ u) ≡ true
unfolding mild nonempty
mild_append [] u h k = k
mild_append (c ∷ []) u h k = go (is_letter c) (eqb 46 c) h
  where
    go : (a b : Bool) → (not a && (not b || false)) ≡ true → (not a && (not b || (nonempty u && not (heads (eqb 76) u)))) ≡ true
    go true b h = h
    go false true h = absurd (false_true h)
    go false false h = refl
mild_append (c ∷ d ∷ t) u h k = h

mild_letter : (t : List ℕ) → mild t ≡ true → heads is_letter t ≡ false
unfolding mild
mild_letter [] h = refl
mild_letter (c ∷ t) h = not-true (is_letter c) (and_left (not (is_letter c)) _ h)

mild_last : (t : List ℕ) → mild t ≡ true → starts (bytes ".LAST") t ≡ false
unfolding mild nonempty starts
mild_last [] h = refl
mild_last (c ∷ []) h = go (eqb 46 c)
  where
    go : (b : Bool) → (b && false) ≡ false
    go true = refl
    go false = refl
mild_last (c ∷ d ∷ t) h = go (eqb 46 c) (eqb 76 d) (and_right (not (is_letter c)) _ h)
  where
    go : (a b : Bool) → (not a || (true && not b)) ≡ true → (a && (b && starts (bytes "AST") t)) ≡ false
    go true true h = absurd (false_true h)
    go true false h = refl
    go false b h = refl

mild_opt : (b : Bool) (t : List ℕ) → mild t ≡ true → mild (opt b t) ≡ true
unfolding opt mild
mild_opt true t h = h
mild_opt false t h = refl

-- ---- the parts of a name, and the conditions after it

mild_part : List ℕ → Bool
mild_part s = mild (part_text s)

listed_mild : each mild_part listed_suffixes ≡ true
unfolding each mild_part mild nonempty listed_suffixes is_letter is_raised among part_text opt
listed_mild = refl

raised_mild : (s : List ℕ) → mild_part (112 ∷ s) ≡ true
unfolding mild_part mild is_letter is_raised among part_text opt
raised_mild s = refl

suffix_mild : (field : List ℕ) → lawful_field is_suffix field ≡ true → mild (part_text (word field)) ≡ true
unfolding mild_part mild part_text
suffix_mild field h = field_case mild_part is_suffix refl (suffix_case mild_part listed_mild (λ c e a b. raised_mild (c ∷ e)) (λ c a. raised_mild (67 ∷ c ∷ []))) field h

temporary_mild : (field : List ℕ) → lawful_field is_temporary field ≡ true → mild (part_text (word field)) ≡ true
unfolding is_temporary each mild_part mild nonempty is_letter is_raised among part_text opt
temporary_mild field h = field_case mild_part is_temporary refl (λ s m. member_each mild_part (texts ("XD" ∷ "XDIS" ∷ "Xr" ∷ "N" ∷ "XI" ∷ [])) s refl m) field h

appendage_mild : (network : ℕ) (field : List ℕ) → lawful_field (is_appendage network) field ≡ true → mild (part_text (word field)) ≡ true
unfolding is_appendage mild_part mild nonempty is_letter is_raised among part_text opt
appendage_mild network field h = field_case mild_part (is_appendage network) refl one field h
  where
    one : (s : List ℕ) → is_appendage network s ≡ true → mild_part s ≡ true
    one s m =
        ⊎_elim (λ e. rw (same_true s (bytes "BC") (and_left (same s (bytes "BC")) (eqb network 65) e)))
        (λ e. rw (same_true s (bytes "DL") (and_left (same s (bytes "DL")) (eqb network 66) e)))
        (or_cases (same s (bytes "BC") && eqb network 65) (same s (bytes "DL") && eqb network 66) m)

conditions_mild : (x : Letters) → mild (after_name x) ≡ true
unfolding after_name mild nonempty is_letter
conditions_mild x =
    mild_append (opt (x.n || x.m) (bytes ".ND") ++ opt x.o (bytes ".OPD") ++ opt x.s (bytes ".SLD")) _
    (mild_append (opt (x.n || x.m) (bytes ".ND") ++ opt x.o (bytes ".OPD")) _
    (mild_append (opt (x.n || x.m) (bytes ".ND")) _ (mild_opt (x.n || x.m) (bytes ".ND") refl) (mild_opt x.o (bytes ".OPD") refl))
    (mild_opt x.s (bytes ".SLD") refl))
    (mild_opt x.l (bytes ".SLD.LAST") refl)

lower_mild : (s : List ℕ) → heads is_upper s ≡ false → mild s ≡ true
unfolding mild is_upper among
lower_mild [] h = refl
lower_mild (c ∷ s) h =
    let l = neither (is_letter c) _ h in
    let a = neither (eqb c 38) _ l.1 in
    let d = neither (eqb c 46) _ a.1 in
    rw (l.0, ne_eqb 46 c (λ e. eqb-false c 46 d.0 (sym e)))

-- ---- a root, then what is mild

letter_range : (c : ℕ) → is_letter c ≡ true → (65 ≤ c) × (c ≤ 90)
unfolding is_letter
letter_range c h = (leb-true 65 c (and_left (leb 65 c) (leb c 90) h), leb-true c 90 (and_right (leb 65 c) (leb c 90) h))

-- a word of letters at the front of a root and what follows it is at the front of the root
in_root : (w r u : List ℕ) → all is_letter w ≡ true → heads is_letter u ≡ false → starts w (r ++ u) ≡ true → (v : List ℕ) × (r ≡ w ++ v)
unfolding all starts
in_root [] r u h k e = (r, refl)
in_root (a ∷ w) [] [] h k e = absurd (false_true e)
in_root (a ∷ w) [] (d ∷ u) h k e =
    let q = eqb-true a d (and_left (eqb a d) (starts w u) e) in
    absurd (false_true (sym k ∙ (ap is_letter (sym q) ∙ and_left (is_letter a) (all is_letter w) h)))
in_root (a ∷ w) (c ∷ r) u h k e =
    let q = eqb-true a c (and_left (eqb a c) (starts w (r ++ u)) e) in
    let i = in_root w r u (and_right (is_letter a) (all is_letter w) h) k (and_right (eqb a c) (starts w (r ++ u)) e) in
    (i.0, ap (λ (z : ℕ). z ∷ r) (sym q) ∙ ap (λ (z : List ℕ). a ∷ z) i.1)

-- the front of a text at the front
starts_front : (w x s : List ℕ) → starts (w ++ x) s ≡ true → starts w s ≡ true
unfolding starts
starts_front [] x s h = refl
starts_front (a ∷ w) x [] h = h
starts_front (a ∷ w) x (c ∷ s) h = and_both (and_left (eqb a c) (starts (w ++ x) s) h) (starts_front w x s (and_right (eqb a c) (starts (w ++ x) s) h))

refute : (b : Bool) → (b ≡ true → ⊥) → b ≡ false
refute true h = absurd (h refl)
refute false h = refl

pub letter_unlike : (a c : ℕ) → is_letter c ≡ true → is_letter a ≡ false → eqb a c ≡ false
letter_unlike a c h k = ne_eqb a c (λ e. false_true (sym k ∙ (ap is_letter e ∙ h)))

record Root (r : List ℕ) : Type 0 where
  letters : all is_letter r ≡ true
  first : heads is_letter r ≡ true
  short : length r ≤ 6
  free : is_reserved r ≡ false

module _ (r u : List ℕ) (root : Root r) (after : mild u ≡ true) where
  no_letter : heads is_letter u ≡ false
  no_letter = mild_letter u after

  -- it is none of the reserved ones
  not_seller : (v : List ℕ) → r ≡ bytes "SELLER" ++ v → ⊥
  unfolding is_reserved member same
  not_seller [] e = false_true (sym root.free ∙ ap is_reserved e)
  not_seller (c ∷ v) e = let l : length r ≡ 6 + suc (length v) = ap length e ∙ length-append (bytes "SELLER") (c ∷ v) in omega (arith, root.short)

  -- what goes on in a root is a letter
  goes_on : (w : List ℕ) (c : ℕ) (v : List ℕ) → r ≡ w ++ (c ∷ v) → is_letter c ≡ true
  unfolding all
  goes_on w c v e = next w (rw (← e) root.letters)
    where
      next : (w : List ℕ) → all is_letter (w ++ (c ∷ v)) ≡ true → is_letter c ≡ true
      next [] h = and_left (is_letter c) (all is_letter v) h
      next (a ∷ w) h = next w (and_right (is_letter a) (all is_letter (w ++ (c ∷ v))) h)

  -- a reserved root, or another that goes on with a letter
  no_seller : starts (bytes "SELLER") (r ++ u) ≡ false
  unfolding all is_letter
  no_seller = refute _ (λ e. let i = in_root (bytes "SELLER") r u refl no_letter e in not_seller i.0 i.1)

  not_rule : (v : List ℕ) → r ≡ bytes "RULE" ++ v → starts (bytes "RULE127") (r ++ u) ≡ true → ⊥
  unfolding is_reserved member same starts is_letter
  not_rule [] q e = false_true (sym root.free ∙ ap is_reserved q)
  not_rule (c ∷ v) q e =
      let f : (eqb 49 c && starts (bytes "27") (v ++ u)) ≡ true = ap (λ (z : List ℕ). starts (bytes "RULE127") (z ++ u)) (sym q) ∙ e in
      false_true (sym (letter_unlike 49 c (goes_on (bytes "RULE") c v q) refl) ∙ and_left (eqb 49 c) (starts (bytes "27") (v ++ u)) f)

  no_rule : starts (bytes "RULE127") (r ++ u) ≡ false
  unfolding all is_letter
  no_rule = refute _ (λ e. let i = in_root (bytes "RULE") r u refl no_letter (starts_front (bytes "RULE") (bytes "127") (r ++ u) e) in not_rule i.0 i.1 e)

  -- SHRS goes on in the upper row
  not_shares : (v : List ℕ) → r ≡ bytes "SHRS" ++ v → heads is_upper (past (bytes "SHRS") (r ++ u)) ≡ true
  unfolding is_reserved member same past is_upper
  not_shares [] q = absurd (false_true (sym root.free ∙ ap is_reserved q))
  not_shares (c ∷ v) q = ap (λ (z : List ℕ). heads is_upper (past (bytes "SHRS") (z ++ u))) q ∙ rw (goes_on (bytes "SHRS") c v q)

  no_shares : (starts (bytes "SHRS") (r ++ u) && not (heads is_upper (past (bytes "SHRS") (r ++ u)))) ≡ false
  unfolding all is_letter
  no_shares = go (starts (bytes "SHRS") (r ++ u)) refl
    where
      go : (b : Bool) → starts (bytes "SHRS") (r ++ u) ≡ b → (b && not (heads is_upper (past (bytes "SHRS") (r ++ u)))) ≡ false
      go false e = refl
      go true e = let i = in_root (bytes "SHRS") r u refl no_letter e in ap not (not_shares i.0 i.1)

  not_previous : (v : List ℕ) → r ≡ bytes "PREV" ++ v → starts (bytes "PREV.LAST") (r ++ u) ≡ false
  unfolding starts is_letter
  not_previous [] q = ap (λ (z : List ℕ). starts (bytes "PREV.LAST") (z ++ u)) q ∙ mild_last u after
  not_previous (c ∷ v) q = ap (λ (z : List ℕ). starts (bytes "PREV.LAST") (z ++ u)) q ∙ rw (letter_unlike 46 c (goes_on (bytes "PREV") c v q) refl)

  no_previous : starts (bytes "PREV.LAST") (r ++ u) ≡ false
  unfolding all is_letter
  no_previous = refute _ (λ e. let i = in_root (bytes "PREV") r u refl no_letter (starts_front (bytes "PREV") (bytes ".LAST") (r ++ u) e) in false_true (sym (not_previous i.0 i.1) ∙ e))

-- a root and what follows it: some other print's beginning
fresh_root : (c : ℕ) (r u : List ℕ) → Root (c ∷ r) → mild u ≡ true → Fresh ((c ∷ r) ++ u)
unfolding starts is_digit dot_digit mark_at pick is_letter
fresh_root c r u root m =
    let l = root.first in
    record {
      ends = record {
        digit = rw (lt-leb c 57 (omega (arith, letter_range c l))) (and_no (leb 48 c));
        cash = rw (letter_unlike 44 c l refl);
        average = rw (letter_unlike 44 c l refl);
        stopped = rw (letter_unlike 116 c l refl);
        seller = no_seller (c ∷ r) u root m;
        rule = no_rule (c ∷ r) u root m;
        previous = rw (letter_unlike 62 c l refl);
        dot = rw (ne_eqb c 44 (omega (arith, letter_range c l)));
        mark = rw (letter_unlike 115 c l refl, letter_unlike 36 c l refl, no_shares (c ∷ r) u root m);
      };
      pair = record { digit = refl; cash = refl; average = refl; stopped = refl; seller = refl; rule = refl; previous = no_previous (c ∷ r) u root m; dot = refl; mark = refl };
    }
  where
    and_no : (b : Bool) → (b && false) ≡ false
    and_no true = refl
    and_no false = refl

fresh_text : (r u : List ℕ) → Root r → mild u ≡ true → Fresh (r ++ u)
fresh_text [] u root m = absurd (false_true root.first)
fresh_text (c ∷ r) u root m = fresh_root c r u root m

root_short : (n : List ℕ) → length (word (root_field n)) ≤ 6
unfolding word
root_short n = omega (arith, span_short not_blank (root_field n), length-take 6 n)

module _ (network : ℕ) (n : List ℕ) (h : NamePlain network n) where
  root_is : Root (word (root_field n))
  unfolding lawful_name
  root_is = record {
    letters = (root_text (root_field n) h.root).1;
    first = (root_text (root_field n) h.root).0;
    short = root_short n;
    free = not-true (is_reserved (word (root_field n))) (and_left (not (is_reserved (word (root_field n)))) _ h.lawful);
  }

  tail_mild : (b : Bool) → mild (part_text (word (suffix_field n)) ++ (opt b (part_text (word (temporary_field n))) ++ part_text (word (appendage_field n)))) ≡ true
  unfolding lawful_name
  tail_mild b =
      let r = not (is_reserved (word (root_field n))) in
      let p = lawful_field is_suffix (suffix_field n) in
      let q = lawful_field is_temporary (temporary_field n) in
      let a = lawful_field (is_appendage network) (appendage_field n) in
      let l = and_right r (p && (q && a)) h.lawful in
      mild_append (part_text (word (suffix_field n))) _ (suffix_mild (suffix_field n) (and_left p (q && a) l))
      (mild_append (opt b (part_text (word (temporary_field n)))) _ (mild_opt b (part_text (word (temporary_field n))) (temporary_mild (temporary_field n) (and_left q a (and_right p (q && a) l)))) (appendage_mild network (appendage_field n) (and_right q a (and_right p (q && a) l))))

  -- A TRADE'S PRINT may follow any print
  pub fresh_name : (b : Bool) (x : Letters) (s : List ℕ) → heads is_upper s ≡ false → Fresh ((name_text b n ++ after_name x) ++ s)
  unfolding name_text
  fresh_name b x s k =
      simp append_assoc
      (fresh_text (word (root_field n)) _ root_is
      (simp append_assoc at (mild_append (part_text (word (suffix_field n)) ++ (opt b (part_text (word (temporary_field n))) ++ part_text (word (appendage_field n)))) (after_name x ++ s) (tail_mild b) (mild_append (after_name x) s (conditions_mild x) (lower_mild s k)))))

pub side_fresh : (network : ℕ) (n : List ℕ) → NamePlain network n → (b : Bool) (unit : ℕ) (form : PriceForm) (shows : Bool) (x : Side) → 1 ≤ x.price.n → (s : List ℕ) → Fresh (side_text (name_text b n) network unit form shows x ++ s)
unfolding side_text head_text
side_fresh network n plain b unit form shows x h s = rw (append_assoc, append_assoc, append_assoc) (fresh_name network n plain b x.letters _ (side_lower network unit x.volume form shows x.price (tail_text x ++ s) h))
