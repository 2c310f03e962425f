-- The head of a side: found where it stands, and what is found stands there. Assumes nothing.
use Prim.Native.Nat.{ℕ, suc, ◌≤◌}
use native.Mathlib.Omega.{arith}
use mathlib.Core.Path.{◌≡◌, refl, sym, ap, ◌∙◌, subst}
use mathlib.Core.Logic.{⊎_elim}
use mathlib.Core.Bool.{Bool, true, false, ◌&&◌, ◌||◌, not}
use mathlib.Core.List.{List, [], ◌∷◌, ◌++◌, append-nil}
use lib.Dec.{eqb}
use lib.ListN.{length, take, drop, length-append, length-take, take-append-drop}
use lib.Seq.{take-take, take-append_seam, drop-append_seam}
use borrow.Author.Tests.{eqb-true}
use Rattle.std.specs.Prelude.{Option, Some, None}
use Rattle.text.specs.Bytes.{bytes}
use Rattle.text.specs.Pick.{pick, opt, same, among}
use Rattle.text.specs.Reading.{Read, found, before, heads, starts}
use Rattle.text.proofs.Texts.{same_true}
use Rattle.text.proofs.Parts.{all_append}
use Rattle.text.proofs.Booleans.{or_true, false_true, or_cases}
use Rattle.rules.specs.Tape.{is_upper}
use Rattle.rules.specs.Names.{name_text}
use Rattle.rules.specs.Conditions.{after_name}
use Rattle.rules.specs.Line.{is_network}
use Rattle.rules.specs.declared.Letters.{Letters}
use Rattle.name_back.specs.Plain.{NamePlain}
use Rattle.name_back.specs.Cut.{is_after, cut, one_sold}
use Rattle.name_back.proofs.Parts.{front_is}
use Rattle.name_back.proofs.Back.{name_upper, name_cut, conditions_upper}
use Rattle.read_name.specs.Name.{name_on}
use Rattle.read_name.specs.Head.{letters_after, sold_in, after_in, upper_count, name_count, named_by, in_run, head_at}
use Rattle.read_name.specs.declared.NameRead.{NameRead}
use Rattle.read_name.proofs.Count.{name_within, count_within}
use Rattle.claim_names.proofs.Counts.{count_all}
use Rattle.claim_names.proofs.Lawful.{name_lawful}
use Rattle.name_text.proofs.Text.{name_most}

-- ---- the conditions after a name

after_ok : (m o s l : Bool) → (not (o && s) && (not (o && l) && not (s && l))) ≡ true → after_in (opt m (bytes ".ND") ++ opt o (bytes ".OPD") ++ opt s (bytes ".SLD") ++ opt l (bytes ".SLD.LAST")) ≡ Some (letters_after m o s l)
unfolding after_in sold_in opt starts same pick
after_ok m true true l h = absurd (false_true h)
after_ok m true false true h = absurd (false_true h)
after_ok m false true true h = absurd (false_true h)
after_ok true true false false h = refl
after_ok false true false false h = refl
after_ok true false true false h = refl
after_ok false false true false h = refl
after_ok true false false true h = refl
after_ok false false false true h = refl
after_ok true false false false h = refl
after_ok false false false false h = refl

-- letters as they are shown: no N
pub after_back : (x : Letters) → x.n ≡ false → one_sold x ≡ true → after_in (after_name x) ≡ Some (letters_after x.m x.o x.s x.l)
unfolding after_name one_sold
after_back x n h = rw n (after_ok x.m x.o x.s x.l h)

after_few : (m o s l : Bool) → (not (o && s) && (not (o && l) && not (s && l))) ≡ true → length (opt m (bytes ".ND") ++ opt o (bytes ".OPD") ++ opt s (bytes ".SLD") ++ opt l (bytes ".SLD.LAST")) ≤ 12
unfolding opt
after_few m true true l h = absurd (false_true h)
after_few m true false true h = absurd (false_true h)
after_few m false true true h = absurd (false_true h)
after_few true true false false h = omega arith
after_few false true false false h = omega arith
after_few true false true false h = omega arith
after_few false false true false h = omega arith
after_few true false false true h = omega arith
after_few false false false true h = omega arith
after_few true false false false h = omega arith
after_few false false false false h = omega arith

pub after_short : (x : Letters) → x.n ≡ false → one_sold x ≡ true → length (after_name x) ≤ 12
unfolding after_name one_sold
after_short x n h = rw n (after_few x.m x.o x.s x.l h)

-- what the answer says stands there
pub record AfterTold (c : List ℕ) (x : Letters) : Type 0 where
  pub text : c ≡ after_name x
  pub sold : one_sold x ≡ true
  pub only : x ≡ letters_after x.m x.o x.s x.l

letters_in : Option Letters → Letters
letters_in (Some x) = x
letters_in None = letters_after false false false false

is_after_answer : Option Letters → Bool
is_after_answer (Some x) = true
is_after_answer None = false

one_told : (m o s l : Bool) (c t : List ℕ) (x : Letters) → (not (o && s) && (not (o && l) && not (s && l))) ≡ true → opt m (bytes ".ND") ++ opt o (bytes ".OPD") ++ opt s (bytes ".SLD") ++ opt l (bytes ".SLD.LAST") ≡ opt m (bytes ".ND") ++ t → c ≡ opt m (bytes ".ND") ++ t → Some (letters_after m o s l) ≡ Some x → AfterTold c x
unfolding after_name letters_after one_sold letters_in
one_told m o s l c t x h e f k =
    let q : letters_after m o s l ≡ x = ap letters_in k in
    rw (← q) (record { text = f ∙ sym e; sold = h; only = refl })

tidy : (m : Bool) (z : List ℕ) → opt m (bytes ".ND") ++ [] ++ [] ++ z ≡ opt m (bytes ".ND") ++ z
tidy m z = ap (λ y. y ++ [] ++ z) (append-nil (opt m (bytes ".ND"))) ∙ ap (λ y. y ++ z) (append-nil (opt m (bytes ".ND")))

tidy_mid : (m : Bool) (z : List ℕ) → opt m (bytes ".ND") ++ [] ++ z ++ [] ≡ opt m (bytes ".ND") ++ z
tidy_mid m z = append-nil (opt m (bytes ".ND") ++ [] ++ z) ∙ ap (λ y. y ++ z) (append-nil (opt m (bytes ".ND")))

tidy_end : (m : Bool) (z : List ℕ) → opt m (bytes ".ND") ++ z ++ [] ++ [] ≡ opt m (bytes ".ND") ++ z
tidy_end m z = append-nil (opt m (bytes ".ND") ++ z ++ []) ∙ append-nil (opt m (bytes ".ND") ++ z)

no_letters_lem : (x : Letters) → None ≡ Some x → ⊥
unfolding is_after_answer
no_letters_lem x h = false_true (ap is_after_answer h)

sold_cases : (m : Bool) (c t : List ℕ) (x : Letters) → c ≡ opt m (bytes ".ND") ++ t
    → (p : Bool) → same t [] ≡ p → (q : Bool) → same t (bytes ".OPD") ≡ q → (r : Bool) → same t (bytes ".SLD") ≡ r → (u : Bool) → same t (bytes ".SLD.LAST") ≡ u
    → pick p (Some (letters_after m false false false)) (pick q (Some (letters_after m true false false)) (pick r (Some (letters_after m false true false)) (pick u (Some (letters_after m false false true)) None))) ≡ Some x → AfterTold c x
unfolding pick opt
sold_cases m c t x f true pe q qe r re u ue k = one_told m false false false c t x refl (tidy m [] ∙ ap (λ z. opt m (bytes ".ND") ++ z) (sym (same_true t [] pe))) f k
sold_cases m c t x f false pe true qe r re u ue k = one_told m true false false c t x refl (tidy_end m (bytes ".OPD") ∙ ap (λ z. opt m (bytes ".ND") ++ z) (sym (same_true t (bytes ".OPD") qe))) f k
sold_cases m c t x f false pe false qe true re u ue k = one_told m false true false c t x refl (tidy_mid m (bytes ".SLD") ∙ ap (λ z. opt m (bytes ".ND") ++ z) (sym (same_true t (bytes ".SLD") re))) f k
sold_cases m c t x f false pe false qe false re true ue k = one_told m false false true c t x refl (tidy m (bytes ".SLD.LAST") ∙ ap (λ z. opt m (bytes ".ND") ++ z) (sym (same_true t (bytes ".SLD.LAST") ue))) f k
sold_cases m c t x f false pe false qe false re false ue k = absurd (no_letters_lem x k)

sold_told : (m : Bool) (c t : List ℕ) (x : Letters) → c ≡ opt m (bytes ".ND") ++ t → sold_in m t ≡ Some x → AfterTold c x
unfolding sold_in
sold_told m c t x f h = sold_cases m c t x f (same t []) refl (same t (bytes ".OPD")) refl (same t (bytes ".SLD")) refl (same t (bytes ".SLD.LAST")) refl h

after_cases : (c : List ℕ) (x : Letters) (b : Bool) → starts (bytes ".ND") c ≡ b → pick b (sold_in true (drop 3 c)) (sold_in false c) ≡ Some x → AfterTold c x
unfolding pick opt
after_cases c x true e k = sold_told true c (drop 3 c) x (front_is (bytes ".ND") c e) k
after_cases c x false e k = sold_told false c c x refl k

pub after_told : (c : List ℕ) (x : Letters) → after_in c ≡ Some x → AfterTold c x
unfolding after_in
after_told c x h = after_cases c x (starts (bytes ".ND") c) refl h

-- ---- the name up to the first condition

counted : (b : Bool) (c : ℕ) (s : List ℕ) (r : Read (List ℕ)) (n : ℕ) → n ≡ length r.got → pick b 0 (suc n) ≡ length (pick b (found [] (c ∷ s)) (before c r)).got
unfolding pick
counted true c s r n h = refl
counted false c s r n h = ap suc h

count_cut : (s : List ℕ) → name_count s ≡ length (cut s).got
unfolding name_count cut
count_cut [] = refl
count_cut (c ∷ s) = counted (is_after (c ∷ s)) c s (cut s) (name_count s) (count_cut s)

-- ---- the head is found

-- what is found of a head
unfoldable pub head_read : Bool → List ℕ → Letters → NameRead
head_read temporary text x = record { length = length text; used = length (text ++ after_name x); letters = letters_after x.m x.o x.s x.l; a = name_on temporary 65 text; b = name_on temporary 66 text }

on_one : (temporary : Bool) (network : ℕ) (text : List ℕ) → is_network network ≡ true → name_on temporary network text ≡ true → (name_on temporary 65 text || name_on temporary 66 text) ≡ true
unfolding is_network among
on_one temporary network text n h =
    ⊎_elim (λ e. rw (ap (λ k. name_on temporary k text) (sym (eqb-true network 65 e)) ∙ h))
    (λ e. ⊎_elim (λ f. rw (ap (λ k. name_on temporary k text) (sym (eqb-true network 66 f)) ∙ h) (or_true (name_on temporary 65 text))) (λ f. absurd (false_true f)) (or_cases (eqb network 66) false e))
    (or_cases (eqb network 65) (eqb network 66 || false) n)

module _ (temporary : Bool) (network : ℕ) (name : List ℕ) (n : is_network network ≡ true) (h : NamePlain network name) (x : Letters) (z : x.n ≡ false) (o : one_sold x ≡ true) where
  head_short : length (name_text temporary name ++ after_name x) ≤ 35
  head_short = omega (length-append (name_text temporary name) (after_name x), name_most temporary name, after_short x z o, arith)

  count_name : name_count (name_text temporary name ++ after_name x) ≡ length (name_text temporary name)
  count_name = count_cut (name_text temporary name ++ after_name x) ∙ ap (λ r. length r.got) (name_cut network name h temporary x)

  in_run_lem : in_run temporary (name_text temporary name ++ after_name x) ≡ Some (head_read temporary (name_text temporary name) x)
  unfolding in_run head_read named_by pick
  in_run_lem = rw (count_name, take-append_seam (name_text temporary name) (after_name x), drop-append_seam (name_text temporary name) (after_name x), after_back x z o, on_one temporary network (name_text temporary name) n (name_lawful temporary network name h))

  pub head_found : (s : List ℕ) → heads is_upper s ≡ false → head_at temporary ((name_text temporary name ++ after_name x) ++ s) ≡ Some (head_read temporary (name_text temporary name) x)
  unfolding head_at
  head_found s l =
      let t = name_text temporary name ++ after_name x in
      let u = all_append is_upper (name_text temporary name) (after_name x) (name_upper network name h temporary) (conditions_upper x) in
      rw (count_all is_upper 35 t s u head_short l, take-append_seam t s) in_run_lem

-- ---- what is found stands there

pub record HeadTold (temporary : Bool) (s : List ℕ) (h : NameRead) : Type 0 where
  pub within : h.used ≤ length s
  pub short : h.length ≤ h.used
  pub text : take h.used s ≡ take h.length s ++ after_name h.letters
  pub on_a : h.a ≡ name_on temporary 65 (take h.length s)
  pub on_b : h.b ≡ name_on temporary 66 (take h.length s)
  pub one : (h.a || h.b) ≡ true
  pub sold : one_sold h.letters ≡ true
  pub only : h.letters ≡ letters_after h.letters.m h.letters.o h.letters.s h.letters.l

name_in : Option NameRead → NameRead
name_in (Some h) = h
name_in None = head_read false [] (letters_after false false false false)

is_named : Option NameRead → Bool
is_named (Some h) = true
is_named None = false

no_name_lem : (h : NameRead) → None ≡ Some h → ⊥
unfolding is_named
no_name_lem h e = false_true (ap is_named e)

module _ (temporary : Bool) (s : List ℕ) where
  run : List ℕ
  run = take (upper_count s) s

  named : List ℕ
  named = take (name_count run) run

  after : List ℕ
  after = drop (name_count run) run

  run_length : length run ≡ upper_count s
  unfolding run
  run_length = omega (length-take (upper_count s) s, count_within is_upper 35 s, arith)

  named_length : length named ≡ name_count run
  unfolding named
  named_length = omega (length-take (name_count run) run, name_within run, arith)

  named_front : take (name_count run) s ≡ named
  unfolding named run
  named_front = sym (take-take (name_count run) (upper_count s) s (omega (name_within run, run_length, arith)))

  read_as : Letters → NameRead
  read_as x = record { length = length named; used = length run; letters = x; a = name_on temporary 65 named; b = name_on temporary 66 named }

  told_as : (x : Letters) → after_in after ≡ Some x → (name_on temporary 65 named || name_on temporary 66 named) ≡ true → HeadTold temporary s (read_as x)
  unfolding read_as run named after
  told_as x e o =
      let t = after_told after x e in
      let f : take (length named) s ≡ named = ap (λ k. take k s) named_length ∙ named_front in
      let g : take (length run) s ≡ run = ap (λ k. take k s) run_length in
      record {
        within = omega (run_length, count_within is_upper 35 s, arith);
        short = omega (named_length, name_within run, arith);
        text = g ∙ sym (take-append-drop (name_count run) run) ∙ ap (λ z. named ++ z) t.text ∙ ap (λ z. z ++ after_name x) (sym f);
        on_a = ap (name_on temporary 65) (sym f);
        on_b = ap (name_on temporary 66) (sym f);
        one = o;
        sold = t.sold;
        only = t.only;
      }

  told_pick : (h : NameRead) (x : Letters) (b : Bool) → (name_on temporary 65 named || name_on temporary 66 named) ≡ b → after_in after ≡ Some x → pick b (Some (read_as x)) None ≡ Some h → HeadTold temporary s h
  unfolding pick name_in
  told_pick h x true o e k = subst (HeadTold temporary s) (ap name_in k) (told_as x e o)
  told_pick h x false o e k = absurd (no_name_lem h k)

  told_by : (h : NameRead) (y : Option Letters) → after_in after ≡ y → named_by temporary named (length run) y ≡ Some h → HeadTold temporary s h
  unfolding named_by read_as
  told_by h None e k = absurd (no_name_lem h k)
  told_by h (Some x) e k = told_pick h x (name_on temporary 65 named || name_on temporary 66 named) refl e k

  pub head_told : (h : NameRead) → head_at temporary s ≡ Some h → HeadTold temporary s h
  unfolding head_at in_run named run after
  head_told h e = told_by h (after_in after) refl e
