-- A name is read back from a tape: its bytes are of the upper row, and it is told apart from the conditions after it. Assumes nothing.
use Prim.Native.Nat.{ℕ, ◌≤◌}
use native.Mathlib.Omega.{arith}
use mathlib.Core.Path.{◌≡◌, refl, ap, ◌∙◌}
use mathlib.Core.Bool.{Bool, true, false, ◌&&◌, ◌||◌, not}
use mathlib.Core.List.{List, [], ◌∷◌, ◌++◌, append_assoc}
use mathlib.Core.Option.{some}
use lib.ListN.{length}
use Rattle.text.specs.Bytes.{bytes}
use Rattle.text.specs.Pick.{pick, opt, all, same, among}
use Rattle.text.specs.Reading.{found, heads, span, starts}
use Rattle.text.proofs.Texts.{and_left, and_right}
use Rattle.text.proofs.Reading.{span_all}
use Rattle.text.proofs.Parts.{heads_append, all_opt, all_append}
use Rattle.rules.specs.Tape.{is_letter, is_upper}
use Rattle.rules.specs.Columns.{word}
use Rattle.rules.specs.Names.{root_field, suffix_field, temporary_field, appendage_field, part_text, name_text, is_reserved, is_suffix, is_temporary, is_appendage, lawful_field, lawful_name}
use Rattle.rules.specs.Conditions.{after_name}
use Rattle.rules.specs.declared.Letters.{Letters}
use Rattle.text.proofs.Booleans.{false_true}
use Rattle.name_back.specs.Plain.{NamePlain}
use Rattle.name_back.specs.Cut.{is_after, cut, Sold, plain, opened, sold, last, sold_text, after, after_text, first_of, read_after, divide, sold_of, after_of, one_sold}
use Rattle.name_back.proofs.Root.{root_text}
use Rattle.name_back.proofs.Parts.{letters_upper, ends, clean, clean_append, clean_root, cut_clean, sound, sound_dotted, suffix_sound, temporary_sound, appendage_sound}

-- ---- the parts of a name, one after another

-- a part, and what holds of it
record Sound (t : List ℕ) : Type 0 where
  upper : all is_upper t ≡ true
  clear : clean t ≡ true

sound_part : (s : List ℕ) → sound s ≡ true → Sound (part_text s)
unfolding sound
sound_part s h = record { upper = and_left (all is_upper (part_text s)) (clean (part_text s)) h; clear = and_right (all is_upper (part_text s)) (clean (part_text s)) h }

dotted_part : (s : List ℕ) → sound_dotted s ≡ true → Sound (part_text s) × (ends (part_text s) ≡ true)
unfolding sound_dotted
dotted_part s h = (sound_part s (and_left (sound s) (ends (part_text s)) h), and_right (sound s) (ends (part_text s)) h)

shown_part : (b : Bool) (t : List ℕ) → Sound t × (ends t ≡ true) → Sound (opt b t) × (ends (opt b t) ≡ true)
unfolding opt all clean ends
shown_part true t h = h
shown_part false t h = (record { upper = refl; clear = refl }, refl)

sound_append : (t u : List ℕ) → Sound t → Sound u → ends u ≡ true → Sound (t ++ u)
sound_append t u v w e = record { upper = all_append is_upper t u v.upper w.upper; clear = clean_append t u v.clear w.clear e }

ends_append : (t u : List ℕ) → ends t ≡ true → ends u ≡ true → ends (t ++ u) ≡ true
unfolding ends
ends_append [] u h k = k
ends_append (c ∷ t) u h k = h

pub heads_some : (p : ℕ → Bool) (t : List ℕ) → heads p t ≡ true → 1 ≤ length t
heads_some p [] h = absurd (false_true h)
heads_some p (c ∷ t) h = omega arith

-- ---- the conditions after a name

pub conditions_upper : (x : Letters) → all is_upper (after_name x) ≡ true
unfolding after_name all is_upper is_letter among
conditions_upper x =
    all_append is_upper (opt (x.n || x.m) (bytes ".ND") ++ opt x.o (bytes ".OPD") ++ opt x.s (bytes ".SLD")) (opt x.l (bytes ".SLD.LAST"))
    (all_append is_upper (opt (x.n || x.m) (bytes ".ND") ++ opt x.o (bytes ".OPD")) (opt x.s (bytes ".SLD"))
    (all_append is_upper (opt (x.n || x.m) (bytes ".ND")) (opt x.o (bytes ".OPD")) (all_opt is_upper (x.n || x.m) (bytes ".ND") refl) (all_opt is_upper x.o (bytes ".OPD") refl))
    (all_opt is_upper x.s (bytes ".SLD") refl))
    (all_opt is_upper x.l (bytes ".SLD.LAST") refl)

abbrev conditions : Bool → Bool → Bool → Bool → List ℕ
conditions n o s l = opt n (bytes ".ND") ++ opt o (bytes ".OPD") ++ opt s (bytes ".SLD") ++ opt l (bytes ".SLD.LAST")

-- whatever the letters: nothing, or a condition first
conditions_cut : (n o s l : Bool) → (ends (conditions n o s l) ≡ true) × (cut (conditions n o s l) ≡ found [] (conditions n o s l))
unfolding ends cut is_after starts pick opt
conditions_cut true o s l = (refl, refl)
conditions_cut false true s l = (refl, refl)
conditions_cut false false true l = (refl, refl)
conditions_cut false false false true = (refl, refl)
conditions_cut false false false false = (refl, refl)

-- where at most one of O, S and L stands, the text says which
conditions_are : (n o s l : Bool) → (not (o && s) && (not (o && l) && not (s && l))) ≡ true → conditions n o s l ≡ after_text (after n (pick o opened (pick s sold (pick l last plain))))
unfolding after_text sold_text pick opt
conditions_are true true true l h = absurd (false_true h)
conditions_are true true false true h = absurd (false_true h)
conditions_are true true false false h = refl
conditions_are true false true true h = absurd (false_true h)
conditions_are true false true false h = refl
conditions_are true false false true h = refl
conditions_are true false false false h = refl
conditions_are false true true l h = absurd (false_true h)
conditions_are false true false true h = absurd (false_true h)
conditions_are false true false false h = refl
conditions_are false false true true h = absurd (false_true h)
conditions_are false false true false h = refl
conditions_are false false false true h = refl
conditions_are false false false false h = refl

read_eight : (b : Bool) (y : Sold) → read_after (after_text (after b y)) ≡ some (after b y)
unfolding read_after first_of after_text sold_text same pick opt
read_eight false plain = refl
read_eight false opened = refl
read_eight false sold = refl
read_eight false last = refl
read_eight true plain = refl
read_eight true opened = refl
read_eight true sold = refl
read_eight true last = refl

-- THE CONDITIONS COME BACK
pub conditions_back : (x : Letters) → one_sold x ≡ true → read_after (after_name x) ≡ some (after_of x)
unfolding one_sold after_name after_of sold_of
conditions_back x h = ap read_after (conditions_are (x.n || x.m) x.o x.s x.l h) ∙ read_eight (x.n || x.m) (pick x.o opened (pick x.s sold (pick x.l last plain)))

-- ---- the name

module _ (network : ℕ) (n : List ℕ) (h : NamePlain network n) where
  tail_sound : (b : Bool) → Sound (part_text (word (suffix_field n)) ++ (opt b (part_text (word (temporary_field n))) ++ part_text (word (appendage_field n))))
  unfolding lawful_name
  tail_sound b =
      let r = not (is_reserved (word (root_field n))) in
      let p = lawful_field is_suffix (suffix_field n) in
      let q = lawful_field is_temporary (temporary_field n) in
      let a = lawful_field (is_appendage network) (appendage_field n) in
      let l = and_right r (p && (q && a)) h.lawful in
      let s = sound_part (word (suffix_field n)) (suffix_sound (suffix_field n) (and_left p (q && a) l)) in
      let t = shown_part b (part_text (word (temporary_field n))) (dotted_part (word (temporary_field n)) (temporary_sound (temporary_field n) (and_left q a (and_right p (q && a) l)))) in
      let e = dotted_part (word (appendage_field n)) (appendage_sound network (appendage_field n) (and_right q a (and_right p (q && a) l))) in
      sound_append _ _ s (sound_append _ _ t.0 e.0 e.1) (ends_append _ _ t.1 e.1)

  pub name_parts : (b : Bool) → name_text b n ≡ word (root_field n) ++ (part_text (word (suffix_field n)) ++ (opt b (part_text (word (temporary_field n))) ++ part_text (word (appendage_field n))))
  unfolding name_text
  name_parts b = simp append_assoc

  pub name_upper : (b : Bool) → all is_upper (name_text b n) ≡ true
  name_upper b = rw (name_parts b) (all_append is_upper (word (root_field n)) _ (letters_upper _ (root_text _ h.root).1) (tail_sound b).upper)

  -- a name begins with a letter A-Z
  pub name_head : (b : Bool) → heads is_letter (name_text b n) ≡ true
  name_head b = rw (name_parts b) (heads_append is_letter (word (root_field n)) _ (root_text _ h.root).0)

  pub name_some : (b : Bool) → 1 ≤ length (name_text b n)
  name_some b = heads_some is_letter (name_text b n) (name_head b)

  name_clean : (b : Bool) → clean (name_text b n) ≡ true
  name_clean b = rw (name_parts b) (clean_root (word (root_field n)) _ (root_text _ h.root).1 (tail_sound b).clear)

  -- THE NAME COMES BACK from before what is not of the upper row
  pub name_span : (b : Bool) (s : List ℕ) → heads is_upper s ≡ false → span is_upper (name_text b n ++ s) ≡ found (name_text b n) s
  name_span b s k = span_all is_upper (name_text b n) s (name_upper b) k

  -- and so with the conditions after it
  pub run_span : (b : Bool) (x : Letters) (s : List ℕ) → heads is_upper s ≡ false → span is_upper ((name_text b n ++ after_name x) ++ s) ≡ found (name_text b n ++ after_name x) s
  run_span b x s k = span_all is_upper (name_text b n ++ after_name x) s (all_append is_upper (name_text b n) (after_name x) (name_upper b) (conditions_upper x)) k

  -- THE NAME IS TOLD APART from the conditions after it, whatever the letters
  pub name_cut : (b : Bool) (x : Letters) → cut (name_text b n ++ after_name x) ≡ found (name_text b n) (after_name x)
  unfolding after_name
  name_cut b x =
      let c = conditions_cut (x.n || x.m) x.o x.s x.l in
      cut_clean (name_text b n) (after_name x) (name_clean b) c.0 c.1

  -- THE NAME AND ITS CONDITIONS COME BACK from a run
  pub name_back : (b : Bool) (x : Letters) → one_sold x ≡ true → divide (name_text b n ++ after_name x) ≡ record { name = name_text b n; conditions = some (after_of x) }
  unfolding divide
  name_back b x o = rw (name_cut b x, conditions_back x o)
