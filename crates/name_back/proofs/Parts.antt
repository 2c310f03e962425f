-- No condition begins inside a part of a lawful name, and its bytes are of the upper row: the listed texts by computation, the families by their letter. Assumes nothing.
use Prim.Native.Nat.{ℕ}
use mathlib.Core.Path.{◌≡◌, refl, sym, ap, ◌∙◌}
use mathlib.Core.Bool.{Bool, true, false, ◌&&◌, ◌||◌, not}
use mathlib.Core.List.{List, [], ◌∷◌, ◌++◌}
use mathlib.Core.Logic.{⊎_elim}
use lib.ListN.{length, drop}
use lib.Dec.{eqb}
use borrow.Author.Tests.{eqb-true, eq-eqb, ne_eqb, not-true}
use Rattle.text.specs.Bytes.{bytes}
use Rattle.text.specs.Pick.{pick, opt, all, same, among, member}
use Rattle.text.specs.Reading.{found, starts}
use Rattle.text.proofs.Texts.{and_left, and_right, same_true}
use Rattle.text.proofs.Parts.{all_append}
use Rattle.text.proofs.Booleans.{and_both, false_true, or_cases}
use Rattle.rules.specs.Tape.{is_letter, is_upper, is_raised}
use Rattle.rules.specs.Columns.{word, left_justified}
use Rattle.rules.specs.Names.{texts, part_text, listed_suffixes, is_class, is_series, is_preferred, is_suffix, is_temporary, is_appendage, lawful_field}
use Rattle.name_back.specs.Cut.{is_after, cut}
use Rattle.name_back.proofs.Root.{letter_not_dot}

-- ---- bytes that pass

pub letters_upper : (s : List ℕ) → all is_letter s ≡ true → all is_upper s ≡ true
unfolding all is_upper
letters_upper [] h = refl
letters_upper (c ∷ s) h =
    let u : is_upper c ≡ true = rw (and_left (is_letter c) (all is_letter s) h) in
    and_both u (letters_upper s (and_right (is_letter c) (all is_letter s) h))

-- ---- where no condition begins

-- nothing, or a letter dot first
unfoldable pub ends : List ℕ → Bool
ends [] = true
ends (c ∷ s) = eqb c 46

abbrev undotted : ℕ → Bool
undotted c = not (eqb c 46)

-- a text without dots starts what goes on with a dot just where it starts what stands before the dot
starts_ends : (p t u : List ℕ) → all undotted p ≡ true → ends u ≡ true → starts p (t ++ u) ≡ starts p t
unfolding starts all ends
starts_ends [] t u h k = refl
starts_ends (a ∷ p) [] [] h k = refl
starts_ends (a ∷ p) [] (c ∷ u) h k =
    let n : eqb a 46 ≡ false = not-true (eqb a 46) (and_left (undotted a) (all undotted p) h) in
    let m : eqb a c ≡ false = ne_eqb a c (λ e. false_true (sym n ∙ eq-eqb a 46 (e ∙ eqb-true c 46 k))) in
    rw m
starts_ends (a ∷ p) (c ∷ t) u h k = rw (starts_ends p t u (and_right (undotted a) (all undotted p) h) k)

after_ends : (c : ℕ) (t u : List ℕ) → ends u ≡ true → is_after (c ∷ (t ++ u)) ≡ is_after (c ∷ t)
unfolding is_after all
after_ends c t u k = rw (starts_ends (bytes "ND") t u refl k, starts_ends (bytes "OPD") t u refl k, starts_ends (bytes "SLD") t u refl k)

-- no condition begins in the text
unfoldable pub clean : List ℕ → Bool
clean [] = true
clean (c ∷ s) = not (is_after (c ∷ s)) && clean s

pub clean_append : (t u : List ℕ) → clean t ≡ true → clean u ≡ true → ends u ≡ true → clean (t ++ u) ≡ true
unfolding clean
clean_append [] u h k e = k
clean_append (c ∷ t) u h k e =
    let n : not (is_after (c ∷ (t ++ u))) ≡ true = rw (after_ends c t u e) (and_left (not (is_after (c ∷ t))) (clean t) h) in
    and_both n (clean_append t u (and_right (not (is_after (c ∷ t))) (clean t) h) k e)

clean_letter : (c : ℕ) (s : List ℕ) → is_letter c ≡ true → clean s ≡ true → clean (c ∷ s) ≡ true
unfolding clean is_after
clean_letter c s h k = rw (letter_not_dot c h) k

pub clean_root : (r u : List ℕ) → all is_letter r ≡ true → clean u ≡ true → clean (r ++ u) ≡ true
unfolding all
clean_root [] u h k = k
clean_root (c ∷ r) u h k = clean_letter c (r ++ u) (and_left (is_letter c) (all is_letter r) h) (clean_root r u (and_right (is_letter c) (all is_letter r) h) k)

-- a clean text is cut off before what begins with a condition
pub cut_clean : (t u : List ℕ) → clean t ≡ true → ends u ≡ true → cut u ≡ found [] u → cut (t ++ u) ≡ found t u
unfolding clean cut pick
cut_clean [] u h k e = e
cut_clean (c ∷ t) u h k e =
    let n : is_after (c ∷ (t ++ u)) ≡ false = after_ends c t u k ∙ not-true (is_after (c ∷ t)) (and_left (not (is_after (c ∷ t))) (clean t) h) in
    rw (n, cut_clean t u (and_right (not (is_after (c ∷ t))) (clean t) h) k e)

-- ---- what holds of each listed text holds of a lawful one

unfoldable pub each : (List ℕ → Bool) → List (List ℕ) → Bool
each f [] = true
each f (x ∷ l) = f x && each f l

pub member_each : (f : List ℕ → Bool) (l : List (List ℕ)) (s : List ℕ) → each f l ≡ true → member s l ≡ true → f s ≡ true
unfolding member each
member_each f [] s h m = absurd (false_true m)
member_each f (x ∷ l) s h m =
    ⊎_elim (λ e. rw (same_true s x e) (and_left (f x) (each f l) h)) (λ k. member_each f l s (and_right (f x) (each f l) h) k) (or_cases (same s x) (member s l) m)

pub among_each : (g : ℕ → Bool) (l : List ℕ) (c : ℕ) → all g l ≡ true → among c l ≡ true → g c ≡ true
unfolding among all
among_each g [] c h m = absurd (false_true m)
among_each g (x ∷ l) c h m =
    ⊎_elim (λ e. rw (eqb-true c x e) (and_left (g x) (all g l) h)) (λ k. among_each g l c (and_right (g x) (all g l) h) k) (or_cases (eqb c x) (among c l) m)

pub front_is : (p s : List ℕ) → starts p s ≡ true → s ≡ p ++ drop (length p) s
unfolding starts
front_is [] s h = refl
front_is (a ∷ p) [] h = absurd (false_true h)
front_is (a ∷ p) (c ∷ s) h = cc (eqb-true a c (and_left (eqb a c) (starts p s) h), front_is p s (and_right (eqb a c) (starts p s) h))

abbrev pub class_ends : List (List ℕ)
class_ends = texts ("" ∷ ".CV" ∷ ".CL" ∷ "w" ∷ [])

class_case : (f : List ℕ → Bool) → ((c : ℕ) (e : List ℕ) → is_letter c ≡ true → member e class_ends ≡ true → f (c ∷ e) ≡ true) → (s : List ℕ) → is_class s ≡ true → f s ≡ true
unfolding is_class
class_case f k [] h = absurd (false_true h)
class_case f k (c ∷ e) h = k c e (and_left (is_letter c) (member e class_ends) h) (and_right (is_letter c) (member e class_ends) h)

series_case : (f : List ℕ → Bool) → ((c : ℕ) → is_letter c ≡ true → f (c ∷ []) ≡ true) → (s : List ℕ) → is_series s ≡ true → f s ≡ true
unfolding is_series all is_letter
series_case f k [] h = absurd (false_true h)
series_case f k (c ∷ e) h =
    let a = and_left (among c (bytes "ABCDEFGHIJKMNOPQRS")) (same e []) h in
    let n = same_true e [] (and_right (among c (bytes "ABCDEFGHIJKMNOPQRS")) (same e []) h) in
    rw n (k c (among_each is_letter (bytes "ABCDEFGHIJKMNOPQRS") c refl a))

-- a suffix is listed, or of a family: what holds of these holds of every suffix
pub suffix_case : (f : List ℕ → Bool) → each f listed_suffixes ≡ true → ((c : ℕ) (e : List ℕ) → is_letter c ≡ true → member e class_ends ≡ true → f (112 ∷ c ∷ e) ≡ true) → ((c : ℕ) → is_letter c ≡ true → f (112 ∷ 67 ∷ c ∷ []) ≡ true) → (s : List ℕ) → is_suffix s ≡ true → f s ≡ true
unfolding is_suffix is_preferred
suffix_case f l k m s h = ⊎_elim (λ e. member_each f listed_suffixes s l e) (λ p. ⊎_elim (λ q. class q) (λ q. series q) (or_cases (starts (bytes "p") s && is_class (drop 1 s)) (starts (bytes "pC") s && is_series (drop 2 s)) p)) (or_cases (member s listed_suffixes) (is_preferred s) h)
  where
    class : (starts (bytes "p") s && is_class (drop 1 s)) ≡ true → f s ≡ true
    class q =
        ap f (front_is (bytes "p") s (and_left (starts (bytes "p") s) (is_class (drop 1 s)) q))
        ∙ class_case (λ d. f (112 ∷ d)) k (drop 1 s) (and_right (starts (bytes "p") s) (is_class (drop 1 s)) q)

    series : (starts (bytes "pC") s && is_series (drop 2 s)) ≡ true → f s ≡ true
    series q =
        ap f (front_is (bytes "pC") s (and_left (starts (bytes "pC") s) (is_series (drop 2 s)) q))
        ∙ series_case (λ d. f (112 ∷ 67 ∷ d)) m (drop 2 s) (and_right (starts (bytes "pC") s) (is_series (drop 2 s)) q)

-- a field is blank or holds a listed text
pub field_case : (f listed : List ℕ → Bool) → f [] ≡ true → ((s : List ℕ) → listed s ≡ true → f s ≡ true) → (field : List ℕ) → lawful_field listed field ≡ true → f (word field) ≡ true
unfolding lawful_field
field_case f listed n k field h =
    ⊎_elim (λ e. rw (same_true (word field) [] e) n) (λ m. k (word field) m)
    (or_cases (same (word field) []) (listed (word field)) (and_right (left_justified field) (same (word field) [] || listed (word field)) h))

-- ---- the parts of a name

-- of the upper row, and no condition begins inside
unfoldable pub sound : List ℕ → Bool
sound s = all is_upper (part_text s) && clean (part_text s)

-- and with a letter dot before it
unfoldable pub sound_dotted : List ℕ → Bool
sound_dotted s = sound s && ends (part_text s)

raised : (s : List ℕ) → part_text (112 ∷ s) ≡ 112 ∷ s
unfolding part_text is_raised among opt
raised s = refl

-- a raised p, then what is sound by itself
raised_sound : (s : List ℕ) → all is_upper s ≡ true → clean s ≡ true → sound (112 ∷ s) ≡ true
unfolding sound all clean is_after is_upper is_letter among
raised_sound s h k = rw raised (and_both h k)

class_sound : (c : ℕ) (e : List ℕ) → is_letter c ≡ true → member e class_ends ≡ true → sound (112 ∷ c ∷ e) ≡ true
unfolding each all clean is_after is_upper is_letter among starts
class_sound c e h m =
    let u : all is_upper e ≡ true = member_each (all is_upper) class_ends e refl m in
    let k : clean e ≡ true = member_each clean class_ends e refl m in
    raised_sound (c ∷ e) (all_append is_upper (c ∷ []) e (letters_upper (c ∷ []) (and_both h refl)) u) (clean_letter c e h k)

series_sound : (c : ℕ) → is_letter c ≡ true → sound (112 ∷ 67 ∷ c ∷ []) ≡ true
unfolding all clean is_after is_letter
series_sound c h = raised_sound (67 ∷ c ∷ []) (letters_upper (67 ∷ c ∷ []) (and_both refl (and_both h refl))) (clean_root (67 ∷ c ∷ []) [] (and_both refl (and_both h refl)) refl)

listed_sound : each sound listed_suffixes ≡ true
unfolding each sound listed_suffixes all clean is_after is_upper is_letter is_raised among starts part_text opt
listed_sound = refl

pub suffix_sound : (field : List ℕ) → lawful_field is_suffix field ≡ true → sound (word field) ≡ true
unfolding sound all clean part_text
suffix_sound field h = field_case sound is_suffix refl (suffix_case sound listed_sound class_sound series_sound) field h

pub temporary_sound : (field : List ℕ) → lawful_field is_temporary field ≡ true → sound_dotted (word field) ≡ true
unfolding is_temporary each sound_dotted sound ends all clean is_after is_upper is_letter is_raised among starts part_text opt
temporary_sound field h = field_case sound_dotted is_temporary refl (λ s m. member_each sound_dotted (texts ("XD" ∷ "XDIS" ∷ "Xr" ∷ "N" ∷ "XI" ∷ [])) s refl m) field h

pub appendage_sound : (network : ℕ) (field : List ℕ) → lawful_field (is_appendage network) field ≡ true → sound_dotted (word field) ≡ true
unfolding is_appendage sound_dotted sound ends all clean is_after is_upper is_letter is_raised among starts part_text opt
appendage_sound network field h = field_case sound_dotted (is_appendage network) refl one field h
  where
    one : (s : List ℕ) → is_appendage network s ≡ true → sound_dotted s ≡ true
    one s m =
        ⊎_elim (λ e. rw (same_true s (bytes "BC") (and_left (same s (bytes "BC")) (eqb network 65) e)))
        (λ e. rw (same_true s (bytes "DL") (and_left (same s (bytes "DL")) (eqb network 66) e)))
        (or_cases (same s (bytes "BC") && eqb network 65) (same s (bytes "DL") && eqb network 66) m)
