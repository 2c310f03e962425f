-- A volume shown where a price stands goes beyond the price and all of its conditions. Assumes nothing.
use Prim.Native.Nat.{ℕ, zero, suc, ◌+◌, ◌/◌, ◌%◌, ◌≤◌, ◌<◌}
use native.Mathlib.Omega.{arith}
use mathlib.Core.Path.{◌≡◌, refl, sym, ap, ◌∙◌}
use mathlib.Core.Bool.{Bool, true, false, ◌||◌, not}
use mathlib.Core.List.{List, [], ◌∷◌, ◌++◌, append_assoc}
use lib.Dec.{eqb, ltb}
use lib.ListN.{length, drop, length-append, length-take, take-append-drop}
use borrow.Author.Tests.{not-true}
use Rattle.std.specs.Prelude.{Option, Some, None}
use Rattle.text.specs.Bytes.{bytes}
use Rattle.text.specs.Pick.{pick, opt, all}
use Rattle.text.specs.Decimal.{decimal, places}
use Rattle.text.specs.Reading.{starts, heads, is_digit}
use Rattle.text.proofs.Reading.{digit_yes}
use Rattle.text.proofs.Decimal.{decimal_places}
use Rattle.text.proofs.Texts.{and_left, and_right}
use Rattle.text.proofs.Parts.{all_append}
use Rattle.text.proofs.Booleans.{and_both, false_true}
use Rattle.rules.specs.Price.{whole_part, fraction, whole_text, fraction_text, dollars_text, price_text}
use Rattle.rules.specs.Volume.{group, full_volume}
use Rattle.rules.specs.Conditions.{seller_text, previous_text}
use Rattle.rules.specs.declared.Price.{Price}
use Rattle.read_volume.specs.declared.Volume.{Volume}
use Rattle.read_volume.specs.declared.Volume.TheVariants.{Unsaid, Hundreds, Tens, Shares}
use Rattle.read_volume.specs.declared.VolumeRead.{VolumeRead}
use Rattle.read_volume.specs.Volume.{volume_at, said_text}
use Rattle.read_volume.proofs.Shown.{VolumeFound, volume_found}
use Rattle.claim_longest.proofs.Tail.{from_average, size_average}
use Rattle.rules.specs.declared.PriceForm.TheVariants.{Full}

-- a digit or a figure dot
pub is_figure : ℕ → Bool
is_figure c = is_digit c || eqb c 44

figure_digit : (q : ℕ) → q < 10 → is_figure (48 + q) ≡ true
unfolding is_figure
figure_digit q h = rw (digit_yes q h)

one_figure : (q : ℕ) → q < 10 → all is_figure ((48 + q) ∷ []) ≡ true
unfolding all
one_figure q h = and_both (figure_digit q h) refl

places_figures : (k n : ℕ) → all is_figure (places k n) ≡ true
unfolding places all
places_figures zero n = refl
places_figures (suc k) n = all_append is_figure (places k (n / 10)) ((48 + n % 10) ∷ []) (places_figures k (n / 10)) (one_figure (n % 10) (omega arith))

decimal_figures : (n : ℕ) → all is_figure (decimal n) ≡ true
decimal_figures n = ap (all is_figure) (sym (decimal_places n)) ∙ places_figures (length (decimal n)) n

pick_all : (p : ℕ → Bool) (b : Bool) (s t : List ℕ) → all p s ≡ true → all p t ≡ true → all p (pick b s t) ≡ true
unfolding pick
pick_all p true s t h k = h
pick_all p false s t h k = k

none_all : (p : ℕ → Bool) → all p [] ≡ true
unfolding all
none_all p = refl

dotted_figures : (k n : ℕ) → all is_figure (bytes "," ++ places k n) ≡ true
unfolding all is_figure is_digit
dotted_figures k n = places_figures k n

price_figures : (p : Price) → all is_figure (price_text Full p) ≡ true
unfolding price_text dollars_text whole_text fraction_text pick
price_figures p = all_append is_figure _ _ (pick_all is_figure (eqb (whole_part p) 0) [] (decimal (whole_part p)) (none_all is_figure) (decimal_figures (whole_part p))) (pick_all is_figure (eqb (fraction p) 0) [] (bytes "," ++ places p.d (fraction p)) (none_all is_figure) (dotted_figures p.d (fraction p)))

group_figures : (n : ℕ) → all is_figure (group n) ≡ true
unfolding group
group_figures n = dotted_figures 3 n

volume_figures : (n : ℕ) → all is_figure (full_volume n) ≡ true
unfolding full_volume
volume_figures n =
    pick_all is_figure (ltb n 10000) (decimal n) _ (decimal_figures n)
    (pick_all is_figure (ltb n 1000000) (decimal (n / 1000) ++ group n) (decimal (n / 1000000) ++ group (n / 1000) ++ group n)
    (all_append is_figure (decimal (n / 1000)) (group n) (decimal_figures (n / 1000)) (group_figures n))
    (all_append is_figure (decimal (n / 1000000) ++ group (n / 1000)) (group n) (all_append is_figure (decimal (n / 1000000)) (group (n / 1000)) (decimal_figures (n / 1000000)) (group_figures (n / 1000))) (group_figures n)))

-- ---- what stands behind the figures

pub past_figures : List ℕ → List ℕ
past_figures [] = []
past_figures (c ∷ s) = pick (is_figure c) (past_figures s) (c ∷ s)

past_all : (t s : List ℕ) → all is_figure t ≡ true → past_figures (t ++ s) ≡ past_figures s
unfolding past_figures all pick
past_all [] s h = refl
past_all (c ∷ t) s h = rw (and_left (is_figure c) (all is_figure t) h) (past_all t s (and_right (is_figure c) (all is_figure t) h))

past_stop : (s : List ℕ) → heads is_figure s ≡ false → past_figures s ≡ s
unfolding past_figures pick
past_stop [] h = refl
past_stop (c ∷ s) h = rw h

-- figures at the front end where figures end
front_ends : (t s u r : List ℕ) → t ++ s ≡ u ++ r → all is_figure t ≡ true → heads is_figure r ≡ false → length t ≤ length u
unfolding all
front_ends [] s u r e h k = omega arith
front_ends (c ∷ t) s [] r e h k = absurd (false_true (sym k ∙ ap (heads is_figure) (sym e) ∙ and_left (is_figure c) (all is_figure t) h))
front_ends (c ∷ t) s (d ∷ u) r e h k = omega (front_ends t s u r (ap (drop 1) e) (and_right (is_figure c) (all is_figure t) h) k, arith)

-- a mark
pub is_mark : List ℕ → Bool
is_mark s = starts (bytes "s") s || (starts (bytes "$") s || starts (bytes "SHRS") s)

-- no condition begins with a mark, with figures before it or not
no_mark : (k b t r : Bool) (d : ℕ) (j g : Bool) (q : Price) (R : List ℕ) → is_mark (past_figures (opt k (bytes ",c") ++ from_average b t r d j g q R)) ≡ true → length (opt k (bytes ",c")) + size_average b t r d j g q ≡ 0
unfolding opt seller_text previous_text past_figures is_figure is_digit is_mark starts pick
no_mark true b t r d j g q R h = absurd (false_true h)
no_mark false true t r d j g q R h = absurd (false_true h)
no_mark false false true r d j g q R h = absurd (false_true h)
no_mark false false false true d j g q R h = absurd (false_true h)
no_mark false false false false d true g q R h = absurd (false_true h)
no_mark false false false false d false true q R h = absurd (false_true h)
no_mark false false false false d false false q R h = refl

-- ---- a volume that is shown: figures, then a mark

record Marked (v : Volume) : Type 0 where
  figures : List ℕ
  mark : List ℕ
  text : said_text v ≡ figures ++ mark
  all_figures : all is_figure figures ≡ true
  ends : (s : List ℕ) → heads is_figure (mark ++ s) ≡ false
  marks : (s : List ℕ) → is_mark (mark ++ s) ≡ true

marked : (v : Volume) → (v ≡ Unsaid → ⊥) → Marked v
unfolding said_text is_mark is_figure is_digit starts
marked Unsaid h = absurd (h refl)
marked (Hundreds n) h = record { figures = full_volume n; mark = bytes "s"; text = refl; all_figures = volume_figures n; ends = λ s. refl; marks = λ s. refl }
marked (Tens n) h = record { figures = full_volume n; mark = bytes "$"; text = refl; all_figures = volume_figures n; ends = λ s. refl; marks = λ s. refl }
marked (Shares n) h = record { figures = full_volume n; mark = bytes "SHRS"; text = refl; all_figures = volume_figures n; ends = λ s. refl; marks = λ s. refl }

nothing : (s : List ℕ) (w : VolumeRead) → VolumeFound s w → w.volume ≡ Unsaid → ⊥
unfolding said_text
nothing s w f z = omega (ap length (f.text ∙ ap said_text z), length-take w.used s, f.within, f.used, arith)

-- a volume that is read at a price: the price is in its figures, and its mark stands behind figures only
record Overlaps (p : Price) (rest : List ℕ) (w : VolumeRead) : Type 0 where
  far : length (price_text Full p) ≤ w.used
  mark_there : is_mark (past_figures rest) ≡ true

overlaps : (p : Price) (rest : List ℕ) (w : VolumeRead) → volume_at (price_text Full p ++ rest) ≡ Some w → Overlaps p rest w
overlaps p Z w e =
    let P = price_text Full p in
    let f = volume_found (P ++ Z) w e in
    let m = marked w.volume (nothing (P ++ Z) w f) in
    let rest = drop w.used (P ++ Z) in
    let l : length m.figures ≤ w.used = omega (ap length (f.text ∙ m.text), length-append m.figures m.mark, length-take w.used (P ++ Z), arith) in
    let x : P ++ Z ≡ m.figures ++ (m.mark ++ rest) = sym (take-append-drop w.used (P ++ Z)) ∙ ap (λ y. y ++ rest) (f.text ∙ m.text) ∙ append_assoc m.figures m.mark rest in
    let y : past_figures Z ≡ m.mark ++ rest = sym (past_all P Z (price_figures p)) ∙ ap past_figures x ∙ past_all m.figures (m.mark ++ rest) m.all_figures ∙ past_stop (m.mark ++ rest) (m.ends rest) in
    record { far = omega (front_ends P Z m.figures (m.mark ++ rest) x (price_figures p) (m.ends rest), l, arith); mark_there = ap is_mark y ∙ m.marks rest }

-- THE VOLUME GOES BEYOND
pub volume_beyond : (p : Price) (k b t r : Bool) (d : ℕ) (j g : Bool) (q : Price) (R : List ℕ) (w : VolumeRead) → volume_at (price_text Full p ++ (opt k (bytes ",c") ++ from_average b t r d j g q R)) ≡ Some w → length (price_text Full p) + (length (opt k (bytes ",c")) + size_average b t r d j g q) ≤ w.used
volume_beyond p k b t r d j g q R w e =
    let o = overlaps p (opt k (bytes ",c") ++ from_average b t r d j g q R) w e in
    omega (o.far, no_mark k b t r d j g q R o.mark_there, arith)

-- ---- no volume where no mark stands behind the figures

unfoldable pub unmarked : List ℕ → Bool
unmarked s = not (is_mark (past_figures s))

pub unmarked_pair : (s : List ℕ) → unmarked (bytes ">>" ++ s) ≡ true
unfolding unmarked is_mark past_figures is_figure is_digit starts pick
unmarked_pair s = refl

pub unmarked_was : (s : List ℕ) → unmarked (bytes "WAS." ++ s) ≡ true
unfolding unmarked is_mark past_figures is_figure is_digit starts pick
unmarked_was s = refl

pub unmarked_tail : (k b t r : Bool) (d : ℕ) (j g : Bool) (q : Price) (R : List ℕ) → (g ≡ false → unmarked R ≡ true) → unmarked (opt k (bytes ",c") ++ from_average b t r d j g q R) ≡ true
unfolding opt seller_text previous_text past_figures is_figure is_digit is_mark starts pick unmarked
unmarked_tail true b t r d j g q R h = refl
unmarked_tail false true t r d j g q R h = refl
unmarked_tail false false true r d j g q R h = refl
unmarked_tail false false false true d j g q R h = refl
unmarked_tail false false false false d true g q R h = refl
unmarked_tail false false false false d false true q R h = refl
unmarked_tail false false false false d false false q R h = h refl

pub no_volume : (p : Price) (rest : List ℕ) → unmarked rest ≡ true → volume_at (price_text Full p ++ rest) ≡ None
unfolding unmarked
no_volume p rest h = go (volume_at (price_text Full p ++ rest)) refl
  where
    go : (y : Option VolumeRead) → volume_at (price_text Full p ++ rest) ≡ y → y ≡ None
    go None e = refl
    go (Some w) e = absurd (false_true (sym (not-true (is_mark (past_figures rest)) h) ∙ (overlaps p rest w e).mark_there))
