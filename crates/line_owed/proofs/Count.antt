-- Four columns hold at most four letters. Assumes nothing.
use Prim.Native.Nat.{ℕ, ◌+◌, ◌≤◌}
use native.Mathlib.Omega.{arith}
use mathlib.Core.Path.{◌≡◌, refl, sym, ap, ◌∙◌}
use mathlib.Core.Bool.{Bool, true, false, ◌||◌, not}
use mathlib.Core.List.{List, [], ◌∷◌}
use lib.Dec.{eqb, leb}
use lib.ListN.{length}
use borrow.Author.Tests.{eqb-true, not-true}
use Rattle.text.specs.Bytes.{bytes}
use Rattle.text.specs.Pick.{pick, among}
use Rattle.text.specs.Reading.{span}
use Rattle.text.proofs.Texts.{and_left, and_right}
use Rattle.text.proofs.Tests.{is_le}
use Rattle.text.proofs.Booleans.{or_left, or_right, eqb_flip}
use Rattle.text.proofs.Parts.{span_short}
use Rattle.rules.specs.Columns.{word, not_blank}
use Rattle.rules.specs.Conditions.{letters_in, unrepeated}
use Rattle.rules.specs.Shown.{shown_letters}
use Rattle.line_owed.specs.Shown.{one, letter_count}

-- how many of the letters stand in the text
counted : List ℕ → List ℕ → ℕ
counted [] w = 0
counted (c ∷ l) w = one (among c w) + counted l w

-- how many of the letters are the byte
hits : ℕ → List ℕ → ℕ
hits b [] = 0
hits b (c ∷ l) = one (eqb c b) + hits b l

one_or : (a b : Bool) → one (a || b) ≤ one a + one b
unfolding pick
one_or true b = omega arith
one_or false b = omega arith

counted_more : (l : List ℕ) (b : ℕ) (w : List ℕ) → counted l (b ∷ w) ≤ hits b l + counted l w
unfolding counted hits among
counted_more [] b w = omega arith
counted_more (c ∷ l) b w = omega (one_or (eqb c b) (among c w), counted_more l b w, arith)

no_hit : (b : ℕ) (l : List ℕ) → among b l ≡ false → hits b l ≡ 0
unfolding hits among pick
no_hit b [] h = refl
no_hit b (c ∷ l) h = rw (eqb_flip b c (or_left (eqb b c) (among b l) h), no_hit b l (or_right (eqb b c) (among b l) h))

hit_once : (b c : ℕ) (l : List ℕ) → eqb c b ≡ true → among c l ≡ false → one (eqb c b) + hits b l ≤ 1
unfolding pick
hit_once b c l e h =
    let z : hits b l ≡ 0 = ap (λ d. hits d l) (sym (eqb-true c b e)) ∙ no_hit c l h in
    rw e (omega (z, arith))

hit_later : (b c : ℕ) (l : List ℕ) → eqb c b ≡ false → hits b l ≤ 1 → one (eqb c b) + hits b l ≤ 1
unfolding pick
hit_later b c l e h = rw e (omega (h, arith))

none_counted : (l : List ℕ) → counted l [] ≤ 0
unfolding counted among pick
none_counted [] = omega arith
none_counted (c ∷ l) = omega (none_counted l, arith)

letters_differ : unrepeated (bytes "OSLNMCKBTRJG") ≡ true
unfolding unrepeated among
letters_differ = refl

all_counted : (w : List ℕ) → counted (bytes "OSLNMCKBTRJG") w ≤ 4
    → one (among 79 w) + (one (among 83 w) + (one (among 76 w) + (one false + (one (among 78 w || among 77 w) + (one false + (one (among 67 w || among 75 w) + (one (among 66 w) + (one (among 84 w) + (one (among 82 w) + (one (among 74 w) + one (among 71 w))))))))))) ≤ 4
unfolding counted pick
all_counted w h = omega (h, one_or (among 78 w) (among 77 w), one_or (among 67 w) (among 75 w), arith)

one_hit : (b : ℕ) (l : List ℕ) → unrepeated l ≡ true → hits b l ≤ 1
unfolding hits unrepeated
one_hit b [] h = omega arith
one_hit b (c ∷ l) h = go (eqb c b) refl (one_hit b l (and_right (not (among c l)) (unrepeated l) h))
  where
    go : (t : Bool) → eqb c b ≡ t → hits b l ≤ 1 → one (eqb c b) + hits b l ≤ 1
    go true e i = hit_once b c l e (not-true (among c l) (and_left (not (among c l)) (unrepeated l) h))
    go false e i = hit_later b c l e i

few : (l : List ℕ) (w : List ℕ) → unrepeated l ≡ true → counted l w ≤ length w
few l [] h = none_counted l
few l (b ∷ w) h = omega (counted_more l b w, one_hit b l h, few l w h, arith)

-- AT MOST FOUR
pub four : (field : List ℕ) → length field ≤ 4 → leb (letter_count (shown_letters (letters_in field))) 4 ≡ true
unfolding letter_count shown_letters letters_in word
four field h =
    let w = (span not_blank field).got in
    let e : counted (bytes "OSLNMCKBTRJG") w ≤ length w = few (bytes "OSLNMCKBTRJG") w letters_differ in
    let f = span_short not_blank field in
    sym (is_le _ 4 (all_counted w (omega (e, f, h, arith))))
