-- Every announcement is found where it stands, whatever follows it. Assumes nothing.
use Prim.Native.Nat.{ℕ, zero, suc, ◌+◌, ◌-◌, ◌*◌, ◌/◌, ◌%◌, ◌≤◌, ◌<◌}
use native.Mathlib.Omega.{arith}
use mathlib.Core.Path.{◌≡◌, refl, sym, ap, ◌∙◌}
use mathlib.Core.Bool.{Bool, true, false, not}
use mathlib.Core.List.{List, [], ◌∷◌, ◌++◌, append_assoc}
use lib.ListN.{length, take, length-append}
use lib.Seq.{take-append-add, take-append-le, drop_at}
use lib.Dec.{eqb, ltb}
use borrow.Author.Tests.{le-leb, le-ltb, ltb-true, ltb-false, eqb-true, not-true}
use Rattle.std.specs.Prelude.{Some}
use Rattle.text.specs.Bytes.{bytes}
use Rattle.text.specs.Pick.{pick, all}
use Rattle.text.specs.Decimal.{decimal, places}
use Rattle.text.specs.Reading.{is_digit, starts}
use Rattle.text.proofs.Texts.{and_left, and_right}
use Rattle.text.proofs.Decimal.{length_places, length_decimal, some_digits}
use Rattle.text.proofs.Reading.{digit_yes, onto, starts_append}
use Rattle.rules.specs.Columns.{between}
use Rattle.rules.specs.Volume.{group, full_volume}
use Rattle.rules.specs.Price.{whole_text}
use Rattle.rules.specs.Announcement.{minimum_dollars, minimum_text, mode_text, level_text}
use Rattle.rules.specs.declared.Mode.{Mode}
use Rattle.rules.specs.declared.Mode.TheVariants.{Normal, Dvd, Rpo, Mpv}
use Rattle.read_announcement.specs.Announced.{Announced, mode, level, with_digit, digits_in, number_at, length_at, length_by, minimum_at, level_at, announced_in, announced_length}

-- ---- digits

digits_digit : (a q : ℕ) (s : List ℕ) → q < 10 → digits_in a ((48 + q) ∷ s) ≡ digits_in (10 * a + q) s
unfolding digits_in with_digit pick
digits_digit a q s h =
    let e : 48 + q - 48 ≡ q = omega arith in
    rw (digit_yes q h, e)

digits_dot : (a : ℕ) (s : List ℕ) → digits_in a (44 ∷ s) ≡ digits_in a s
unfolding digits_in with_digit is_digit pick
digits_dot a s = refl

digits_decimal : (n : ℕ) (s : List ℕ) → digits_in 0 (decimal n ++ s) ≡ digits_in n s
digits_decimal n s = onto digits_in digits_digit n s

two : (a n : ℕ) (s : List ℕ) → digits_in a (places 2 n ++ s) ≡ digits_in (a * 100 + n % 100) s
unfolding places
two a n s = rw (digits_digit a (n / 10 % 10) _ (omega arith), digits_digit _ (n % 10) _ (omega arith)) (ap (λ m. digits_in m s) (omega arith))

three : (a n : ℕ) (s : List ℕ) → digits_in a (places 3 n ++ s) ≡ digits_in (a * 1000 + n % 1000) s
unfolding places
three a n s =
    rw (digits_digit a (n / 10 / 10 % 10) _ (omega arith), digits_digit _ (n / 10 % 10) _ (omega arith), digits_digit _ (n % 10) _ (omega arith)) (ap (λ m. digits_in m s) (omega arith))

-- bytes that are no digits
abbrev other : ℕ → Bool
other c = not (is_digit c)

digits_other : (a c : ℕ) (s : List ℕ) → is_digit c ≡ false → digits_in a (c ∷ s) ≡ digits_in a s
unfolding digits_in with_digit pick
digits_other a c s h = rw h

skipped : (t : List ℕ) (j a : ℕ) → all other t ≡ true → digits_in a (take j t) ≡ a
unfolding digits_in all
skipped t zero a h = refl
skipped [] (suc j) a h = refl
skipped (c ∷ t) (suc j) a h = digits_other a c (take j t) (not-true (is_digit c) (and_left (other c) (all other t) h)) ∙ skipped t j a (and_right (other c) (all other t) h)

none_more : (t s : List ℕ) (j a : ℕ) → all other t ≡ true → j ≤ length t → digits_in a (take j (t ++ s)) ≡ a
none_more t s j a h k = rw (take-append-le j t s k) (skipped t j a h)

-- a text cut off behind its first part
cut_behind : (k : ℕ) (t u : List ℕ) → length t ≤ k → take k (t ++ u) ≡ t ++ take (k - length t) u
cut_behind k t u h = let e : k ≡ length t + (k - length t) = omega arith in ap (λ j. take j (t ++ u)) e ∙ take-append-add t u (k - length t)

-- ---- a text of three parts: the begin, figures that are worth a, and an end without figures

module _ (first figures last s : List ℕ) where
  number_back : (k a : ℕ) → length first ≡ 29 → length figures ≤ k → k ≤ length figures + length last → ((u : List ℕ) → digits_in 0 (figures ++ u) ≡ digits_in a u) → all other last ≡ true
      → number_at k (first ++ (figures ++ (last ++ s))) ≡ a
  unfolding number_at pick
  number_back k a e h l d o =
      let m = length-append figures (last ++ s) in
      let n = length-append last s in
      rw (le-ltb (length (first ++ (figures ++ (last ++ s)))) (29 + k) (rw length-append (omega arith)), drop_at first (figures ++ (last ++ s)) 29 e, cut_behind k figures (last ++ s) h, d)
      (none_more last s (k - length figures) a o (omega arith))

by_back : (low high : ℕ) (text : ℕ → List ℕ) (n : ℕ) (s : List ℕ) → low ≤ n → n ≤ high → length_by low high text n (text n ++ s) ≡ Some (length (text n))
unfolding length_by between length_at pick
by_back low high text n s h k = rw (le-leb low n h, le-leb n high k, starts_append (text n) s)

-- ---- a volume delete level

volume_digits : (n : ℕ) (s : List ℕ) → n < 1000000 → digits_in 0 (full_volume n ++ s) ≡ digits_in n s
unfolding full_volume pick group
volume_digits n s h = go (ltb n 10000) (ltb n 1000000) refl refl
  where
    go : (b c : Bool) → ltb n 10000 ≡ b → ltb n 1000000 ≡ c → digits_in 0 (full_volume n ++ s) ≡ digits_in n s
    go true c e f = rw (e, digits_decimal n s)
    go false true e f = rw (e, f, append_assoc, digits_decimal, digits_dot (n / 1000) (places 3 n ++ s), three) (ap (λ m. digits_in m s) (omega arith))
    go false false e f = absurd (omega (arith, ltb-false n 1000000 f))

volume_length : (n : ℕ) → n ≤ 100000 → (1 ≤ length (full_volume n)) × (length (full_volume n) ≤ 7)
unfolding full_volume pick group
volume_length n h = go (ltb n 10000) (ltb n 1000000) refl refl
  where
    go : (b c : Bool) → ltb n 10000 ≡ b → ltb n 1000000 ≡ c → (1 ≤ length (full_volume n)) × (length (full_volume n) ≤ 7)
    go true c e f =
        let l = length_decimal 3 n (omega (arith, ltb-true n 10000 e)) in
        let m = some_digits n in
        rw e ((omega arith, omega arith))
    go false true e f =
        let l = length_decimal 2 (n / 1000) (omega arith) in
        let m = some_digits (n / 1000) in
        rw (e, f, length-append, length_places 3 n) ((omega arith, omega arith))
    go false false e f = absurd (omega (arith, ltb-false n 1000000 f))

level_whole : (n : ℕ) (s : List ℕ) → level_text n ++ s ≡ bytes "<<<VOLUME.DELETE.LEVEL.IS.NOW" ++ (full_volume n ++ (bytes "SHRS>>" ++ s))
unfolding level_text
level_whole n s = simp append_assoc

level_at_lem : (n : ℕ) (s : List ℕ) → 5000 ≤ n → n ≤ 100000 → level_at (level_text n ++ s) ≡ Some (length (level_text n))
unfolding level_at all is_digit
level_at_lem n s h k =
    let l = volume_length n k in
    let e : number_at 7 (level_text n ++ s) ≡ n = rw (level_whole n s) (number_back (bytes "<<<VOLUME.DELETE.LEVEL.IS.NOW") (full_volume n) (bytes "SHRS>>") s 7 n refl l.1 (omega arith) (λ u. volume_digits n u (omega arith)) refl) in
    rw e (by_back 5000 100000 level_text n s h k)

level_first : (u : List ℕ) → announced_length (bytes "<<<VOLUME.DELETE.LEVEL.IS.NOW" ++ u) ≡ level_at (bytes "<<<VOLUME.DELETE.LEVEL.IS.NOW" ++ u)
unfolding announced_length announced_in starts pick
level_first u = refl

level_back : (n : ℕ) (s : List ℕ) → 5000 ≤ n → n ≤ 100000 → announced_length (level_text n ++ s) ≡ Some (length (level_text n))
level_back n s h k =
    ap announced_length (level_whole n s) ∙ (level_first (full_volume n ++ (bytes "SHRS>>" ++ s)) ∙ (ap level_at (sym (level_whole n s)) ∙ level_at_lem n s h k))

-- ---- an MPV level

whole_digits : (w : ℕ) (s : List ℕ) → digits_in 0 (whole_text w ++ (bytes "," ++ s)) ≡ digits_in w s
unfolding whole_text pick
whole_digits w s = go (eqb w 0) refl
  where
    go : (b : Bool) → eqb w 0 ≡ b → digits_in 0 (pick b [] (decimal w) ++ (44 ∷ s)) ≡ digits_in w s
    go true e = digits_dot 0 s ∙ ap (λ a. digits_in a s) (sym (eqb-true w 0 e))
    go false e = digits_decimal w (44 ∷ s) ∙ digits_dot w s

dollars_digits : (n : ℕ) (s : List ℕ) → digits_in 0 (minimum_dollars n ++ s) ≡ digits_in (5 * n) s
unfolding minimum_dollars
dollars_digits n s =
    rw (append_assoc, append_assoc, whole_digits (5 * n / 100) (places 2 (5 * n) ++ s), two) (ap (λ m. digits_in m s) (omega arith))

whole_length : (w : ℕ) → w < 10 → length (whole_text w) ≤ 1
unfolding whole_text pick
whole_length w h = go (eqb w 0)
  where
    go : (b : Bool) → length (pick b [] (decimal w)) ≤ 1
    go true = omega arith
    go false = length_decimal 0 w (omega arith)

dollars_length : (n : ℕ) → n ≤ 100 → (3 ≤ length (minimum_dollars n)) × (length (minimum_dollars n) ≤ 4)
unfolding minimum_dollars
dollars_length n h =
    let l = whole_length (5 * n / 100) (omega arith) in
    rw (length-append, length-append, length_places 2 (5 * n)) ((omega arith, omega arith))

minimum_whole : (n : ℕ) (s : List ℕ) → minimum_text n ++ s ≡ bytes "<<<MIN.PRICE.CHGS.OMITTED.NOW" ++ (minimum_dollars n ++ (bytes ">>" ++ s))
unfolding minimum_text
minimum_whole n s = simp append_assoc

minimum_at_lem : (n : ℕ) (s : List ℕ) → 1 ≤ n → n ≤ 100 → minimum_at (minimum_text n ++ s) ≡ Some (length (minimum_text n))
unfolding minimum_at all is_digit
minimum_at_lem n s h k =
    let l = dollars_length n k in
    let e : number_at 4 (minimum_text n ++ s) ≡ 5 * n = rw (minimum_whole n s) (number_back (bytes "<<<MIN.PRICE.CHGS.OMITTED.NOW") (minimum_dollars n) (bytes ">>") s 4 (5 * n) refl l.1 (omega arith) (dollars_digits n) refl) in
    let f : number_at 4 (minimum_text n ++ s) / 5 ≡ n = rw e (omega arith) in
    rw f (by_back 1 100 minimum_text n s h k)

minimum_first : (u : List ℕ) → announced_length (bytes "<<<MIN.PRICE.CHGS.OMITTED.NOW" ++ u) ≡ minimum_at (bytes "<<<MIN.PRICE.CHGS.OMITTED.NOW" ++ u)
unfolding announced_length announced_in starts pick
minimum_first u = refl

minimum_back : (n : ℕ) (s : List ℕ) → 1 ≤ n → n ≤ 100 → announced_length (minimum_text n ++ s) ≡ Some (length (minimum_text n))
minimum_back n s h k =
    ap announced_length (minimum_whole n s) ∙ (minimum_first (minimum_dollars n ++ (bytes ">>" ++ s)) ∙ (ap minimum_at (sym (minimum_whole n s)) ∙ minimum_at_lem n s h k))

-- ---- EVERY ANNOUNCEMENT IS FOUND

mode_back : (m : Mode) (n : ℕ) (s : List ℕ) → 1 ≤ n → n ≤ 100 → announced_length (mode_text m n ++ s) ≡ Some (length (mode_text m n))
unfolding announced_length announced_in mode_text starts pick
mode_back Normal n s h k = refl
mode_back Dvd n s h k = refl
mode_back Rpo n s h k = refl
mode_back Mpv n s h k = minimum_back n s h k

pub announced_back : (t s : List ℕ) → Announced t → announced_length (t ++ s) ≡ Some (length t)
announced_back t s (mode m n h k e) = rw e (mode_back m n s h k)
announced_back t s (level n h k e) = rw e (level_back n s h k)

pub announced_some : (t : List ℕ) → Announced t → 0 < length t
unfolding mode_text minimum_text level_text
announced_some t (mode Normal n h k e) = rw e (omega arith)
announced_some t (mode Dvd n h k e) = rw e (omega arith)
announced_some t (mode Rpo n h k e) = rw e (omega arith)
announced_some t (mode Mpv n h k e) = rw e (omega arith)
announced_some t (level n h k e) = rw e (omega arith)

-- at most 42 bytes
pub announced_most : (t : List ℕ) → Announced t → length t ≤ 42
unfolding mode_text minimum_text level_text
announced_most t (mode Normal n h k e) = rw e (omega arith)
announced_most t (mode Dvd n h k e) = rw e (omega arith)
announced_most t (mode Rpo n h k e) = rw e (omega arith)
announced_most t (mode Mpv n h k e) = rw (e, length-append, length-append) (omega (arith, (dollars_length n k).1))
announced_most t (level n h k e) = rw (e, length-append, length-append) (omega (arith, (volume_length n k).1))

-- so either text fits 42 bytes
pub minimum_fits : (n : ℕ) → 1 ≤ n → n ≤ 100 → length (minimum_text n) ≤ 42
unfolding mode_text
minimum_fits n h k = announced_most (minimum_text n) (mode Mpv n h k refl)

pub level_fits : (n : ℕ) → 5000 ≤ n → n ≤ 100000 → length (level_text n) ≤ 42
level_fits n h k = announced_most (level_text n) (level n h k refl)
