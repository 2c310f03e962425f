-- A volume comes back from its text, whatever the unit and the network. Assumes nothing.
use Prim.Native.Nat.{ℕ, ◌+◌, ◌*◌, ◌-◌, ◌/◌, ◌%◌, ◌<◌}
use native.Mathlib.Omega.{arith}
use mathlib.Core.Path.{◌≡◌, refl, ap, sym, ◌∙◌}
use mathlib.Core.List.{List, [], ◌∷◌, ◌++◌, append_assoc}
use mathlib.Core.Bool.{Bool, true, false, ◌&&◌, ◌||◌, not}
use mathlib.Core.Option.{none, some}
use lib.Dec.{ltb, eqb}
use borrow.Author.Tests.{ltb-true, ltb-false, eqb-true, lt-ltb, le-leb, lt-leb, not-false}
use Rattle.text.specs.Bytes.{bytes}
use Rattle.text.specs.Pick.{pick}
use Rattle.text.specs.Decimal.{decimal, places}
use Rattle.text.specs.Reading.{found, heads, is_digit, starts, past}
use Rattle.text.proofs.Reading.{digit_yes, onto, places_head}
use Rattle.rules.specs.Tape.{is_upper}
use Rattle.rules.specs.Volume.{group, full_volume, is_round, in_shares, in_hundreds, in_tens, volume_text}
use Rattle.print_volume.specs.Reading.{figure, figures, Mark, hundreds, tens, shares, mark_text, mark_at, Shown, unsaid, said, shown_at, read_volume, shares_of, shown_of, shown_text}
use Rattle.text.specs.Reading.{dot_digit}
use Rattle.text.proofs.Booleans.{or_left}

-- ---- figures

pub figures_digit : (a q : ℕ) (s : List ℕ) → q < 10 → figures a ((48 + q) ∷ s) ≡ figures (10 * a + q) s
unfolding figures figure pick
figures_digit a q s h =
    let e : 48 + q - 48 ≡ q = omega arith in
    rw (digit_yes q h, figures, e)

pub figures_dot : (a : ℕ) (s : List ℕ) → heads is_digit s ≡ true → figures a (44 ∷ s) ≡ figures a s
unfolding figures figure is_digit pick
figures_dot a s h = rw (h, figures)

pub figures_stop : (a : ℕ) (s : List ℕ) → heads is_digit s ≡ false → dot_digit s ≡ false → figures a s ≡ found a s
unfolding figures figure dot_digit pick
figures_stop a [] h k = refl
figures_stop a (c ∷ s) h k = rw (h, k, figures)

three : (a n : ℕ) (s : List ℕ) → figures a (places 3 n ++ s) ≡ figures (a * 1000 + n % 1000) s
unfolding places
three a n s =
    rw (figures_digit a (n / 10 / 10 % 10) _ (omega arith), figures_digit _ (n / 10 % 10) _ (omega arith), figures_digit _ (n % 10) _ (omega arith)) (ap (λ m. figures m s) (omega arith))

figures_group : (a n : ℕ) (s : List ℕ) → figures a (group n ++ s) ≡ figures (a * 1000 + n % 1000) s
unfolding group
figures_group a n s = figures_dot a (places 3 n ++ s) (places_head 2 n s) ∙ three a n s

figures_decimal : (n : ℕ) (s : List ℕ) → figures 0 (decimal n ++ s) ≡ figures n s
figures_decimal n s = onto figures figures_digit n s

pub figures_volume : (n : ℕ) (s : List ℕ) → n < 1000000000 → figures 0 (full_volume n ++ s) ≡ figures n s
unfolding full_volume pick
figures_volume n s h = go (ltb n 10000) (ltb n 1000000) refl refl
  where
    go : (b c : Bool) → ltb n 10000 ≡ b → ltb n 1000000 ≡ c → figures 0 (full_volume n ++ s) ≡ figures n s
    go true c e f = rw (e, figures_decimal n s)
    go false true e f = rw (e, f, append_assoc, figures_decimal, figures_group) (ap (λ m. figures m s) (omega arith))
    go false false e f = rw (e, f, append_assoc, append_assoc, figures_decimal, figures_group, figures_group) (ap (λ m. figures m s) (omega arith))

-- ---- the text of what is shown

pub small : (n : ℕ) → n < 10000 → full_volume n ≡ decimal n
unfolding full_volume pick
small n h = rw (lt-ltb n 10000 h)

-- one text for each unit and network
pub volume_shown : (network unit v : ℕ) → volume_text network unit v ≡ shown_text (shown_of network unit v)
unfolding volume_text shown_text shown_of in_shares in_hundreds in_tens mark_text pick
volume_shown network unit v = go (not (is_round unit v) || (eqb network 66 && ltb unit 100)) (eqb unit 100)
  where
    over : (b : Bool) → ltb v 10000 ≡ b → pick b (decimal (v / 100) ++ bytes "s") (full_volume v ++ bytes "s") ≡ shown_text (pick b (said (v / 100) hundreds) (said v hundreds))
    over true e = let l = ltb-true v 10000 e in rw (small (v / 100) (omega arith))
    over false e = refl

    hundred : (b : Bool) → pick b [] (pick (ltb v 10000) (decimal (v / 100) ++ bytes "s") (full_volume v ++ bytes "s")) ≡ shown_text (pick b unsaid (pick (ltb v 10000) (said (v / 100) hundreds) (said v hundreds)))
    hundred true = refl
    hundred false = over (ltb v 10000) refl

    below : (b : Bool) → ltb v 10000 ≡ true → pick b (decimal (v / 10) ++ bytes "$") (full_volume v ++ bytes "SHRS") ≡ shown_text (pick b (said (v / 10) tens) (said v shares))
    below true e = let l = ltb-true v 10000 e in rw (small (v / 10) (omega arith))
    below false e = refl

    ten : (b : Bool) → ltb v 10000 ≡ b → pick b (pick (eqb (v % 10) 0) (decimal (v / 10) ++ bytes "$") (full_volume v ++ bytes "SHRS")) (full_volume v ++ bytes "$") ≡ shown_text (pick b (pick (eqb (v % 10) 0) (said (v / 10) tens) (said v shares)) (said v tens))
    ten true e = below (eqb (v % 10) 0) e
    ten false e = refl

    go : (a b : Bool) → pick a (in_shares v) (pick b (in_hundreds v) (in_tens v)) ≡ shown_text (pick a (said v shares) (pick b (pick (eqb v 100) unsaid (pick (ltb v 10000) (said (v / 100) hundreds) (said v hundreds))) (pick (ltb v 10000) (pick (eqb (v % 10) 0) (said (v / 10) tens) (said v shares)) (said v tens))))
    go true b = refl
    go false true = hundred (eqb v 100)
    go false false = ten (ltb v 10000) refl

-- ---- read back

mark_there : (m : Mark) (s : List ℕ) → heads is_upper s ≡ false → (mark_at (mark_text m ++ s) ≡ some m) × (past (mark_text m) (mark_text m ++ s) ≡ s) × (heads is_digit (mark_text m ++ s) ≡ false) × (dot_digit (mark_text m ++ s) ≡ false)
unfolding mark_at mark_text is_digit dot_digit starts past pick
mark_there hundreds s u = (refl, refl, refl, refl)
mark_there tens s u = (refl, refl, refl, refl)
mark_there shares s u = (rw u, refl, refl, refl)

-- the figures shown are within nine digits
pub data Within : Shown → Type 0 where
  unsaid_within : Within unsaid
  said_within : {n : ℕ} {m : Mark} → n < 1000000000 → Within (said n m)

-- before a rest in the lower row whose own figures no mark follows
pub shown_back : (x : Shown) (s : List ℕ) → Within x → heads is_upper s ≡ false → mark_at (figures 0 s).rest ≡ none → read_volume (shown_text x ++ s) ≡ found x s
unfolding read_volume shown_text shown_at
shown_back unsaid s w u h = rw h
shown_back (said n m) s (said_within w) u h =
    let t = mark_there m s u in
    let e : figures 0 (full_volume n ++ (mark_text m ++ s)) ≡ found n (mark_text m ++ s) = figures_volume n (mark_text m ++ s) w ∙ figures_stop n (mark_text m ++ s) t.2 t.3 in
    rw (append_assoc, e, t.0, t.1)

within_pick : (b : Bool) (x y : Shown) → Within x → Within y → Within (pick b x y)
unfolding pick
within_pick true x y h k = h
within_pick false x y h k = k

pub shown_within : (network unit v : ℕ) → v < 1000000000 → Within (shown_of network unit v)
unfolding shown_of
shown_within network unit v h =
    within_pick _ _ _ (said_within h)
    (within_pick _ _ _
    (within_pick _ _ _ unsaid_within (within_pick _ _ _ (said_within (omega arith)) (said_within h)))
    (within_pick _ _ _ (within_pick _ _ _ (said_within (omega arith)) (said_within h)) (said_within h)))

-- THE VOLUME COMES BACK: what is shown, and by it the number of shares
pub volume_back : (network unit v : ℕ) (s : List ℕ) → v < 1000000000 → heads is_upper s ≡ false → mark_at (figures 0 s).rest ≡ none → read_volume (volume_text network unit v ++ s) ≡ found (shown_of network unit v) s
volume_back network unit v s h u k = rw (volume_shown network unit v) (shown_back (shown_of network unit v) s (shown_within network unit v h) u k)

pub shares_back : (network unit v : ℕ) → shares_of (shown_of network unit v) ≡ v
unfolding shown_of shares_of is_round pick
shares_back network unit v = go (not (is_round unit v) || (eqb network 66 && ltb unit 100)) (eqb unit 100) refl refl
  where
    over : (b : Bool) → ltb v 10000 ≡ b → v % 100 ≡ 0 → shares_of (pick b (said (v / 100) hundreds) (said v hundreds)) ≡ v
    over true e r = let l = ltb-true v 10000 e in rw (le-leb (v / 100) 99 (omega arith)) (omega arith)
    over false e r = let l = ltb-false v 10000 e in rw (lt-leb v 99 (omega arith))

    hundred : (b : Bool) → eqb v 100 ≡ b → v % 100 ≡ 0 → shares_of (pick b unsaid (pick (ltb v 10000) (said (v / 100) hundreds) (said v hundreds))) ≡ v
    hundred true e r = sym (eqb-true v 100 e)
    hundred false e r = over (ltb v 10000) refl r

    below : (b : Bool) → eqb (v % 10) 0 ≡ b → ltb v 10000 ≡ true → shares_of (pick b (said (v / 10) tens) (said v shares)) ≡ v
    below true e f = let l = ltb-true v 10000 f in let r = eqb-true (v % 10) 0 e in rw (le-leb (v / 10) 999 (omega arith)) (omega arith)
    below false e f = refl

    ten : (b : Bool) → ltb v 10000 ≡ b → shares_of (pick b (pick (eqb (v % 10) 0) (said (v / 10) tens) (said v shares)) (said v tens)) ≡ v
    ten true e = below (eqb (v % 10) 0) refl e
    ten false e = let l = ltb-false v 10000 e in rw (lt-leb v 999 (omega arith))

    round : (not (is_round unit v) || (eqb network 66 && ltb unit 100)) ≡ false → eqb unit 100 ≡ true → v % 100 ≡ 0
    round e f = rw (← eqb-true unit 100 f) (eqb-true (v % unit) 0 (not-false (is_round unit v) (or_left (not (is_round unit v)) _ e)))

    go : (a b : Bool) → (not (is_round unit v) || (eqb network 66 && ltb unit 100)) ≡ a → eqb unit 100 ≡ b → shares_of (pick a (said v shares) (pick b (pick (eqb v 100) unsaid (pick (ltb v 10000) (said (v / 100) hundreds) (said v hundreds))) (pick (ltb v 10000) (pick (eqb (v % 10) 0) (said (v / 10) tens) (said v shares)) (said v tens)))) ≡ v
    go true b e f = refl
    go false true e f = hundred (eqb v 100) refl (round e f)
    go false false e f = ten (ltb v 10000) refl
