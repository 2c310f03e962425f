-- A volume that is shown comes back from its text, whatever follows it. Assumes nothing.
use Prim.Native.Nat.{ℕ, zero, suc, ◌+◌, ◌-◌, ◌*◌, ◌/◌, ◌%◌, ◌≤◌, ◌<◌}
use native.Mathlib.Omega.{arith}
use mathlib.Core.Path.{◌≡◌, refl, sym, ap, ◌∙◌}
use mathlib.Core.Bool.{Bool, true, false, ◌&&◌, ◌||◌, not}
use mathlib.Core.List.{List, [], ◌∷◌, ◌++◌, append_assoc}
use lib.ListN.{length, drop, length-append}
use lib.Seq.{take-append_seam, drop-append_seam}
use lib.Dec.{ltb, eqb}
use borrow.Author.Tests.{eqb-true, eqb-false, ltb-true, ltb-false, lt-ltb, le-leb, eq-eqb, ne_eqb, not-false}
use Rattle.std.specs.Prelude.{Some}
use Rattle.text.specs.Bytes.{bytes}
use Rattle.text.specs.Pick.{pick, among}
use Rattle.text.specs.Reading.{found, heads, is_digit, dot_digit, starts}
use Rattle.text.proofs.Texts.{same_refl}
use Rattle.text.proofs.Booleans.{or_left, or_right, or_true}
use Rattle.rules.specs.Columns.{between}
use Rattle.rules.specs.Line.{is_network, is_unit}
use Rattle.rules.specs.Volume.{full_volume, is_round, volume_text}
use Rattle.print_volume.specs.Reading.{Figure, digit, dot, stop, figure, figures, Mark, hundreds, tens, shares, mark_text, Shown, unsaid, said, shares_of, shown_of, shown_text}
use Rattle.print_volume.proofs.VolumeBack.{figures_volume, figures_stop, volume_shown, shares_back, Within, said_within, shown_within}
use Rattle.read_price.specs.declared.Digits.{Digits}
use Rattle.read_volume.specs.declared.Volume.{Volume}
use Rattle.read_volume.specs.declared.Volume.TheVariants.{Unsaid, Hundreds, Tens, Shares}
use Rattle.read_volume.specs.declared.VolumeRead.{VolumeRead}
use Rattle.read_volume.specs.Volume.{figures_onto, figures_at, said_by, marked_by, volume_at, shares_in, hundreds_explained, tens_explained, shares_explained, explains}
use Rattle.read_volume.proofs.Volumes.{volume_long}

-- ---- figures with a limit, and without

module _ (a c : ℕ) (s : List ℕ) where
  read_digit : figure c s ≡ digit → figures a (c ∷ s) ≡ figures (10 * a + (c - 48)) s
  unfolding figures
  read_digit e = rw (e, figures)

  read_dot : figure c s ≡ dot → figures a (c ∷ s) ≡ figures a s
  unfolding figures
  read_dot e = rw (e, figures)

  read_stop : figure c s ≡ stop → figures a (c ∷ s) ≡ found a (c ∷ s)
  unfolding figures
  read_stop e = rw (e, figures)

  module _ (k j : ℕ) where
    onto_digit : figure c s ≡ digit → figures_onto (suc k) a j (c ∷ s) ≡ figures_onto k (10 * a + (c - 48)) (suc j) s
    unfolding figures_onto
    onto_digit e = rw (e, figures_onto)

    onto_dot : figure c s ≡ dot → figures_onto (suc k) a j (c ∷ s) ≡ figures_onto k a (suc j) s
    unfolding figures_onto
    onto_dot e = rw (e, figures_onto)

    onto_stop : figure c s ≡ stop → figures_onto (suc k) a j (c ∷ s) ≡ record { count = j; value = a }
    unfolding figures_onto
    onto_stop e = rw (e, figures_onto)

rest_within : (a : ℕ) (s : List ℕ) → length (figures a s).rest ≤ length s
unfolding figures
rest_within a [] = omega arith
rest_within a (c ∷ s) = go (figure c s) refl (rest_within (10 * a + (c - 48)) s) (rest_within a s)
  where
    go : (x : Figure) → figure c s ≡ x → length (figures (10 * a + (c - 48)) s).rest ≤ length s → length (figures a s).rest ≤ length s → length (figures a (c ∷ s)).rest ≤ suc (length s)
    go digit e h k = rw (read_digit a c s e) (omega arith)
    go dot e h k = rw (read_dot a c s e) (omega arith)
    go stop e h k = rw (read_stop a c s e) (omega arith)

-- n bytes of figures are within the limit k
onto_figures : (k a j n : ℕ) (s : List ℕ) → length s ≡ n + length (figures a s).rest → n < k → figures_onto k a j s ≡ record { count = j + n; value = (figures a s).got }
unfolding figures figures_onto
onto_figures zero a j n s h l = absurd (omega arith)
onto_figures (suc k) a j n [] h l = ap (λ m. record { count = m; value = a }) (omega arith)
onto_figures (suc k) a j n (c ∷ s) h l = go (figure c s) refl (λ m p q. onto_figures k (10 * a + (c - 48)) (suc j) m s p q) (λ m p q. onto_figures k a (suc j) m s p q)
  where
    Ih : ℕ → Type 0
    Ih b = (m : ℕ) → length s ≡ m + length (figures b s).rest → m < k → figures_onto k b (suc j) s ≡ record { count = suc j + m; value = (figures b s).got }

    on : (b : ℕ) → Ih b → figures a (c ∷ s) ≡ figures b s → figures_onto k b (suc j) s ≡ record { count = j + n; value = (figures a (c ∷ s)).got }
    on b ih e =
        let p : suc (length s) ≡ n + length (figures b s).rest = rw e at h in
        let w = rest_within b s in
        let t = ih (n - 1) (omega arith) (omega arith) in
        let z : suc j + (n - 1) ≡ j + n = omega arith in
        rw e (t ∙ ap (λ m. record { count = m; value = (figures b s).got }) z)

    go : (x : Figure) → figure c s ≡ x → Ih (10 * a + (c - 48)) → Ih a → figures_onto (suc k) a j (c ∷ s) ≡ record { count = j + n; value = (figures a (c ∷ s)).got }
    go digit e d i = onto_digit a c s k j e ∙ on (10 * a + (c - 48)) d (read_digit a c s e)
    go dot e d i = onto_dot a c s k j e ∙ on a i (read_dot a c s e)
    go stop e d i =
        let r = read_stop a c s e in
        let p : suc (length s) ≡ n + suc (length s) = rw r at h in
        let z : j ≡ j + n = omega arith in
        onto_stop a c s k j e ∙ rw r (ap (λ m. record { count = m; value = a }) z)

pub figures_again : (n : ℕ) (s : List ℕ) → n < 1000000000 → heads is_digit s ≡ false → dot_digit s ≡ false → figures_at (full_volume n ++ s) ≡ record { count = length (full_volume n); value = n }
figures_again n s h d e =
    let r : figures 0 (full_volume n ++ s) ≡ found n s = figures_volume n s h ∙ figures_stop n s d e in
    let l : length (full_volume n ++ s) ≡ length (full_volume n) + length (figures 0 (full_volume n ++ s)).rest = rw r (length-append (full_volume n) s) in
    let z : 0 + length (full_volume n) ≡ length (full_volume n) = omega arith in
    onto_figures 12 0 0 (length (full_volume n)) (full_volume n ++ s) l (omega (arith, volume_long n h)) ∙ rw (r, z)

-- ---- a volume's text and what follows

unfoldable pub volume_of : Shown → Volume
volume_of unsaid = Unsaid
volume_of (said n hundreds) = Hundreds n
volume_of (said n tens) = Tens n
volume_of (said n shares) = Shares n

said_again : (n : ℕ) (s : List ℕ) (v : Volume) (k : ℕ) → n < 1000000000 → said_by (full_volume n ++ s) (record { count = length (full_volume n); value = n }) v k ≡ Some (record { volume = v; used = length (full_volume n) + k })
unfolding said_by pick
said_again n s v k h = rw (lt-ltb n 1000000000 h, take-append_seam (full_volume n) s, same_refl (full_volume n))

marked_again : (x : List ℕ) (f : Digits) → figures_at x ≡ f → volume_at x ≡ marked_by x f (drop f.count x)
unfolding volume_at
marked_again x f e = rw e

mark_ends : (m : Mark) (s : List ℕ) → (heads is_digit (mark_text m ++ s) ≡ false) × (dot_digit (mark_text m ++ s) ≡ false)
unfolding mark_text is_digit dot_digit
mark_ends hundreds s = (refl, refl)
mark_ends tens s = (refl, refl)
mark_ends shares s = (refl, refl)

mark_again : (n : ℕ) (m : Mark) (s : List ℕ) → n < 1000000000 → marked_by (full_volume n ++ (mark_text m ++ s)) (record { count = length (full_volume n); value = n }) (mark_text m ++ s) ≡ Some (record { volume = volume_of (said n m); used = length (full_volume n) + length (mark_text m) })
unfolding marked_by mark_text volume_of starts pick
mark_again n hundreds s h = said_again n (bytes "s" ++ s) (Hundreds n) 1 h
mark_again n tens s h = said_again n (bytes "$" ++ s) (Tens n) 1 h
mark_again n shares s h = said_again n (bytes "SHRS" ++ s) (Shares n) 4 h

pub shown_again : (n : ℕ) (m : Mark) (s : List ℕ) → n < 1000000000 → volume_at ((full_volume n ++ mark_text m) ++ s) ≡ Some (record { volume = volume_of (said n m); used = length (full_volume n ++ mark_text m) })
shown_again n m s h =
    let e = mark_ends m s in
    rw (append_assoc (full_volume n) (mark_text m) s, length-append (full_volume n) (mark_text m))
    (marked_again _ _ (figures_again n (mark_text m ++ s) h e.0 e.1) ∙ (ap (marked_by (full_volume n ++ (mark_text m ++ s)) (record { count = length (full_volume n); value = n })) (drop-append_seam (full_volume n) (mark_text m ++ s)) ∙ mark_again n m s h))

-- ---- what is shown of a volume

shares_of_lem : (x : Shown) → shares_in (volume_of x) ≡ shares_of x
unfolding shares_in shares_of volume_of
shares_of_lem unsaid = refl
shares_of_lem (said n hundreds) = refl
shares_of_lem (said n tens) = refl
shares_of_lem (said n shares) = refl

unit_below : (unit : ℕ) → is_unit unit ≡ true → (unit ≡ 100 → ⊥) → unit < 100
unfolding is_unit among
unit_below unit h n = go (eqb unit 1) (eqb unit 10) (eqb unit 25) (eqb unit 50) (eqb unit 100) refl refl refl refl refl h
  where
    go : (a b c d e : Bool) → eqb unit 1 ≡ a → eqb unit 10 ≡ b → eqb unit 25 ≡ c → eqb unit 50 ≡ d → eqb unit 100 ≡ e → (a || (b || (c || (d || (e || false))))) ≡ true → unit < 100
    go true b c d e p q r s t k = omega (arith, eqb-true unit 1 p)
    go false true c d e p q r s t k = omega (arith, eqb-true unit 10 q)
    go false false true d e p q r s t k = omega (arith, eqb-true unit 25 r)
    go false false false true e p q r s t k = omega (arith, eqb-true unit 50 s)
    go false false false false true p q r s t k = absurd (n (eqb-true unit 100 t))
    go false false false false false p q r s t k = absurd (let y : ◌≡◌ {A = ℕ} 0 1 = cc in omega arith)

network_a : (network : ℕ) → is_network network ≡ true → eqb network 66 ≡ false → network ≡ 65
unfolding is_network among
network_a network h k = go (eqb network 65) refl (rw k at h)
  where
    go : (b : Bool) → eqb network 65 ≡ b → (b || (false || false)) ≡ true → network ≡ 65
    go true e g = eqb-true network 65 e
    go false e g = absurd (let y : ◌≡◌ {A = ℕ} 0 1 = cc in omega arith)

module _ (network unit v : ℕ) (a : is_network network ≡ true) (u : is_unit unit ≡ true) (o : 1 ≤ v) where
  by_shares : (not (is_round unit v) || (eqb network 66 && ltb unit 100)) ≡ true → shares_explained network unit v ≡ true
  unfolding shares_explained
  by_shares h = rw (le-leb 1 v o) (go (is_round unit v) (eqb network 66) (ltb unit 100) h)
    where
      go : (r n l : Bool) → (not r || (n && l)) ≡ true → (not r || (l && (n || (ltb v 10000 && not (eqb (v % 10) 0))))) ≡ true
      go false n l g = refl
      go true true true g = refl
      go true true false g = g
      go true false l g = absurd (let y : ◌≡◌ {A = ℕ} 0 1 = cc in omega arith)

  -- unit 100
  module _ (h : unit ≡ 100) (r : v % 100 ≡ 0) where
    by_hundreds : (v ≡ 100 → ⊥) → v < 10000 → hundreds_explained unit (v / 100) ≡ true
    unfolding hundreds_explained between
    by_hundreds n l = rw (eq-eqb unit 100 h, le-leb 2 (v / 100) (omega (arith, n)), le-leb (v / 100) 99 (omega arith))

    by_full : 10000 ≤ v → hundreds_explained unit v ≡ true
    unfolding hundreds_explained
    by_full l = rw (eq-eqb unit 100 h, le-leb 10000 v l, eq-eqb (v % 100) 0 r) (or_true (between 2 99 v))

  -- network A, unit below 100
  module _ (h : eqb network 66 ≡ false) (k : unit < 100) (r : is_round unit v ≡ true) where
    by_tens : v < 10000 → v % 10 ≡ 0 → tens_explained network unit (v / 10) ≡ true
    unfolding tens_explained between
    by_tens l m =
        let d : v / 10 * 10 ≡ v = omega arith in
        rw (eq-eqb network 65 (network_a network a h), lt-ltb unit 100 k, le-leb 1 (v / 10) (omega arith), le-leb (v / 10) 999 (omega arith), d, r)

    by_full_tens : 10000 ≤ v → tens_explained network unit v ≡ true
    unfolding tens_explained
    by_full_tens l = rw (eq-eqb network 65 (network_a network a h), lt-ltb unit 100 k, le-leb 10000 v l, r) (or_true (between 1 999 v && is_round unit (v * 10)))

    by_few_shares : v < 10000 → (v % 10 ≡ 0 → ⊥) → shares_explained network unit v ≡ true
    unfolding shares_explained
    by_few_shares l m = rw (le-leb 1 v o, r, lt-ltb unit 100 k, h, lt-ltb v 10000 l, ne_eqb (v % 10) 0 m)

  explained_again : explains network unit (volume_of (shown_of network unit v)) ≡ true
  unfolding explains shown_of volume_of is_round pick
  explained_again = go (not (is_round unit v) || (eqb network 66 && ltb unit 100)) (eqb unit 100) refl refl
    where
      over : (b : Bool) → ltb v 10000 ≡ b → unit ≡ 100 → v % 100 ≡ 0 → (v ≡ 100 → ⊥) → explains network unit (volume_of (pick b (said (v / 100) hundreds) (said v hundreds))) ≡ true
      over true e h r n = by_hundreds h r n (ltb-true v 10000 e)
      over false e h r n = by_full h r (ltb-false v 10000 e)

      hundred : (b : Bool) → eqb v 100 ≡ b → unit ≡ 100 → v % 100 ≡ 0 → explains network unit (volume_of (pick b unsaid (pick (ltb v 10000) (said (v / 100) hundreds) (said v hundreds)))) ≡ true
      hundred true e h r = eq-eqb unit 100 h
      hundred false e h r = over (ltb v 10000) refl h r (eqb-false v 100 e)

      below : (b : Bool) → eqb (v % 10) 0 ≡ b → eqb network 66 ≡ false → unit < 100 → is_round unit v ≡ true → v < 10000 → explains network unit (volume_of (pick b (said (v / 10) tens) (said v shares))) ≡ true
      below true e h k r l = by_tens h k r l (eqb-true (v % 10) 0 e)
      below false e h k r l = by_few_shares h k r l (eqb-false (v % 10) 0 e)

      ten : (b : Bool) → ltb v 10000 ≡ b → eqb network 66 ≡ false → unit < 100 → is_round unit v ≡ true → explains network unit (volume_of (pick b (pick (eqb (v % 10) 0) (said (v / 10) tens) (said v shares)) (said v tens))) ≡ true
      ten true e h k r = below (eqb (v % 10) 0) refl h k r (ltb-true v 10000 e)
      ten false e h k r = by_full_tens h k r (ltb-false v 10000 e)

      round : (not (is_round unit v) || (eqb network 66 && ltb unit 100)) ≡ false → is_round unit v ≡ true
      round e = not-false (is_round unit v) (or_left (not (is_round unit v)) _ e)

      other : (n l : Bool) → (n && l) ≡ false → l ≡ true → n ≡ false
      other true l e f = sym f ∙ e
      other false l e f = refl

      go : (x b : Bool) → (not (is_round unit v) || (eqb network 66 && ltb unit 100)) ≡ x → eqb unit 100 ≡ b → explains network unit (volume_of (pick x (said v shares) (pick b (pick (eqb v 100) unsaid (pick (ltb v 10000) (said (v / 100) hundreds) (said v hundreds))) (pick (ltb v 10000) (pick (eqb (v % 10) 0) (said (v / 10) tens) (said v shares)) (said v tens))))) ≡ true
      go true b e f = by_shares e
      go false true e f = let h = eqb-true unit 100 f in hundred (eqb v 100) refl h (rw (← h) (eqb-true (v % unit) 0 (round e)))
      go false false e f =
          let k = unit_below unit u (eqb-false unit 100 f) in
          ten (ltb v 10000) refl (other (eqb network 66) (ltb unit 100) (or_right (not (is_round unit v)) _ e) (lt-ltb unit 100 k)) k (round e)

-- ---- the whole

pub record VolumeAgain (network unit v : ℕ) (s : List ℕ) : Type 0 where
  pub got : VolumeRead
  pub read : volume_at (volume_text network unit v ++ s) ≡ Some got
  pub exact : got.used ≡ length (volume_text network unit v)
  pub shares_are : shares_in got.volume ≡ v
  pub by_unit : explains network unit got.volume ≡ true

again_shown : (x : Shown) (s : List ℕ) → Within x → (shown_text x ≡ [] → ⊥) → volume_at (shown_text x ++ s) ≡ Some (record { volume = volume_of x; used = length (shown_text x) })
unfolding shown_text
again_shown unsaid s w h = absurd (h refl)
again_shown (said n m) s (said_within w) h = shown_again n m s w

-- THE VOLUME COMES BACK, where it is shown
pub volume_again : (network unit v : ℕ) → is_network network ≡ true → is_unit unit ≡ true → 1 ≤ v → v < 1000000000 → (volume_text network unit v ≡ [] → ⊥) → (s : List ℕ) → VolumeAgain network unit v s
volume_again network unit v a u o l h s =
    let e = volume_shown network unit v in
    let x = shown_of network unit v in
    record {
      got = record { volume = volume_of x; used = length (shown_text x) };
      read = rw e (again_shown x s (shown_within network unit v l) (λ q. h (e ∙ q)));
      exact = ap length (sym e);
      shares_are = shares_of_lem x ∙ shares_back network unit v;
      by_unit = explained_again network unit v a u o;
    }

some_text : (n : ℕ) (m : Mark) → shown_text (said n m) ≡ [] → ⊥
unfolding shown_text mark_text
some_text n m h = omega (arith, ap length h, length-append (full_volume n) (mark_text m), mark_some m)
  where
    mark_some : (m : Mark) → 1 ≤ length (mark_text m)
    mark_some hundreds = omega arith
    mark_some tens = omega arith
    mark_some shares = omega arith

-- nothing is shown of 100 at unit 100 alone
pub volume_empty : (network unit v : ℕ) → volume_text network unit v ≡ [] → (unit ≡ 100) × (v ≡ 100)
unfolding shown_of pick
volume_empty network unit v h = go (not (is_round unit v) || (eqb network 66 && ltb unit 100)) (eqb unit 100) (eqb v 100) refl refl (sym (volume_shown network unit v) ∙ h)
  where
    either : (b : Bool) (n k : ℕ) (m o : Mark) → shown_text (pick b (said n m) (said k o)) ≡ [] → ⊥
    either true n k m o g = some_text n m g
    either false n k m o g = some_text k o g

    three : (b c : Bool) → shown_text (pick b (pick c (said (v / 10) tens) (said v shares)) (said v tens)) ≡ [] → ⊥
    three true c g = either c (v / 10) v tens shares g
    three false c g = some_text v tens g

    go : (a b c : Bool) → eqb unit 100 ≡ b → eqb v 100 ≡ c → shown_text (pick a (said v shares) (pick b (pick c unsaid (pick (ltb v 10000) (said (v / 100) hundreds) (said v hundreds))) (pick (ltb v 10000) (pick (eqb (v % 10) 0) (said (v / 10) tens) (said v shares)) (said v tens)))) ≡ [] → (unit ≡ 100) × (v ≡ 100)
    go true b c e f g = absurd (some_text v shares g)
    go false true true e f g = (eqb-true unit 100 e, eqb-true v 100 f)
    go false true false e f g = absurd (either (ltb v 10000) (v / 100) v hundreds hundreds g)
    go false false c e f g = absurd (three (ltb v 10000) (eqb (v % 10) 0) g)
