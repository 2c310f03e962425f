-- The volume that is read stands there, and the volumes that are explained print so. Assumes nothing.
use Prim.Native.Nat.{ℕ, zero, suc, ◌+◌, ◌*◌, ◌/◌, ◌%◌, ◌≤◌, ◌<◌}
use native.Mathlib.Omega.{arith}
use mathlib.Core.Path.{◌≡◌, refl, sym, ◌∙◌}
use mathlib.Core.Bool.{Bool, true, false, ◌&&◌, ◌||◌, not}
use mathlib.Core.List.{List, [], ◌++◌}
use lib.ListN.{length, take, drop, length-drop}
use lib.Seq.{take-add}
use lib.Dec.{leb, ltb, eqb}
use borrow.Author.Tests.{eqb-true, ltb-true, leb-true, lt-ltb, le-ltb, eq-eqb, ne_eqb}
use Rattle.std.specs.Prelude.{Some, None}
use Rattle.print_volume.proofs.VolumeBack.{small}
use Rattle.text.specs.Bytes.{bytes}
use Rattle.text.specs.Pick.{pick, same}
use Rattle.text.specs.Reading.{starts}
use Rattle.text.proofs.Texts.{and_left, and_right, same_true}
use Rattle.text.proofs.Booleans.{and_false, or_true}
use Rattle.text.proofs.Parts.{starts_front, starts_within}
use Rattle.rules.specs.Columns.{between}
use Rattle.rules.specs.Volume.{full_volume, is_round, in_shares, in_hundreds, in_tens, volume_text}
use Rattle.read_price.specs.declared.Digits.{Digits}
use Rattle.read_volume.specs.declared.Volume.{Volume}
use Rattle.read_volume.specs.declared.Volume.TheVariants.{Unsaid, Hundreds, Tens, Shares}
use Rattle.read_volume.specs.declared.VolumeRead.{VolumeRead}
use Rattle.read_volume.specs.Volume.{figures_at, said_by, marked_by, volume_at, shares_in, figures_of, said_text, hundreds_explained, tens_explained, shares_explained, explains}
use Rattle.read_volume.proofs.Volumes.{figures_within}

-- ---- a text that stands at the front

-- ---- the volume that is found at the front of s

pub record VolumeFound (s : List ℕ) (v : VolumeRead) : Type 0 where
  pub within : v.used ≤ length s
  pub used : 1 ≤ v.used
  pub small : figures_of v.volume < 1000000000
  pub text : take v.used s ≡ said_text v.volume

-- figures f, and a mark behind them
module _ (s : List ℕ) (f : Digits) (e : f ≡ figures_at s) (mark : List ℕ) (b : starts mark (drop f.count s) ≡ true) (x : Volume) (n : 1 ≤ length mark) (shows : said_text x ≡ full_volume f.value ++ mark) (counts : figures_of x ≡ f.value) where
  found_marked : (v : VolumeRead) → said_by s f x (length mark) ≡ Some v → VolumeFound s v
  unfolding said_by pick
  found_marked v h = go (ltb f.value 1000000000) (same (take f.count s) (full_volume f.value)) refl refl h
    where
      is : (q : VolumeRead) → VolumeFound s q → Some q ≡ Some v → VolumeFound s v
      is q k g = let y : q ≡ v = cc in rw y at k

      go : (c d : Bool) → ltb f.value 1000000000 ≡ c → same (take f.count s) (full_volume f.value) ≡ d → pick (c && d) (Some (record { volume = x; used = f.count + length mark })) None ≡ Some v → VolumeFound s v
      go true true p q g =
          is _
          (record {
            within = omega (arith, starts_within mark (drop f.count s) b, length-drop f.count s, figures_within s f e);
            used = omega (arith, n);
            small = rw counts (ltb-true f.value 1000000000 p);
            text = rw (take-add f.count (length mark) s, same_true (take f.count s) (full_volume f.value) q, starts_front mark (drop f.count s) b) (sym shows);
          })
          g
      go true false p q g = absurd (let y : ◌≡◌ {A = ℕ} 0 1 = cc in omega arith)
      go false d p q g = absurd (let y : ◌≡◌ {A = ℕ} 0 1 = cc in omega arith)

-- WHAT IS READ AS A VOLUME stands there
pub volume_found : (s : List ℕ) (v : VolumeRead) → volume_at s ≡ Some v → VolumeFound s v
unfolding volume_at marked_by said_text figures_of pick
volume_found s v h = hundreds (starts (bytes "s") rest) refl h
  where
    f : Digits
    f = figures_at s

    rest : List ℕ
    rest = drop f.count s

    shares : (c : Bool) → starts (bytes "SHRS") rest ≡ c → pick c (said_by s f (Shares f.value) 4) None ≡ Some v → VolumeFound s v
    shares true b g = found_marked s f refl (bytes "SHRS") b (Shares f.value) (omega arith) refl refl v g
    shares false b g = absurd (let y : ◌≡◌ {A = ℕ} 0 1 = cc in omega arith)

    tens : (c : Bool) → starts (bytes "$") rest ≡ c → pick c (said_by s f (Tens f.value) 1) (pick (starts (bytes "SHRS") rest) (said_by s f (Shares f.value) 4) None) ≡ Some v → VolumeFound s v
    tens true b g = found_marked s f refl (bytes "$") b (Tens f.value) (omega arith) refl refl v g
    tens false b g = shares (starts (bytes "SHRS") rest) refl g

    hundreds : (c : Bool) → starts (bytes "s") rest ≡ c → pick c (said_by s f (Hundreds f.value) 1) (pick (starts (bytes "$") rest) (said_by s f (Tens f.value) 1) (pick (starts (bytes "SHRS") rest) (said_by s f (Shares f.value) 4) None)) ≡ Some v → VolumeFound s v
    hundreds true b g = found_marked s f refl (bytes "s") b (Hundreds f.value) (omega arith) refl refl v g
    hundreds false b g = tens (starts (bytes "$") rest) refl g

module _ (s : List ℕ) (v : VolumeRead) (h : volume_at s ≡ Some v) where
  pub volume_within : v.used ≤ length s
  volume_within = (volume_found s v h).within

  pub volume_used : 1 ≤ v.used
  volume_used = (volume_found s v h).used

  pub volume_small : figures_of v.volume < 1000000000
  volume_small = (volume_found s v h).small

  pub volume_text_lem : take v.used s ≡ said_text v.volume
  volume_text_lem = (volume_found s v h).text

-- ---- the texts of a volume, by network and unit

module _ (network unit v : ℕ) where
  odd_text : is_round unit v ≡ false → volume_text network unit v ≡ in_shares v
  unfolding volume_text pick
  odd_text h = rw h

  b_text : eqb network 66 ≡ true → ltb unit 100 ≡ true → volume_text network unit v ≡ in_shares v
  unfolding volume_text pick
  b_text h k = rw (h, k, or_true (not (is_round unit v)))

  hundred_text : unit ≡ 100 → is_round 100 v ≡ true → volume_text network unit v ≡ in_hundreds v
  unfolding volume_text pick
  hundred_text h k = rw (h, k, and_false (eqb network 66))

  ten_text : eqb network 66 ≡ false → ltb unit 100 ≡ true → is_round unit v ≡ true → volume_text network unit v ≡ in_tens v
  unfolding volume_text pick
  ten_text h k l =
      let u = ltb-true unit 100 k in
      rw (l, h, ne_eqb unit 100 (λ e. omega arith))

-- ---- explained, it prints so

explained_unsaid : (network unit : ℕ) → eqb unit 100 ≡ true → volume_text network unit 100 ≡ []
unfolding in_hundreds is_round pick
explained_unsaid network unit h = hundred_text network unit 100 (eqb-true unit 100 h) refl

module _ (network unit n : ℕ) where
  explained_hundreds : hundreds_explained unit n ≡ true → volume_text network unit (pick (leb n 99) (n * 100) n) ≡ full_volume n ++ bytes "s"
  unfolding hundreds_explained between in_hundreds is_round pick
  explained_hundreds h = go (leb 2 n) (leb n 99) refl refl (and_right (eqb unit 100) _ h)
    where
      u : unit ≡ 100
      u = eqb-true unit 100 (and_left (eqb unit 100) _ h)

      full : leb n 99 ≡ false → (leb 10000 n && eqb (n % 100) 0) ≡ true → volume_text network unit n ≡ full_volume n ++ bytes "s"
      full c g =
          let l = leb-true 10000 n (and_left (leb 10000 n) (eqb (n % 100) 0) g) in
          hundred_text network unit n u (and_right (leb 10000 n) (eqb (n % 100) 0) g) ∙ rw (ne_eqb n 100 (λ e. omega arith), le-ltb n 10000 l)

      few : 2 ≤ n → n ≤ 99 → volume_text network unit (n * 100) ≡ full_volume n ++ bytes "s"
      few l m =
          let r : n * 100 % 100 ≡ 0 = omega arith in
          let d : n * 100 / 100 ≡ n = omega arith in
          hundred_text network unit (n * 100) u (eq-eqb (n * 100 % 100) 0 r) ∙ rw (ne_eqb (n * 100) 100 (λ e. omega arith), lt-ltb (n * 100) 10000 (omega arith), d, small n (omega arith))

      go : (b c : Bool) → leb 2 n ≡ b → leb n 99 ≡ c → ((b && c) || (leb 10000 n && eqb (n % 100) 0)) ≡ true → volume_text network unit (pick c (n * 100) n) ≡ full_volume n ++ bytes "s"
      go true true b c g = few (leb-true 2 n b) (leb-true n 99 c)
      go true false b c g = full c g
      go false true b c g = let l = leb-true 10000 n (and_left (leb 10000 n) (eqb (n % 100) 0) g) in absurd (omega (arith, leb-true n 99 c))
      go false false b c g = full c g

  explained_tens : tens_explained network unit n ≡ true → volume_text network unit (pick (leb n 999) (n * 10) n) ≡ full_volume n ++ bytes "$"
  unfolding tens_explained between in_tens is_round pick
  explained_tens h = go (leb 1 n) (leb n 999) refl refl (and_right (ltb unit 100) _ (and_right (eqb network 65) _ h))
    where
      a : eqb network 66 ≡ false
      a = ne_eqb network 66 (λ e. omega (arith, eqb-true network 65 (and_left (eqb network 65) _ h)))

      u : ltb unit 100 ≡ true
      u = and_left (ltb unit 100) _ (and_right (eqb network 65) _ h)

      full : leb n 999 ≡ false → (leb 10000 n && is_round unit n) ≡ true → volume_text network unit n ≡ full_volume n ++ bytes "$"
      full c g = ten_text network unit n a u (and_right (leb 10000 n) (is_round unit n) g) ∙ rw (le-ltb n 10000 (leb-true 10000 n (and_left (leb 10000 n) (is_round unit n) g)))

      few : 1 ≤ n → n ≤ 999 → is_round unit (n * 10) ≡ true → volume_text network unit (n * 10) ≡ full_volume n ++ bytes "$"
      few l m g =
          let r : n * 10 % 10 ≡ 0 = omega arith in
          let d : n * 10 / 10 ≡ n = omega arith in
          ten_text network unit (n * 10) a u g ∙ rw (lt-ltb (n * 10) 10000 (omega arith), r, d, small n (omega arith))

      round : (x : Bool) → leb n 999 ≡ true → (x || (leb 10000 n && is_round unit n)) ≡ true → x ≡ true
      round true c g = refl
      round false c g = let l = leb-true 10000 n (and_left (leb 10000 n) (is_round unit n) g) in absurd (omega (arith, leb-true n 999 c))

      go : (b c : Bool) → leb 1 n ≡ b → leb n 999 ≡ c → (((b && c) && is_round unit (n * 10)) || (leb 10000 n && is_round unit n)) ≡ true → volume_text network unit (pick c (n * 10) n) ≡ full_volume n ++ bytes "$"
      go true true b c g = few (leb-true 1 n b) (leb-true n 999 c) (round (is_round unit (n * 10)) c g)
      go true false b c g = full c g
      go false true b c g = let z : ◌≡◌ {A = Bool} false true = round false c g in absurd (let y : ◌≡◌ {A = ℕ} 0 1 = cc in omega arith)
      go false false b c g = full c g

  explained_shares : shares_explained network unit n ≡ true → volume_text network unit n ≡ full_volume n ++ bytes "SHRS"
  unfolding shares_explained in_shares in_tens pick
  explained_shares h = go (is_round unit n) (eqb network 66) refl refl (and_right (leb 1 n) _ h)
    where
      few : is_round unit n ≡ true → eqb network 66 ≡ false → ltb unit 100 ≡ true → (ltb n 10000 && not (eqb (n % 10) 0)) ≡ true → volume_text network unit n ≡ full_volume n ++ bytes "SHRS"
      few r a u g = ten_text network unit n a u r ∙ rw (and_left (ltb n 10000) _ g, not_yes (eqb (n % 10) 0) (and_right (ltb n 10000) _ g))
        where
          not_yes : (b : Bool) → not b ≡ true → b ≡ false
          not_yes true e = sym e
          not_yes false e = refl

      go : (r a : Bool) → is_round unit n ≡ r → eqb network 66 ≡ a → (not r || (ltb unit 100 && (a || (ltb n 10000 && not (eqb (n % 10) 0))))) ≡ true → volume_text network unit n ≡ full_volume n ++ bytes "SHRS"
      go false a r e g = odd_text network unit n r
      go true true r e g = b_text network unit n e (and_left (ltb unit 100) _ g)
      go true false r e g = few r e (and_left (ltb unit 100) _ g) (and_right (ltb unit 100) _ g)

-- A VOLUME THAT IS EXPLAINED prints so
pub explained_text : (network unit : ℕ) (v : Volume) → explains network unit v ≡ true → volume_text network unit (shares_in v) ≡ said_text v
unfolding explains shares_in said_text
explained_text network unit Unsaid h = explained_unsaid network unit h
explained_text network unit (Hundreds n) h = explained_hundreds network unit n h
explained_text network unit (Tens n) h = explained_tens network unit n h
explained_text network unit (Shares n) h = explained_shares network unit n h

hundreds_some : (unit n : ℕ) → hundreds_explained unit n ≡ true → 1 ≤ n
unfolding hundreds_explained between
hundreds_some unit zero h = let z : ◌≡◌ {A = Bool} false true = and_right (eqb unit 100) false h in absurd (let y : ◌≡◌ {A = ℕ} 0 1 = cc in omega arith)
hundreds_some unit (suc n) h = omega arith

tens_some : (network unit n : ℕ) → tens_explained network unit n ≡ true → 1 ≤ n
unfolding tens_explained between
tens_some network unit zero h = let z : ◌≡◌ {A = Bool} false true = and_right (ltb unit 100) false (and_right (eqb network 65) _ h) in absurd (let y : ◌≡◌ {A = ℕ} 0 1 = cc in omega arith)
tens_some network unit (suc n) h = omega arith

shares_some : (network unit n : ℕ) → shares_explained network unit n ≡ true → 1 ≤ n
unfolding shares_explained
shares_some network unit n h = leb-true 1 n (and_left (leb 1 n) _ h)

pick_some : (b : Bool) (x y : ℕ) → 1 ≤ x → 1 ≤ y → 1 ≤ pick b x y
unfolding pick
pick_some true x y h k = h
pick_some false x y h k = k

pub explained_some : (network unit : ℕ) (v : Volume) → explains network unit v ≡ true → 1 ≤ shares_in v
unfolding explains shares_in
explained_some network unit Unsaid h = omega arith
explained_some network unit (Hundreds n) h = let l = hundreds_some unit n h in pick_some (leb n 99) (n * 100) n (omega arith) l
explained_some network unit (Tens n) h = let l = tens_some network unit n h in pick_some (leb n 999) (n * 10) n (omega arith) l
explained_some network unit (Shares n) h = shares_some network unit n h

counted_small : (b : Bool) (m n k : ℕ) → k ≤ 999 → leb n k ≡ b → m ≤ n * 1000 → n < 1000000000 → pick b m n < 1000000000
unfolding pick
counted_small true m n k g e h l = omega (arith, leb-true n k e)
counted_small false m n k g e h l = l

pub shares_small : (v : Volume) → figures_of v < 1000000000 → shares_in v < 1000000000
unfolding shares_in figures_of
shares_small Unsaid h = omega arith
shares_small (Hundreds n) h = counted_small (leb n 99) (n * 100) n 99 (omega arith) refl (omega arith) h
shares_small (Tens n) h = counted_small (leb n 999) (n * 10) n 999 (omega arith) refl (omega arith) h
shares_small (Shares n) h = h
