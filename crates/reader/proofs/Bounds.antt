-- Laws for callers: a print and its name are within the text; past the end of a tape there is no print. Assumes nothing.
use Prim.Native.Nat.{ℕ, ◌+◌, ◌-◌, ◌^◌, ◌≤◌, ◌<◌}
use native.Mathlib.Omega.{arith}
use mathlib.Core.Path.{◌≡◌, refl, sym, ap, ◌∙◌}
use mathlib.Core.Bool.{Bool, true, false}
use mathlib.Core.List.{List, []}
use lib.ListN.{length, take, drop, length-drop, drop_of_length-le}
use lib.Seq.{drop-drop}
use lib.Dec.{leb}
use Rattle.std.specs.Prelude.{Option, Some, None, Result, Ok, Err}
use Rattle.text.specs.Bytes.{bytes}
use Rattle.text.specs.Pick.{pick, same}
use Rattle.text.specs.Reading.{starts}
use Rattle.text.proofs.Parts.{rest_is}
use Rattle.rules.specs.Columns.{between}
use Rattle.rules.specs.Correction.{repeats_name}
use Rattle.rules.specs.Line.{alike}
use Rattle.rules.specs.declared.Refusal.TheVariants.{NoPrint}
use Rattle.rules.specs.declared.Side.{Side}
use Rattle.rules.specs.declared.Refusal.{Refusal}
use Rattle.read_announcement.specs.Announced.{announced_length}
use Rattle.read_announcement.proofs.Sound.{announced_within}
use Rattle.read_name.specs.declared.NameRead.{NameRead}
use Rattle.read_name.specs.Name.{count_of, lawful_root, name_on}
use Rattle.read_name.specs.Head.{sold_in, after_in, name_count, named_by, in_run, head_at, again_at}
use Rattle.read_name.proofs.Bounds.{head_used, head_length}
use Rattle.read_name.specs.declared.AgainRead.{AgainRead}
use Rattle.read_side.specs.declared.SideRead.{SideRead}
use Rattle.read_side.specs.Side.{side_at}
use Rattle.reader.specs.Read.{trade_side, trade_head, trade_at, end_at, ended_by, cancel_side, cancel_head, cancel_at, amended, corrected_by, second_side, second_head, second_at, correction_side, correction_head, correction_at, announced_by, print_at, read_at}
use Rattle.reader.specs.Told.{length_of, name_from, name_length, name_in, name_at}
use Rattle.reader.proofs.Rooms.{name_room, trade_room, both_room, second_room, end_room, was_room, correction_room, cancel_room, error_room}
use Rattle.reader.specs.declared.Print.{Print}

-- ---- a print and its name within the text

pub record Within (s : List ℕ) (r : Result Print Refusal) : Type 0 where
  pub print : length_of r ≤ length s
  pub name : name_from r + name_length r ≤ length s

refused : (s : List ℕ) → Within s (Err NoPrint)
unfolding length_of name_from name_length
refused s = record { print = omega arith; name = omega arith }

chosen : (s : List ℕ) (b : Bool) (x y : Result Print Refusal) → (b ≡ true → Within s x) → (b ≡ false → Within s y) → Within s (pick b x y)
unfolding pick
chosen s true x y h k = h refl
chosen s false x y h k = k refl

-- a trade
module _ (s : List ℕ) (head : Option NameRead) (e : head ≡ head_at true s) where
  trade_side_lem : (h : NameRead) → head ≡ Some h → (side : Result SideRead Refusal) → side ≡ side_at None h.letters h.a h.b (drop h.used s) → Within s (trade_side h side)
  unfolding trade_side length_of name_from name_length
  trade_side_lem h n (Err r) f = refused s
  trade_side_lem h n (Ok x) f = record {
    print = trade_room s true head h e n None h.letters h.a h.b (Ok x) x f refl;
    name = omega (arith, head_used true s h head e n, head_length true s h head e n);
  }

trade_within : (s : List ℕ) (head : Option NameRead) → head ≡ head_at true s → Within s (trade_head s head)
unfolding trade_head
trade_within s None e = refused s
trade_within s (Some h) e = trade_side_lem s (Some h) e h refl (side_at None h.letters h.a h.b (drop h.used s)) refl

-- with its end pair
end_within : (s : List ℕ) (n : ℕ) (x : Side) (m : ℕ) → n ≤ length s → end_at s n x ≡ Some m → m ≤ length s
unfolding end_at pick
end_within s n x m h = go x.letters.g (starts (bytes ">>") (drop n s)) refl
  where
    go : (a b : Bool) → starts (bytes ">>") (drop n s) ≡ b → pick a (Some n) (pick b (Some (n + 2)) None) ≡ Some m → m ≤ length s
    go true b e f = let q : n ≡ m = cc in omega arith
    go false true e f = let q : n + 2 ≡ m = cc in omega (arith, end_room s n true (sym e) refl)
    go false false e f = absurd (let z : ◌≡◌ {A = ℕ} 0 1 = cc in omega arith)

-- a cancel or an error
amended_within : (s : List ℕ) (error : Bool) (h : NameRead) (x : Side) (n : ℕ) → n ≤ length s → 6 + h.length ≤ length s → Within s (amended error (record { length = n; from = 6; to = 6 + h.length; side = x }))
unfolding amended length_of name_from name_length
amended_within s error h x n k l = go error
  where
    m : 6 + (6 + h.length - 6) ≤ length s
    m = omega arith

    go : (b : Bool) → Within s (amended b (record { length = n; from = 6; to = 6 + h.length; side = x }))
    go true = record { print = k; name = m }
    go false = record { print = k; name = m }

ended_within : (s : List ℕ) (error : Bool) (h : NameRead) (x : Side) (n : ℕ) (end : Option ℕ) → end_at s n x ≡ end → n ≤ length s → 6 + h.length ≤ length s → Within s (ended_by error h x end)
unfolding ended_by
ended_within s error h x n None e k l = refused s
ended_within s error h x n (Some m) e k l = amended_within s error h x m (end_within s n x m k e) l

module _ (s : List ℕ) (error : Bool) (room : 6 ≤ length s) where
  cancel_side_lem : (head : Option NameRead) → head ≡ head_at false (drop 6 s) → (h : NameRead) → head ≡ Some h → (side : Result SideRead Refusal) → side ≡ side_at None h.letters h.a h.b (drop (6 + h.used) s) → Within s (cancel_side s error h side)
  unfolding cancel_side
  cancel_side_lem head e h n (Err r) f = refused s
  cancel_side_lem head e h n (Ok x) f = ended_within s error h x.taken.side (6 + h.used + x.taken.used) _ refl (both_room s 6 false head h room e n None h.letters h.a h.b (Ok x) x f refl) (name_room s 6 false head h room e n)

  cancel_head_lem : (head : Option NameRead) → head ≡ head_at false (drop 6 s) → Within s (cancel_head s error head)
  unfolding cancel_head
  cancel_head_lem None e = refused s
  cancel_head_lem (Some h) e = cancel_side_lem (Some h) e h refl (side_at None h.letters h.a h.b (drop (6 + h.used) s)) refl

  cancel_within : Within s (cancel_at s error)
  unfolding cancel_at
  cancel_within = cancel_head_lem (head_at false (drop 6 s)) refl

-- a correction
corrected_within : (s : List ℕ) (h : NameRead) (x y : Side) (n : ℕ) (end : Option ℕ) → end_at s n y ≡ end → n ≤ length s → 7 + h.length ≤ length s → Within s (corrected_by h x y end)
unfolding corrected_by length_of name_from name_length
corrected_within s h x y n None e k l = refused s
corrected_within s h x y n (Some m) e k l = record { print = end_within s n y m k e; name = omega arith }

module _ (s : List ℕ) (h : NameRead) (named : 7 + h.length ≤ length s) where
  second_side_lem : (x : Side) (n u : ℕ) (side : Result SideRead Refusal) → ((y : SideRead) → side ≡ Ok y → n + y.taken.used ≤ length s) → Within s (second_side s h x n u side)
  unfolding second_side
  second_side_lem x n u (Err r) k = refused s
  second_side_lem x n u (Ok y) k = chosen s (alike (repeats_name y.taken.side.letters) (leb 1 u)) (corrected_by h x y.taken.side (end_at s (n + y.taken.used) y.taken.side)) (Err NoPrint) (λ e. corrected_within s h x y.taken.side (n + y.taken.used) _ refl (k y refl) named) (λ e. refused s)

  second_head_lem : (x : SideRead) (n : ℕ) → n ≤ length s → (name : List ℕ) (again : Option AgainRead) → again ≡ again_at name (drop n s) → Within s (second_head s h x n again)
  unfolding second_head
  second_head_lem x n room name None e = refused s
  second_head_lem x n room name (Some g) e =
      second_side_lem x.taken.side (n + g.used) g.used (side_at (Some x.volume) g.letters x.taken.a x.taken.b (drop (n + g.used) s))
      (λ y f. second_room s name n (Some g) g room e refl (Some x.volume) g.letters x.taken.a x.taken.b (side_at (Some x.volume) g.letters x.taken.a x.taken.b (drop (n + g.used) s)) y refl f)

  second_at_lem : (x : SideRead) (n : ℕ) → Within s (second_at s h x n)
  unfolding second_at
  second_at_lem x n =
      chosen s (starts (bytes "WAS.") (drop n s)) _ (Err NoPrint)
      (λ e. second_head_lem x (n + 4) (was_room s n true (sym e) refl) (take h.length (drop 7 s)) (again_at (take h.length (drop 7 s)) (drop (n + 4) s)) refl)
      (λ e. refused s)

module _ (s : List ℕ) (room : 7 ≤ length s) where
  correction_side_lem : (h : NameRead) → 7 + h.length ≤ length s → (side : Result SideRead Refusal) → Within s (correction_side s h side)
  unfolding correction_side
  correction_side_lem h n (Err r) = refused s
  correction_side_lem h n (Ok x) = second_at_lem s h n x (7 + h.used + x.taken.used)

  correction_head_lem : (head : Option NameRead) → head ≡ head_at false (drop 7 s) → Within s (correction_head s head)
  unfolding correction_head
  correction_head_lem None e = refused s
  correction_head_lem (Some h) e = correction_side_lem h (name_room s 7 false (Some h) h room e refl) (side_at None h.letters h.a h.b (drop (7 + h.used) s))

  correction_within : Within s (correction_at s)
  unfolding correction_at
  correction_within = correction_head_lem (head_at false (drop 7 s)) refl

announced_by_lem : (s : List ℕ) (r : Option ℕ) → announced_length s ≡ r → Within s (announced_by r)
unfolding announced_by length_of name_from name_length
announced_by_lem s None e = refused s
announced_by_lem s (Some n) e = record { print = announced_within s n e; name = omega arith }

pub print_within : (s : List ℕ) → Within s (print_at s)
unfolding print_at trade_at
print_within s =
    chosen s (starts (bytes "<<<") s) _ _ (λ e. announced_by_lem s (announced_length s) refl)
    (λ e. chosen s (starts (bytes "<<CORR.") s) _ _ (λ f. correction_within s (correction_room s true (sym f) refl))
    (λ f. chosen s (starts (bytes "<<CXL.") s) _ _ (λ g. cancel_within s false (cancel_room s true (sym g) refl))
    (λ g. chosen s (starts (bytes "<<ERR.") s) _ _ (λ h. cancel_within s true (error_room s true (sym h) refl))
    (λ h. trade_within s (head_at true s) refl))))

-- ---- past the end of a tape

nothing : print_at [] ≡ Err NoPrint
unfolding print_at trade_at trade_head head_at in_run named_by after_in sold_in same name_count count_of name_on lawful_root between starts pick
nothing = refl

-- PAST THE END there is no print
pub past_end : (tape : List ℕ) (place : ℕ) → length tape ≤ place → Err NoPrint ≡ read_at tape place
unfolding read_at
past_end tape place h = rw (drop_of_length-le tape h) (sym nothing)

-- ---- what a caller was answered: r at a place of a tape, its name from f and of n bytes

module _ (tape : List ℕ) (place : ℕ) (r : Result Print Refusal) (e : r ≡ read_at tape place) where
  read_within : Within (drop place tape) r
  unfolding read_at
  read_within = rw e (print_within (drop place tape))

  pub read_length : (n : ℕ) → n ≡ length_of r → place ≤ length tape → place + n ≤ length tape
  read_length n k h = omega (arith, read_within.print, length-drop place tape)

  pub from_fits : (f : ℕ) → f ≡ name_from r → place < length tape → length tape < 2 ^ 64 → place + f < 2 ^ 64
  from_fits f k h m = omega (arith, read_within.name, length-drop place tape)

  module _ (f n : ℕ) (k : f ≡ name_from r) (l : n ≡ name_length r) where
    pub name_within : place < length tape → place + f + n ≤ length tape
    name_within h = omega (arith, read_within.name, length-drop place tape)

    pub to_fits : place < length tape → length tape < 2 ^ 64 → place + f + n < 2 ^ 64
    to_fits h m = omega (arith, name_within h)

    pub name_is : take (place + f + n - (place + f)) (drop (place + f) tape) ≡ name_at tape place
    unfolding name_at name_in
    name_is = let m : place + f + n - (place + f) ≡ n = omega arith in rw (m, k, l, e) (ap (take (name_length (read_at tape place))) (sym (drop-drop (name_from (read_at tape place)) place tape)))

pub no_name_lem : (tape : List ℕ) (place : ℕ) → length tape ≤ place → [] ≡ name_at tape place
unfolding name_at name_in name_length
no_name_lem tape place h = rw (← past_end tape place h)

-- the print, as the code cuts the tape
pub read_is : (tape : List ℕ) (place : ℕ) (r : Result Print Refusal) → r ≡ print_at (take (length tape - place) (drop place tape)) → r ≡ read_at tape place
unfolding read_at
read_is tape place r e = e ∙ ap print_at (rest_is tape place)
