-- THE READER'S THEOREM: the answer at a place is the longest normal print there. Assumes nothing.
use Prim.Native.Nat.{ℕ, ◌+◌, ◌-◌, ◌≤◌}
use native.Mathlib.Omega.{arith}
use mathlib.Core.Path.{◌≡◌, refl, sym, ap, ◌∙◌, subst}
use mathlib.Core.Bool.{Bool, true, false, ◌&&◌}
use mathlib.Core.List.{List, [], ◌∷◌, ◌++◌, append_assoc}
use lib.Dec.{leb}
use mathlib.Core.Option.{Option as Maybe, none, some}
use lib.ListN.{length, take, drop}
use Rattle.std.specs.Prelude.{Option, Some, None, Result, Ok, Err}
use Rattle.claim_decoder.proofs.Fresh.{letter_unlike}
use Rattle.claim_decoder.proofs.Undone.{mode_starts, level_starts}
use Rattle.text.specs.Bytes.{bytes}
use Rattle.text.specs.Pick.{pick, opt}
use Rattle.text.proofs.Tests.{is_le}
use Rattle.rules.specs.Columns.{between}
use Rattle.rules.specs.Price.{price_text}
use Rattle.rules.specs.Volume.{volume_text}
use Rattle.rules.specs.Side.{tail_text}
use Rattle.rules.specs.declared.Side.{Side}
use Rattle.line_owed.specs.Shown.{Showable}
use Rattle.read_side.specs.declared.SideRead.{SideRead}
use Rattle.read_side.specs.Side.{side_at}
use Rattle.text.specs.Reading.{starts}
use Rattle.rules.specs.Names.{name_text}
use Rattle.rules.specs.Conditions.{after_name}
use Rattle.rules.specs.Side.{head_text, side_text}
use Rattle.rules.specs.NormalPrint.{ReadFact}
use Rattle.line_owed.specs.Shown.{Enterable}
use Rattle.line_owed.proofs.Below.{in_range}
use Rattle.claim_compose.specs.Printable.{part_in, Printable, by_trade}
use Rattle.rules.specs.Correction.{cancel_text}
use Rattle.read_name.specs.Head.{head_at}
use Rattle.read_name.specs.declared.NameRead.{NameRead}
use Rattle.claim_names.proofs.Head.{HeadTold, head_told}
use Rattle.reader.specs.declared.PrintRead.{PrintRead}
use Rattle.reader.specs.declared.Print.TheVariants.{Announcement, Trade, Cancel, Error, Correction}
use Rattle.rules.specs.declared.Refusal.TheVariants.{NoPrint}
use Rattle.reader.specs.Read.{trade_side, trade_head, trade_at, end_at}
use Rattle.claim_normal.proofs.Views.{printable_as}
use Rattle.rules.specs.Correction.{repeats_name, correction_text}
use Rattle.rules.specs.Line.{alike}
use Rattle.read_name.specs.Head.{again_at}
use Rattle.read_name.specs.declared.AgainRead.{AgainRead}
use Rattle.text.specs.Reading.{heads}
use Rattle.name_back.proofs.Back.{name_head}
use Rattle.text.proofs.Parts.{heads_append}
use Rattle.text.proofs.Booleans.{and_both, false_true}
use Rattle.rules.specs.Tape.{is_letter}
use Rattle.rules.specs.Announcement.{mode_text, level_text}
use Rattle.rules.specs.Correction.{cancel_opening, error_opening}
use Rattle.rules.specs.NormalPrint.{NormalPrint, read_announcement, read_cancel, read_error, read_correction}
use Rattle.rules.specs.declared.Refusal.{Refusal}
use Rattle.read_announcement.specs.Announced.{Announced, mode, level, announced_length}
use Rattle.read_announcement.proofs.Sound.{announced_told}
use Rattle.read_announcement.proofs.Back.{announced_back}
use Rattle.claim_compose.specs.Printable.{by_mode, by_level, by_cancel, by_error, by_correction}
use Rattle.claim_compose.proofs.Prints.{printable_normal}
use Rattle.claim_normal.proofs.Normal.{normal_printable}
use Rattle.reader.specs.Read.{ended_by, cancel_side, cancel_head, cancel_at, amended, corrected_by, second_side, second_head, second_at, correction_side, correction_head, correction_at, announced_by, print_at, read_at}
use Rattle.reader.specs.Told.{length_of, name_from, name_length, name_in, name_at, fact_in}
use Rattle.reader.specs.declared.Print.{Print}
use Rattle.claim_longest.specs.Claim.{Longest}
use Rattle.claim_longest.proofs.Sound.{trade_printable, cancel_told_lem}
use Rattle.claim_longest.proofs.CorrectionSound.{correction_told_lem}
use Rattle.claim_longest.proofs.TradeBack.{trade_reaches}
use Rattle.claim_longest.proofs.CancelBack.{cancel_reaches}
use Rattle.claim_longest.proofs.CorrectionBack.{correction_reaches}
use Rattle.rules.specs.declared.PriceForm.TheVariants.{Full}

-- ---- what an answer tells

data Tells (s : List ℕ) : Result Print Refusal → Type 0 where
  nothing : (r : Refusal) → Tells s (Err r)
  something : (r : Result Print Refusal) (fact : ReadFact) → fact_in s r ≡ some fact → Printable (take (length_of r) s) (name_in s r) fact → Tells s r

minus_none : (n : ℕ) → n ≡ n - 0
minus_none n = omega arith

less : (n m : ℕ) → n + m - n ≡ m
less n m = omega arith

-- ---- trades

trade_something : (s : List ℕ) (h : NameRead) → HeadTold true s h → (x : SideRead) → side_at None h.letters h.a h.b (drop h.used s) ≡ Ok x → Tells s (Ok (Trade (record { length = h.used + x.taken.used; from = 0; to = h.length; side = x.taken.side })))
unfolding fact_in length_of name_in name_length name_from
trade_something s h k x e = something _ _ refl (printable_as (trade_printable s h k x e) refl (ap (λ n. take n s) (minus_none h.length)) refl)

trade_side_tells : (s : List ℕ) (h : NameRead) → HeadTold true s h → (y : Result SideRead Refusal) → side_at None h.letters h.a h.b (drop h.used s) ≡ y → Tells s (trade_side h y)
unfolding trade_side
trade_side_tells s h k (Err q) e = nothing NoPrint
trade_side_tells s h k (Ok x) e = trade_something s h k x e

trade_head_tells : (s : List ℕ) (y : Option NameRead) → head_at true s ≡ y → Tells s (trade_head s y)
unfolding trade_head
trade_head_tells s None e = nothing NoPrint
trade_head_tells s (Some h) e = trade_side_tells s h (head_told true s h e) (side_at None h.letters h.a h.b (drop h.used s)) refl

trade_tells : (s : List ℕ) → Tells s (trade_at s)
unfolding trade_at
trade_tells s = trade_head_tells s (head_at true s) refl

-- ---- cancels and errors

-- of or_cases opening
module _ (error : Bool) (opening s : List ℕ) (six : length opening ≡ 6) (opens : starts opening s ≡ true) (kind : Side → ReadFact)
    (by_kind : (network unit : ℕ) (name : List ℕ) (x : Side) → Enterable network unit name → Showable network x → Printable (cancel_text opening (name_text false name) network unit Full true x) (name_text false name) (kind x))
    (told : (x : PrintRead) → Printable (take x.length s) (take (x.to - x.from) (drop x.from s)) (kind x.side) → Tells s (amended error x)) where
  cancel_something : (h : NameRead) → HeadTold false (drop 6 s) h → (x : SideRead) → side_at None h.letters h.a h.b (drop (6 + h.used) s) ≡ Ok x → (end : Option ℕ) → end_at s (6 + h.used + x.taken.used) x.taken.side ≡ end → Tells s (ended_by error h x.taken.side end)
  unfolding ended_by
  cancel_something h k x e None f = nothing NoPrint
  cancel_something h k x e (Some m) f =
      let t = cancel_told_lem opening s six opens h k x e m f in
      told _ (printable_as (by_kind t.network t.unit t.name x.taken.side t.enters t.shows) t.text (t.named ∙ ap (λ n. take n (drop 6 s)) (sym (less 6 h.length))) refl)

  cancel_side_tells : (h : NameRead) → HeadTold false (drop 6 s) h → (y : Result SideRead Refusal) → side_at None h.letters h.a h.b (drop (6 + h.used) s) ≡ y → Tells s (cancel_side s error h y)
  unfolding cancel_side
  cancel_side_tells h k (Err q) e = nothing NoPrint
  cancel_side_tells h k (Ok x) e = cancel_something h k x e (end_at s (6 + h.used + x.taken.used) x.taken.side) refl

  cancel_head_tells : (y : Option NameRead) → head_at false (drop 6 s) ≡ y → Tells s (cancel_head s error y)
  unfolding cancel_head
  cancel_head_tells None e = nothing NoPrint
  cancel_head_tells (Some h) e = cancel_side_tells h (head_told false (drop 6 s) h e) (side_at None h.letters h.a h.b (drop (6 + h.used) s)) refl

  cancel_tells : Tells s (cancel_at s error)
  unfolding cancel_at
  cancel_tells = cancel_head_tells (head_at false (drop 6 s)) refl

told_cancel : (s : List ℕ) (x : PrintRead) → Printable (take x.length s) (take (x.to - x.from) (drop x.from s)) (read_cancel (part_in x.side)) → Tells s (amended false x)
unfolding amended fact_in length_of name_in name_length name_from
told_cancel s x p = something (Ok (Cancel x)) _ refl p

told_error : (s : List ℕ) (x : PrintRead) → Printable (take x.length s) (take (x.to - x.from) (drop x.from s)) (read_error (part_in x.side)) → Tells s (amended true x)
unfolding amended fact_in length_of name_in name_length name_from
told_error s x p = something (Ok (Error x)) _ refl p

-- ---- corrections

module _ (s : List ℕ) (opens : starts (bytes "<<CORR.") s ≡ true) where
  corrected_tells : (h : NameRead) (x y : Side) (end : Option ℕ) → ((m : ℕ) → end ≡ Some m → Printable (take m s) (take h.length (drop 7 s)) (read_correction (part_in x) (part_in y))) → Tells s (corrected_by h x y end)
  unfolding corrected_by fact_in length_of name_in name_length name_from
  corrected_tells h x y None p = nothing NoPrint
  corrected_tells h x y (Some m) p = something _ _ refl (printable_as (p m refl) refl (ap (λ n. take n (drop 7 s)) (sym (less 7 h.length))) refl)

  module _ (h : NameRead) (k : HeadTold false (drop 7 s) h) (x : SideRead) (e : side_at None h.letters h.a h.b (drop (7 + h.used) s) ≡ Ok x) (was : starts (bytes "WAS.") (drop (7 + h.used + x.taken.used) s) ≡ true) where
    module _ (g : AgainRead) (f : again_at (take h.length (drop 7 s)) (drop (7 + h.used + x.taken.used + 4) s) ≡ Some g) where
      correction_print_lem : (y : SideRead) → side_at (Some x.volume) g.letters x.taken.a x.taken.b (drop (7 + h.used + x.taken.used + 4 + g.used) s) ≡ Ok y → alike (repeats_name y.taken.side.letters) (leb 1 g.used) ≡ true → (m : ℕ) → end_at s (7 + h.used + x.taken.used + 4 + g.used + y.taken.used) y.taken.side ≡ Some m → Printable (take m s) (take h.length (drop 7 s)) (read_correction (part_in x.taken.side) (part_in y.taken.side))
      correction_print_lem y d q m z =
          let t = correction_told_lem s opens h k x e was g f y d q m z in
          printable_as (by_correction t.on t.trades_in t.entered_name x.taken.side y.taken.side t.enters t.shows_original t.shows_correcting) t.text t.named refl

      duly_tells : (y : SideRead) → side_at (Some x.volume) g.letters x.taken.a x.taken.b (drop (7 + h.used + x.taken.used + 4 + g.used) s) ≡ Ok y → (b : Bool) → alike (repeats_name y.taken.side.letters) (leb 1 g.used) ≡ b → Tells s (pick b (corrected_by h x.taken.side y.taken.side (end_at s (7 + h.used + x.taken.used + 4 + g.used + y.taken.used) y.taken.side)) (Err NoPrint))
      unfolding pick
      duly_tells y d true q = corrected_tells h x.taken.side y.taken.side (end_at s (7 + h.used + x.taken.used + 4 + g.used + y.taken.used) y.taken.side) (λ m z. correction_print_lem y d q m z)
      duly_tells y d false q = nothing NoPrint

      second_side_tells : (y : Result SideRead Refusal) → side_at (Some x.volume) g.letters x.taken.a x.taken.b (drop (7 + h.used + x.taken.used + 4 + g.used) s) ≡ y → Tells s (second_side s h x.taken.side (7 + h.used + x.taken.used + 4 + g.used) g.used y)
      unfolding second_side
      second_side_tells (Err q) d = nothing NoPrint
      second_side_tells (Ok y) d = duly_tells y d (alike (repeats_name y.taken.side.letters) (leb 1 g.used)) refl

    second_head_tells : (y : Option AgainRead) → again_at (take h.length (drop 7 s)) (drop (7 + h.used + x.taken.used + 4) s) ≡ y → Tells s (second_head s h x (7 + h.used + x.taken.used + 4) y)
    unfolding second_head
    second_head_tells None f = nothing NoPrint
    second_head_tells (Some g) f = second_side_tells g f (side_at (Some x.volume) g.letters x.taken.a x.taken.b (drop (7 + h.used + x.taken.used + 4 + g.used) s)) refl

  second_tells : (h : NameRead) → HeadTold false (drop 7 s) h → (x : SideRead) → side_at None h.letters h.a h.b (drop (7 + h.used) s) ≡ Ok x → (b : Bool) → starts (bytes "WAS.") (drop (7 + h.used + x.taken.used) s) ≡ b
      → Tells s (pick b (second_head s h x (7 + h.used + x.taken.used + 4) (again_at (take h.length (drop 7 s)) (drop (7 + h.used + x.taken.used + 4) s))) (Err NoPrint))
  unfolding pick
  second_tells h k x e true w = second_head_tells h k x e w (again_at (take h.length (drop 7 s)) (drop (7 + h.used + x.taken.used + 4) s)) refl
  second_tells h k x e false w = nothing NoPrint

  correction_side_tells : (h : NameRead) → HeadTold false (drop 7 s) h → (y : Result SideRead Refusal) → side_at None h.letters h.a h.b (drop (7 + h.used) s) ≡ y → Tells s (correction_side s h y)
  unfolding correction_side second_at
  correction_side_tells h k (Err q) e = nothing NoPrint
  correction_side_tells h k (Ok x) e = second_tells h k x e (starts (bytes "WAS.") (drop (7 + h.used + x.taken.used) s)) refl

  correction_head_tells : (y : Option NameRead) → head_at false (drop 7 s) ≡ y → Tells s (correction_head s y)
  unfolding correction_head
  correction_head_tells None e = nothing NoPrint
  correction_head_tells (Some h) e = correction_side_tells h (head_told false (drop 7 s) h e) (side_at None h.letters h.a h.b (drop (7 + h.used) s)) refl

  correction_tells : Tells s (correction_at s)
  unfolding correction_at
  correction_tells = correction_head_tells (head_at false (drop 7 s)) refl

-- ---- announcements

announced_printable : (s : List ℕ) (n : ℕ) → Announced (take n s) → Printable (take n s) [] (read_announcement (take n s))
unfolding between
announced_printable s n (mode m k l u e) = printable_as (by_mode m k (and_both (sym (is_le 1 k l)) (sym (is_le k 100 u)))) (sym e) refl (ap read_announcement (sym e))
announced_printable s n (level k l u e) = printable_as (by_level k (and_both (sym (is_le 5000 k l)) (sym (is_le k 100000 u)))) (sym e) refl (ap read_announcement (sym e))

announcement_by : (s : List ℕ) (r : Option ℕ) → announced_length s ≡ r → Tells s (announced_by r)
unfolding announced_by fact_in length_of name_in name_length name_from
announcement_by s None e = nothing NoPrint
announcement_by s (Some n) e = something _ _ refl (announced_printable s n (announced_told s n e))

announcement_tells : (s : List ℕ) → Tells s (announced_by (announced_length s))
announcement_tells s = announcement_by s (announced_length s) refl

-- ---- any print

any_tells : (s : List ℕ) (a b : Bool) → starts (bytes "<<CORR.") s ≡ b → (c : Bool) → starts (bytes "<<CXL.") s ≡ c → (d : Bool) → starts (bytes "<<ERR.") s ≡ d
    → Tells s (pick a (announced_by (announced_length s)) (pick b (correction_at s) (pick c (cancel_at s false) (pick d (cancel_at s true) (trade_at s)))))
unfolding pick
any_tells s true b e c f d g = announcement_tells s
any_tells s false true e c f d g = correction_tells s e
any_tells s false false e true f d g = cancel_tells false cancel_opening s refl f (λ x. read_cancel (part_in x)) (λ n u m x e h. by_cancel n u m x e h) (told_cancel s)
any_tells s false false e false f true g = cancel_tells true error_opening s refl g (λ x. read_error (part_in x)) (λ n u m x e h. by_error n u m x e h) (told_error s)
any_tells s false false e false f false g = trade_tells s

print_tells : (s : List ℕ) → Tells s (print_at s)
unfolding print_at
print_tells s = any_tells s (starts (bytes "<<<") s) (starts (bytes "<<CORR.") s) refl (starts (bytes "<<CXL.") s) refl (starts (bytes "<<ERR.") s) refl

-- ---- whatever one line can print is reached

-- by the first text that stands
first_announced : (s : List ℕ) → starts (bytes "<<<") s ≡ true → print_at s ≡ announced_by (announced_length s)
unfolding print_at pick
first_announced s a = rw a

first_correction : (s : List ℕ) → starts (bytes "<<<") s ≡ false → starts (bytes "<<CORR.") s ≡ true → print_at s ≡ correction_at s
unfolding print_at pick
first_correction s a b = rw (a, b)

first_cancel : (s : List ℕ) → starts (bytes "<<<") s ≡ false → starts (bytes "<<CORR.") s ≡ false → starts (bytes "<<CXL.") s ≡ true → print_at s ≡ cancel_at s false
unfolding print_at pick
first_cancel s a b c = rw (a, b, c)

first_error : (s : List ℕ) → starts (bytes "<<<") s ≡ false → starts (bytes "<<CORR.") s ≡ false → starts (bytes "<<CXL.") s ≡ false → starts (bytes "<<ERR.") s ≡ true → print_at s ≡ cancel_at s true
unfolding print_at pick
first_error s a b c d = rw (a, b, c, d)

first_trade : (s : List ℕ) → starts (bytes "<<<") s ≡ false → starts (bytes "<<CORR.") s ≡ false → starts (bytes "<<CXL.") s ≡ false → starts (bytes "<<ERR.") s ≡ false → print_at s ≡ trade_at s
unfolding print_at pick
first_trade s a b c d = rw (a, b, c, d)

-- a letter is no mark
mark_no_letter : is_letter 60 ≡ false
unfolding is_letter
mark_no_letter = refl

pub not_mark : (p : List ℕ) (s : List ℕ) → heads is_letter s ≡ true → starts (60 ∷ p) s ≡ false
unfolding starts
not_mark p [] h = refl
not_mark p (c ∷ s) h = ap (λ b. b && starts p s) (letter_unlike 60 c h mark_no_letter)

announced_length_lem : (t R : List ℕ) → Announced t → starts (bytes "<<<") (t ++ R) ≡ true → length t ≤ length_of (print_at (t ++ R))
unfolding announced_by length_of
announced_length_lem t R a s = rw (first_announced (t ++ R) s, announced_back t R a) (omega arith)

front_first : (n a v p t r : List ℕ) → ((n ++ a) ++ v ++ p ++ t) ++ r ≡ n ++ (a ++ (v ++ (p ++ (t ++ r))))
front_first n a v p t r = simp append_assoc

module _ (network unit : ℕ) (name : List ℕ) (e : Enterable network unit name) where
  pub trade_letter : (x : Side) (R : List ℕ) → heads is_letter (side_text (name_text true name) network unit Full true x ++ R) ≡ true
  unfolding side_text head_text opt
  trade_letter x R = ap (heads is_letter) (front_first (name_text true name) (after_name x.letters) (volume_text network unit x.volume) (price_text Full x.price) (tail_text x) R) ∙ heads_append is_letter (name_text true name) _ (name_head network name e.plain true)

  cancel_first : (x : Side) (R : List ℕ) → print_at (cancel_text cancel_opening (name_text false name) network unit Full true x ++ R) ≡ cancel_at (cancel_text cancel_opening (name_text false name) network unit Full true x ++ R) false
  unfolding cancel_text starts
  cancel_first x R = first_cancel (cancel_text cancel_opening (name_text false name) network unit Full true x ++ R) refl refl refl

  error_first : (x : Side) (R : List ℕ) → print_at (cancel_text error_opening (name_text false name) network unit Full true x ++ R) ≡ cancel_at (cancel_text error_opening (name_text false name) network unit Full true x ++ R) true
  unfolding cancel_text starts
  error_first x R = first_error (cancel_text error_opening (name_text false name) network unit Full true x ++ R) refl refl refl refl

  correction_first : (x y : Side) (R : List ℕ) → print_at (correction_text (name_text false name) network unit Full true x y ++ R) ≡ correction_at (correction_text (name_text false name) network unit Full true x y ++ R)
  unfolding correction_text starts
  correction_first x y R = first_correction (correction_text (name_text false name) network unit Full true x y ++ R) refl refl

  trade_reached : (x : Side) → Showable network x → (R : List ℕ) → length (side_text (name_text true name) network unit Full true x) ≤ length_of (print_at (side_text (name_text true name) network unit Full true x ++ R))
  unfolding length_of
  trade_reached x h R =
      let s = side_text (name_text true name) network unit Full true x ++ R in
      let l = trade_letter x R in
      let r = trade_reaches network unit name x e h R in
      rw (first_trade s (not_mark _ s l) (not_mark _ s l) (not_mark _ s l) (not_mark _ s l), r.is) r.far

  cancel_reached : (x : Side) → Showable network x → (R : List ℕ) → length (cancel_text cancel_opening (name_text false name) network unit Full true x) ≤ length_of (print_at (cancel_text cancel_opening (name_text false name) network unit Full true x ++ R))
  unfolding length_of amended
  cancel_reached x h R =
      let r = cancel_reaches false cancel_opening refl network unit name x e h R in
      rw (cancel_first x R, r.is) r.far

  error_reached : (x : Side) → Showable network x → (R : List ℕ) → length (cancel_text error_opening (name_text false name) network unit Full true x) ≤ length_of (print_at (cancel_text error_opening (name_text false name) network unit Full true x ++ R))
  unfolding length_of amended
  error_reached x h R =
      let r = cancel_reaches true error_opening refl network unit name x e h R in
      rw (error_first x R, r.is) r.far

  correction_reached : (x y : Side) → Showable network x → Showable network y → (R : List ℕ) → length (correction_text (name_text false name) network unit Full true x y) ≤ length_of (print_at (correction_text (name_text false name) network unit Full true x y ++ R))
  unfolding length_of
  correction_reached x y h i R =
      let r = correction_reaches network unit name x y e h i R in
      rw (correction_first x y R, r.is) r.far

print_reaches : {t n : List ℕ} {f : ReadFact} → Printable t n f → (R : List ℕ) → length t ≤ length_of (print_at (t ++ R))
print_reaches (by_mode m n h) R = let k = in_range 1 100 n h in announced_length_lem (mode_text m n) R (mode m n k.0 k.1 refl) (mode_starts m n R)
print_reaches (by_level n h) R = let k = in_range 5000 100000 n h in announced_length_lem (level_text n) R (level n k.0 k.1 refl) (level_starts n R)
print_reaches (by_trade network unit name x e h) R = trade_reached network unit name e x h R
print_reaches (by_cancel network unit name x e h) R = cancel_reached network unit name e x h R
print_reaches (by_error network unit name x e h) R = error_reached network unit name e x h R
print_reaches (by_correction network unit name x y e h i) R = correction_reached network unit name e x y h i R

has_fact : Maybe ReadFact → Bool
has_fact (some f) = true
has_fact none = false

pub no_fact : (f : ReadFact) → none ≡ some f → ⊥
unfolding has_fact
no_fact f e = false_true (ap has_fact e)

the_fact : Maybe ReadFact → ReadFact
the_fact (some f) = f
the_fact none = read_announcement []

some_same_fact : {f g : ReadFact} → some f ≡ some g → f ≡ g
unfolding the_fact
some_same_fact e = ap the_fact e

-- no facts, no length
pub no_length : (s : List ℕ) (r : Result Print Refusal) → fact_in s r ≡ none → length_of r ≡ 0
unfolding fact_in length_of
no_length s (Ok (Announcement n)) e = absurd (no_fact _ (sym e))
no_length s (Ok (Trade x)) e = absurd (no_fact _ (sym e))
no_length s (Ok (Cancel x)) e = absurd (no_fact _ (sym e))
no_length s (Ok (Error x)) e = absurd (no_fact _ (sym e))
no_length s (Ok (Correction x)) e = absurd (no_fact _ (sym e))
no_length s (Err r) e = refl

told_normal : (s : List ℕ) (r : Result Print Refusal) → Tells s r → (fact : ReadFact) → fact_in s r ≡ some fact → NormalPrint (take (length_of r) s) (name_in s r) fact
unfolding fact_in
told_normal s (Err q) (nothing _) fact e = absurd (no_fact fact e)
told_normal s r (something _ f g p) fact e = subst (NormalPrint (take (length_of r) s) (name_in s r)) (some_same_fact (sym g ∙ e)) (printable_normal p)

reaches : (s text name rest : List ℕ) (fact : ReadFact) → NormalPrint text name fact → s ≡ text ++ rest → length text ≤ length_of (print_at s)
reaches s text name rest fact p e = rw e (print_reaches (normal_printable p) rest)

too_short : (n m : ℕ) → 1 ≤ n → n ≤ m → m ≡ 0 → ⊥
too_short n m h k e = omega (h, k, e, arith)

-- THE ANSWER IS THE LONGEST NORMAL PRINT AT THE PLACE
pub longest_print_lem : (tape : List ℕ) (place : ℕ) → Longest tape place
unfolding read_at name_at
longest_print_lem tape place =
    let s = drop place tape in
    record {
      told = λ fact e. told_normal s (print_at s) (print_tells s) fact e;
      longest = λ text name rest fact p e. reaches s text name rest fact p e;
      refused = λ e text name rest fact p q. too_short (length text) (length_of (print_at s)) p.some_text (reaches s text name rest fact p q) (no_length s (print_at s) e);
    }
