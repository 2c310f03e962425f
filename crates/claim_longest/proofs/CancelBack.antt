-- A cancel or error that one line can print is read whole, at least, where it stands. Assumes nothing.
use Prim.Native.Nat.{ℕ, ◌+◌, ◌≤◌}
use native.Mathlib.Omega.{arith}
use mathlib.Core.Path.{◌≡◌, refl, sym, ap, ◌∙◌}
use mathlib.Core.Bool.{Bool, true, false, not}
use mathlib.Core.List.{List, ◌++◌, append_assoc}
use lib.ListN.{length, drop, length-append}
use lib.Seq.{drop-drop, drop-append_seam}
use Rattle.std.specs.Prelude.{Option, Some, None}
use Rattle.text.specs.Pick.{pick, opt}
use Rattle.text.specs.Reading.{heads}
use Rattle.rules.specs.Tape.{is_upper}
use Rattle.rules.specs.Names.{name_text}
use Rattle.rules.specs.Price.{price_text}
use Rattle.rules.specs.Volume.{volume_text}
use Rattle.rules.specs.Conditions.{after_name}
use Rattle.rules.specs.Side.{head_text, tail_text, side_text}
use Rattle.rules.specs.declared.Side.{Side}
use Rattle.print_side.proofs.SideBack.{side_lower}
use Rattle.line_owed.specs.Shown.{Enterable, Showable}
use Rattle.read_name.specs.Name.{name_on}
use Rattle.read_name.specs.Head.{letters_after, head_at}
use Rattle.claim_names.proofs.Lawful.{name_lawful}
use Rattle.claim_names.proofs.Head.{head_read, head_found}
use Rattle.read_side.specs.Side.{side_at}
use Rattle.reader.specs.declared.PrintRead.{PrintRead}
use Rattle.claim_longest.proofs.SideBack.{shown_n}
use Rattle.line_owed.proofs.Shown.{some_price, shown_sold}
use Rattle.text.specs.Bytes.{bytes}
use Rattle.text.specs.Reading.{dot_digit}
use Rattle.text.proofs.Reading.{starts_append}
use Rattle.rules.specs.Correction.{end_pair, cancel_text}
use Rattle.read_side.specs.Side.{beside}
use Rattle.read_conditions.specs.declared.Taken.{Taken}
use Rattle.reader.specs.Read.{end_at, amended, ended_by, cancel_side, cancel_head, cancel_at}
use Rattle.claim_longest.proofs.Figures.{unmarked_pair}
use Rattle.claim_longest.proofs.TailExact.{letters_before, ended_pair, TailEnd, ended, more}
use Rattle.claim_longest.proofs.SideExact.{Closes, SideEnds, side_ends}
use Rattle.claim_longest.proofs.TradeBack.{flag_there, volume_in}
use Rattle.rules.specs.declared.PriceForm.TheVariants.{Full}

-- behind the end pair
pub closes_pair : (s : List ℕ) → Closes (bytes ">>" ++ s)
unfolding dot_digit
closes_pair s = record { ends = ended_pair s; dot = refl; mark = unmarked_pair s }

pub record CancelReaches (s : List ℕ) (error : Bool) (n : ℕ) : Type 0 where
  pub got : PrintRead
  pub is : cancel_at s error ≡ amended error got
  pub far : n ≤ got.length

plus_none : (n : ℕ) → n ≡ n + 0
plus_none n = omega arith

-- the end pair where the tail ended
pub end_by_g : (s : List ℕ) (n : ℕ) (y : Side) → y.letters.g ≡ true → end_at s n y ≡ Some n
unfolding end_at pick
end_by_g s n y e = rw e

end_by_pair : (s : List ℕ) (n : ℕ) (y : Side) (R : List ℕ) → y.letters.g ≡ false → drop n s ≡ bytes ">>" ++ R → end_at s n y ≡ Some (n + 2)
unfolding end_at pick
end_by_pair s n y R e d = rw (e, d, starts_append (bytes ">>") R)

pub end_reaches : (s : List ℕ) (n : ℕ) (y x : Side) (R : List ℕ) → y.letters.g ≡ x.letters.g → drop n s ≡ end_pair x ++ R → end_at s n y ≡ Some (n + length (end_pair x))
unfolding end_pair opt
end_reaches s n y x R e d = go x.letters.g refl
  where
    go : (g : Bool) → x.letters.g ≡ g → end_at s n y ≡ Some (n + length (opt (not x.letters.g) (bytes ">>")))
    go true f = rw f (end_by_g s n y (e ∙ f) ∙ ap Some (plus_none n))
    go false f = rw f (end_by_pair s n y R (e ∙ f) (d ∙ ap (λ b. opt (not b) (bytes ">>") ++ R) f))

-- the end stands at m, n bytes or further
pub record EndsBehind (n : ℕ) (end : Option ℕ) : Type 0 where
  pub m : ℕ
  pub is : end ≡ Some m
  pub far : n ≤ m

pub pair_short : (x : Side) → length (end_pair x) ≤ 2
unfolding end_pair opt
pair_short x = go x.letters.g
  where
    go : (g : Bool) → length (opt (not g) (bytes ">>")) ≤ 2
    go true = omega arith
    go false = omega arith

module _ (error : Bool) (opening : List ℕ) (six : length opening ≡ 6) (network unit : ℕ) (name : List ℕ) (x : Side) (e : Enterable network unit name) (h : Showable network x) (R : List ℕ) where
  abbrev head : List ℕ
  head = name_text false name ++ after_name x.letters

  abbrev rest : List ℕ
  rest = volume_text network unit x.volume ++ (price_text Full x.price ++ (tail_text x ++ (end_pair x ++ R)))

  joined : cancel_text opening (name_text false name) network unit Full true x ++ R ≡ opening ++ (head ++ rest)
  unfolding cancel_text side_text head_text opt
  joined = simp append_assoc

  size : length (cancel_text opening (name_text false name) network unit Full true x) ≡ 6 + (length head + (length (volume_text network unit x.volume) + (length (price_text Full x.price) + length (tail_text x)))) + length (end_pair x)
  unfolding cancel_text side_text head_text opt
  size =
      let v = volume_text network unit x.volume in
      let p = price_text Full x.price in
      omega (six, length-append (opening ++ (head ++ v ++ p ++ tail_text x)) (end_pair x), length-append opening (head ++ v ++ p ++ tail_text x), length-append (head ++ v ++ p) (tail_text x), length-append (head ++ v) p, length-append head v, arith)

  lower : heads is_upper rest ≡ false
  unfolding opt
  lower = side_lower network unit x.volume Full true x.price (tail_text x ++ (end_pair x ++ R)) (some_price x.price h.price_fits)

  headed : head_at false (head ++ rest) ≡ Some (head_read false (name_text false name) x.letters)
  headed = head_found false network name e.on e.plain x.letters (shown_n network x h) (shown_sold network x h) rest lower

  closes : x.letters.g ≡ false → Closes (end_pair x ++ R)
  unfolding end_pair opt
  closes g = rw g (closes_pair R)

  abbrev tape : List ℕ
  tape = opening ++ (head ++ rest)

  behind : drop 6 tape ≡ head ++ rest
  behind = ap (λ n. drop n tape) (sym six) ∙ drop-append_seam opening (head ++ rest)

  further : drop (6 + length head) tape ≡ rest
  further = sym (drop-drop (length head) 6 tape) ∙ ap (drop (length head)) behind ∙ drop-append_seam head rest

  abbrev size_of : ℕ
  size_of = length (volume_text network unit x.volume) + (length (price_text Full x.price) + length (tail_text x))

  at_end : drop (6 + length head + size_of) tape ≡ end_pair x ++ R
  at_end =
      let v = volume_text network unit x.volume in
      let p = price_text Full x.price in
      let r = end_pair x ++ R in
      let k : v ++ (p ++ (tail_text x ++ r)) ≡ (v ++ (p ++ tail_text x)) ++ r = simp append_assoc in
      let l : size_of ≡ length (v ++ (p ++ tail_text x)) = omega (length-append v (p ++ tail_text x), length-append p (tail_text x), arith) in
      sym (drop-drop size_of (6 + length head) tape) ∙ ap (drop size_of) further ∙ ap (λ n. drop n rest) l ∙ ap (drop (length (v ++ (p ++ tail_text x)))) k ∙ drop-append_seam (v ++ (p ++ tail_text x)) r

  sided : SideEnds (side_at None (letters_after x.letters.m x.letters.o x.letters.s x.letters.l) (name_on false 65 (name_text false name)) (name_on false 66 (name_text false name)) rest) network unit size_of x (end_pair x ++ R)
  unfolding beside
  sided =
      let v = volume_in x.volume h.volume_fits in
      side_ends None network unit x h e.trades_in e.on (name_on false 65 (name_text false name)) (name_on false 66 (name_text false name)) (flag_there false network (name_text false name) e.on (name_lawful false network name e.plain)) (end_pair x ++ R) closes v.0 v.1 (λ w i. i)

  -- how far the answer goes
  ending : (end : Taken) → TailEnd end size_of (letters_before (letters_after x.letters.m x.letters.o x.letters.s x.letters.l) x.letters.k x.letters.b x.letters.t x.letters.r x.letters.j) sided.flags (pick x.letters.j false sided.others) x.letters.g (end_pair x ++ R) → EndsBehind (6 + length head + size_of + length (end_pair x)) (end_at tape (6 + length head + end.used) end.side)
  ending end (ended u l a b) = record {
    m = 6 + length head + size_of + length (end_pair x);
    is = ap (λ n. end_at tape (6 + length head + n) end.side) u ∙ end_reaches tape (6 + length head + size_of) end.side x R (ap (λ y. y.g) l) at_end;
    far = omega arith;
  }
  ending end (more g l u s) = record {
    m = 6 + length head + end.used;
    is = end_by_g tape (6 + length head + end.used) end.side (ap (λ y. y.g) l);
    far = omega (u, pair_short x, arith);
  }

  -- THE CANCEL, WHOLE AT LEAST
  pub cancel_reaches : CancelReaches (cancel_text opening (name_text false name) network unit Full true x ++ R) error (length (cancel_text opening (name_text false name) network unit Full true x))
  unfolding cancel_at cancel_head cancel_side head_read ended_by pick
  cancel_reaches =
      let r = sided in
      let end = ending r.got.taken r.tail in
      record {
        got = record { length = end.m; from = 6; to = 6 + length (name_text false name); side = r.got.taken.side };
        is = rw (joined, behind, headed, further, r.is, end.is);
        far = omega (size, end.far, arith);
      }
