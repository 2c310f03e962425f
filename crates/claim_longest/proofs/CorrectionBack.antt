-- A correction that one line can print is read whole, at least, where it stands. Assumes nothing.
use Prim.Native.Nat.{ℕ, ◌+◌, ◌≤◌}
use native.Mathlib.Omega.{arith}
use mathlib.Core.Path.{◌≡◌, refl, sym, ap, ◌∙◌}
use mathlib.Core.Logic.{⊎_elim}
use mathlib.Core.Bool.{Bool, true, false, ◌||◌, not}
use mathlib.Core.List.{List, [], ◌++◌, append_assoc}
use lib.Dec.{eqb, leb}
use lib.ListN.{length, take, drop, length-append}
use lib.Seq.{drop-append_seam, take-append_seam}
use Rattle.std.specs.Prelude.{Option, Some, None, Ok}
use borrow.Author.Tests.{eqb-true}
use Rattle.text.specs.Pick.{pick, opt, among}
use Rattle.text.specs.Reading.{heads}
use Rattle.rules.specs.Tape.{is_upper}
use Rattle.rules.specs.Names.{name_text}
use Rattle.rules.specs.Price.{price_text}
use Rattle.rules.specs.Volume.{volume_text}
use Rattle.rules.specs.Conditions.{after_name}
use Rattle.rules.specs.Side.{head_text, tail_text, side_text}
use Rattle.rules.specs.Line.{is_network}
use Rattle.rules.specs.declared.Letters.{Letters}
use Rattle.rules.specs.declared.Side.{Side}
use Rattle.print_side.proofs.SideBack.{side_lower}
use Rattle.line_owed.specs.Shown.{Enterable, Showable}
use Rattle.read_name.specs.Name.{name_on}
use Rattle.read_name.specs.Head.{letters_after, head_at}
use Rattle.claim_names.proofs.Lawful.{name_lawful}
use Rattle.claim_names.proofs.Head.{head_read, head_found}
use Rattle.read_side.specs.Side.{side_at}
use Rattle.claim_longest.proofs.SideBack.{flag_of, shown_n}
use Rattle.line_owed.proofs.Shown.{some_price, shown_sold}
use Rattle.text.specs.Bytes.{bytes}
use Rattle.text.specs.Reading.{starts, dot_digit}
use Rattle.text.proofs.Reading.{starts_append}
use Rattle.rules.specs.Correction.{end_pair}
use Rattle.read_side.specs.Side.{beside}
use Rattle.read_conditions.specs.declared.Taken.{Taken}
use Rattle.reader.specs.Read.{end_at}
use Rattle.claim_longest.proofs.TailExact.{letters_before, TailEnd, ended, more}
use Rattle.claim_longest.proofs.SideExact.{Closes, SideEnds, side_ends}
use Rattle.claim_longest.proofs.TradeBack.{flag_there, volume_in}
use Rattle.text.specs.Pick.{all}
use Rattle.rules.specs.Correction.{repeats_name, correction_text}
use Rattle.rules.specs.Line.{alike}
use Rattle.text.proofs.Tests.{is_le}
use Rattle.text.proofs.Booleans.{neither, false_true, or_cases}
use Rattle.name_back.specs.Cut.{one_sold}
use Rattle.read_name.specs.Head.{again_at}
use Rattle.read_name.specs.declared.AgainRead.{AgainRead}
use Rattle.name_back.proofs.Back.{name_upper, name_some}
use Rattle.name_text.proofs.Text.{name_most}
use Rattle.claim_names.proofs.Again.{again_read, again_found, again_none}
use Rattle.read_side.specs.declared.SideRead.{SideRead}
use Rattle.reader.specs.declared.CorrectionRead.{CorrectionRead}
use Rattle.reader.specs.declared.Print.TheVariants.{Correction}
use Rattle.reader.specs.Read.{corrected_by, second_side, second_head, second_at, correction_side, correction_head, correction_at}
use Rattle.claim_longest.proofs.Figures.{unmarked_was}
use Rattle.claim_longest.proofs.TailExact.{ended_was, set_g}
use Rattle.claim_longest.proofs.SideBack.{shown_c, rule_network, previous_network}
use Rattle.claim_longest.proofs.Tail.{dropped_all}
use Rattle.claim_longest.proofs.CancelBack.{closes_pair, end_by_g, end_reaches, EndsBehind, pair_short}
use Rattle.rules.specs.declared.PriceForm.TheVariants.{Full}

-- behind the original
closes_was : (s : List ℕ) → Closes (bytes "WAS." ++ s)
unfolding dot_digit
closes_was s = record { ends = ended_was s; dot = refl; mark = unmarked_was s }

no_previous : (s : List ℕ) → starts (bytes ">>PREV.LAST") (bytes "WAS." ++ s) ≡ false
unfolding starts
no_previous s = refl

pub record CorrectionReaches (s : List ℕ) (n : ℕ) : Type 0 where
  pub got : CorrectionRead
  pub is : correction_at s ≡ Ok (Correction got)
  pub far : n ≤ got.length

-- where a side ended exactly: its bytes, its letters and the networks left
record Exactly (got : SideRead) (network : ℕ) (size : ℕ) : Type 0 where
  used_is : got.taken.used ≡ size
  flag_left : flag_of network got.taken.a got.taken.b ≡ true

-- the network that explains a side is left after its conditions
no_g : (network : ℕ) (x : Side) → Showable network x → network ≡ 65 → x.letters.g ≡ false
no_g network x h e = go x.letters.g refl
  where
    go : (g : Bool) → x.letters.g ≡ g → g ≡ false
    go true f = absurd (omega (eqb-true network 66 (previous_network network x h f), e, arith))
    go false f = refl

no_j : (network : ℕ) (x : Side) → Showable network x → network ≡ 66 → x.letters.j ≡ false
no_j network x h e = go x.letters.j refl
  where
    go : (j : Bool) → x.letters.j ≡ j → j ≡ false
    go true f = absurd (omega (eqb-true network 65 (rule_network network x h f), e, arith))
    go false f = refl

kept_a : (network : ℕ) (x : Side) → Showable network x → (a b : Bool) → network ≡ 65 → flag_of network a b ≡ true → flag_of network (pick x.letters.g false a) (pick x.letters.j false b) ≡ true
unfolding flag_of pick
kept_a network x h a b e f = ap (λ n. pick (eqb n 65) (pick x.letters.g false a) (pick x.letters.j false b)) e ∙ ap (λ g. pick g false a) (no_g network x h e) ∙ ap (λ n. pick (eqb n 65) a b) (sym e) ∙ f

kept_b : (network : ℕ) (x : Side) → Showable network x → (a b : Bool) → network ≡ 66 → flag_of network a b ≡ true → flag_of network (pick x.letters.g false a) (pick x.letters.j false b) ≡ true
unfolding flag_of pick
kept_b network x h a b e f = ap (λ n. pick (eqb n 65) (pick x.letters.g false a) (pick x.letters.j false b)) e ∙ ap (λ j. pick j false b) (no_j network x h e) ∙ ap (λ n. pick (eqb n 65) a b) (sym e) ∙ f

flag_kept : (network : ℕ) (x : Side) → Showable network x → is_network network ≡ true → (a b : Bool) → flag_of network a b ≡ true → flag_of network (pick x.letters.g false a) (pick x.letters.j false b) ≡ true
unfolding is_network among
flag_kept network x h n a b f =
    ⊎_elim (λ q. kept_a network x h a b (eqb-true network 65 q) f)
    (λ q. ⊎_elim (λ r. kept_b network x h a b (eqb-true network 66 r) f) (λ r. absurd (false_true r)) (or_cases (eqb network 66) false q))
    (or_cases (eqb network 65) (eqb network 66 || false) n)

exactly : (got : SideRead) (network : ℕ) (size : ℕ) (x : Side) (R : List ℕ) (a b : Bool) (y : Letters) → Showable network x → is_network network ≡ true → flag_of network a b ≡ true → TailEnd got.taken size y a (pick x.letters.j false b) x.letters.g (bytes "WAS." ++ R) → Exactly got network size
exactly got network size x R a b y h n f (ended u l p q) = record { used_is = u; flag_left = ap (λ z. flag_of network z got.taken.b) p ∙ ap (flag_of network (pick x.letters.g false a)) q ∙ flag_kept network x h n a b f }
exactly got network size x R a b y h n f (more g l u s) = absurd (false_true (sym (no_previous R) ∙ s))

-- ---- the name again, or not

-- letters that do not repeat the name put nothing behind it
record Plain (x : Letters) : Type 0 where
  no_s : x.s ≡ false
  no_l : x.l ≡ false
  no_o : x.o ≡ false
  no_n : x.n ≡ false
  no_m : x.m ≡ false

plain : (x : Letters) → repeats_name x ≡ false → Plain x
unfolding repeats_name
plain x h =
    let a = neither x.s _ h in
    let b = neither x.l _ a.1 in
    let c = neither x.o _ b.1 in
    let d = neither x.c _ c.1 in
    let e = neither x.k _ d.1 in
    let f = neither x.n _ e.1 in
    let g = neither x.m _ f.1 in
    record { no_s = a.0; no_l = b.0; no_o = c.0; no_n = f.0; no_m = g.0 }

nothing_after : (x : Letters) → Plain x → after_name x ≡ []
unfolding after_name opt
nothing_after x p = rw (p.no_n, p.no_m, p.no_o, p.no_s, p.no_l)

same_letters_lem : (x : Letters) → Plain x → letters_after x.m x.o x.s x.l ≡ letters_after false false false false
same_letters_lem x p = rw (p.no_m, p.no_o, p.no_s, p.no_l)

abbrev after_read : List ℕ → Letters → AgainRead
after_read head x = record { used = length head; letters = letters_after x.m x.o x.s x.l }

again_yes : (text : List ℕ) (x : Letters) (s : List ℕ) → x.n ≡ false → one_sold x ≡ true → heads is_upper s ≡ false → all is_upper text ≡ true → length text ≤ 22 → 1 ≤ length text → again_at text ((text ++ after_name x) ++ s) ≡ Some (after_read (text ++ after_name x) x)
unfolding again_read
again_yes text x s n o l u k i = again_found x n o s l text u k i

again_not : (text : List ℕ) (x : Letters) (s : List ℕ) → one_sold x ≡ true → heads is_upper s ≡ false → repeats_name x ≡ false → again_at text (([] ++ after_name x) ++ s) ≡ Some (after_read ([] ++ after_name x) x)
again_not text x s o l r =
    let p = plain x r in
    let e = nothing_after x p in
    ap (λ z. again_at text (z ++ s)) e ∙ again_none x p.no_n o s l text e ∙ alike_read (sym (ap length e)) (sym (same_letters_lem x p))
  where
    alike_read : {n m : ℕ} {y z : Letters} → n ≡ m → y ≡ z → ◌≡◌ {A = Option AgainRead} (Some (record { used = n; letters = y })) (Some (record { used = m; letters = z }))
    alike_read p q = rw (p, q)

again_is : (text : List ℕ) (x : Letters) (s : List ℕ) → x.n ≡ false → one_sold x ≡ true → heads is_upper s ≡ false → all is_upper text ≡ true → length text ≤ 22 → 1 ≤ length text → (b : Bool) → repeats_name x ≡ b
    → again_at text ((opt b text ++ after_name x) ++ s) ≡ Some (after_read (opt b text ++ after_name x) x)
unfolding opt
again_is text x s n o l u k i true r = again_yes text x s n o l u k i
again_is text x s n o l u k i false r = again_not text x s o l r

-- the name repeats exactly where the head is not empty
repeats_duly : (text : List ℕ) (x : Letters) → 1 ≤ length text → (b : Bool) → repeats_name x ≡ b → alike b (leb 1 (length (opt b text ++ after_name x))) ≡ true
unfolding alike opt pick
repeats_duly text x i true r = sym (is_le 1 (length (text ++ after_name x)) (omega (length-append text (after_name x), i, arith)))
repeats_duly text x i false r = ap (λ z. not (leb 1 (length z))) (nothing_after x (plain x r))

same_repeat : (x : Letters) → x.n ≡ false → x.c ≡ false → (x.s || (x.l || (x.o || (false || (x.k || (false || (x.m || x.b))))))) ≡ repeats_name x
unfolding repeats_name
same_repeat x n c = rw (n, c)

-- the letters that are read repeat it as the side's do
read_repeats : (x y : Letters) → x.n ≡ false → x.c ≡ false → (g : Bool) → y ≡ set_g g (letters_before (letters_after x.m x.o x.s x.l) x.k x.b x.t x.r x.j) → repeats_name y ≡ repeats_name x
unfolding repeats_name letters_after
read_repeats x y n c g e = ap repeats_name e ∙ same_repeat x n c

-- ---- lengths and places

sided_length : (text : List ℕ) (network unit : ℕ) (x : Side) → length (side_text text network unit Full true x) ≡ length (text ++ after_name x.letters) + (length (volume_text network unit x.volume) + (length (price_text Full x.price) + length (tail_text x)))
unfolding side_text head_text opt
sided_length text network unit x =
    let q = text ++ after_name x.letters in
    let v = volume_text network unit x.volume in
    let p = price_text Full x.price in
    omega (length-append (q ++ v ++ p) (tail_text x), length-append (q ++ v) p, length-append q v, arith)

correction_length : (text : List ℕ) (network unit : ℕ) (x y : Side) → length (correction_text text network unit Full true x y) ≡ 7 + length (side_text text network unit Full true x) + 4 + length (side_text (opt (repeats_name y.letters) text) network unit Full true y) + length (end_pair y)
unfolding correction_text
correction_length text network unit x y =
    let a = side_text text network unit Full true x in
    let b = side_text (opt (repeats_name y.letters) text) network unit Full true y in
    omega (length-append (((bytes "<<CORR." ++ a) ++ bytes "WAS.") ++ b) (end_pair y), length-append ((bytes "<<CORR." ++ a) ++ bytes "WAS.") b, length-append (bytes "<<CORR." ++ a) (bytes "WAS."), length-append (bytes "<<CORR.") a, arith)

past_side : (tape : List ℕ) (n : ℕ) (v p t r : List ℕ) → drop n tape ≡ v ++ (p ++ (t ++ r)) → drop (n + (length v + (length p + length t))) tape ≡ r
past_side tape n v p t r e =
    let k : v ++ (p ++ (t ++ r)) ≡ (v ++ (p ++ t)) ++ r = simp append_assoc in
    let l : length v + (length p + length t) ≡ length (v ++ (p ++ t)) = omega (length-append v (p ++ t), length-append p t, arith) in
    ap (λ m. drop (n + m) tape) l ∙ dropped_all tape (v ++ (p ++ t)) r n (e ∙ k)

-- ---- the whole

module _ (network unit : ℕ) (name : List ℕ) (x y : Side) (e : Enterable network unit name) (h : Showable network x) (i : Showable network y) (R : List ℕ) where
  abbrev text : List ℕ
  text = name_text false name

  abbrev head : List ℕ
  head = text ++ after_name x.letters

  abbrev head₂ : List ℕ
  head₂ = opt (repeats_name y.letters) text ++ after_name y.letters

  abbrev rest₃ : List ℕ
  rest₃ = volume_text network unit y.volume ++ (price_text Full y.price ++ (tail_text y ++ (end_pair y ++ R)))

  abbrev rest₂ : List ℕ
  rest₂ = head₂ ++ rest₃

  abbrev rest : List ℕ
  rest = volume_text network unit x.volume ++ (price_text Full x.price ++ (tail_text x ++ (bytes "WAS." ++ rest₂)))

  abbrev tape : List ℕ
  tape = bytes "<<CORR." ++ (head ++ rest)

  abbrev size : ℕ
  size = length (volume_text network unit x.volume) + (length (price_text Full x.price) + length (tail_text x))

  abbrev size₂ : ℕ
  size₂ = length (volume_text network unit y.volume) + (length (price_text Full y.price) + length (tail_text y))

  joined : correction_text text network unit Full true x y ++ R ≡ tape
  unfolding correction_text side_text head_text opt
  joined = simp append_assoc

  total : length (correction_text text network unit Full true x y) ≡ 7 + length head + size + 4 + length head₂ + size₂ + length (end_pair y)
  total = omega (correction_length text network unit x y, sided_length text network unit x, sided_length (opt (repeats_name y.letters) text) network unit y, arith)

  lower₃ : heads is_upper rest₃ ≡ false
  unfolding opt
  lower₃ = side_lower network unit y.volume Full true y.price (tail_text y ++ (end_pair y ++ R)) (some_price y.price i.price_fits)

  lower : heads is_upper rest ≡ false
  unfolding opt
  lower = side_lower network unit x.volume Full true x.price (tail_text x ++ (bytes "WAS." ++ rest₂)) (some_price x.price h.price_fits)

  at7 : drop 7 tape ≡ head ++ rest
  at7 = drop-append_seam (bytes "<<CORR.") (head ++ rest)

  at_side : drop (7 + length head) tape ≡ rest
  at_side = dropped_all tape head rest 7 at7

  at_was : drop (7 + length head + size) tape ≡ bytes "WAS." ++ rest₂
  at_was = past_side tape (7 + length head) (volume_text network unit x.volume) (price_text Full x.price) (tail_text x) (bytes "WAS." ++ rest₂) at_side

  at_again : drop (7 + length head + size + 4) tape ≡ rest₂
  at_again = dropped_all tape (bytes "WAS.") rest₂ (7 + length head + size) at_was

  at_second : drop (7 + length head + size + 4 + length head₂) tape ≡ rest₃
  at_second = dropped_all tape head₂ rest₃ (7 + length head + size + 4) at_again

  at_end : drop (7 + length head + size + 4 + length head₂ + size₂) tape ≡ end_pair y ++ R
  at_end = past_side tape (7 + length head + size + 4 + length head₂) (volume_text network unit y.volume) (price_text Full y.price) (tail_text y) (end_pair y ++ R) at_second

  named : take (length text) (drop 7 tape) ≡ text
  named = ap (take (length text)) (at7 ∙ append_assoc text (after_name x.letters) rest) ∙ take-append_seam text (after_name x.letters ++ rest)

  headed : head_at false (head ++ rest) ≡ Some (head_read false text x.letters)
  headed = head_found false network name e.on e.plain x.letters (shown_n network x h) (shown_sold network x h) rest lower

  abbrev a : Bool
  a = name_on false 65 text

  abbrev b : Bool
  b = name_on false 66 text

  -- the original
  first_side : SideEnds (side_at None (letters_after x.letters.m x.letters.o x.letters.s x.letters.l) a b rest) network unit size x (bytes "WAS." ++ rest₂)
  unfolding beside
  first_side =
      let v = volume_in x.volume h.volume_fits in
      side_ends None network unit x h e.trades_in e.on a b (flag_there false network text e.on (name_lawful false network name e.plain)) (bytes "WAS." ++ rest₂) (λ g. closes_was rest₂) v.0 v.1 (λ w k. k)

  abbrev got : SideRead
  got = first_side.got

  first_exact : Exactly got network size
  first_exact = exactly got network size x rest₂ first_side.flags first_side.others _ h e.on first_side.on first_side.tail

  -- the name again
  again : again_at text rest₂ ≡ Some (after_read head₂ y.letters)
  again = again_is text y.letters rest₃ (shown_n network y i) (shown_sold network y i) lower₃ (name_upper network name e.plain false) (name_most false name) (name_some network name e.plain false) (repeats_name y.letters) refl

  closes : y.letters.g ≡ false → Closes (end_pair y ++ R)
  unfolding end_pair opt
  closes g = rw g (closes_pair R)

  -- the correcting trade
  second_ends : SideEnds (side_at (Some got.volume) (letters_after y.letters.m y.letters.o y.letters.s y.letters.l) got.taken.a got.taken.b rest₃) network unit size₂ y (end_pair y ++ R)
  unfolding beside
  second_ends =
      let v = volume_in y.volume i.volume_fits in
      side_ends (Some got.volume) network unit y i e.trades_in e.on got.taken.a got.taken.b first_exact.flag_left (end_pair y ++ R) closes v.0 v.1 (λ w k. first_side.by_unit)

  abbrev got₂ : SideRead
  got₂ = second_ends.got

  abbrev before : ℕ
  before = 7 + length head + size + 4 + length head₂

  -- how far the answer goes, and whether its letters repeat the name
  record Ending (end : Taken) : Type 0 where
    ends : EndsBehind (before + size₂ + length (end_pair y)) (end_at tape (before + end.used) end.side)
    duly : repeats_name end.side.letters ≡ repeats_name y.letters

  ending : (end : Taken) (f g : Bool) → TailEnd end size₂ (letters_before (letters_after y.letters.m y.letters.o y.letters.s y.letters.l) y.letters.k y.letters.b y.letters.t y.letters.r y.letters.j) f g y.letters.g (end_pair y ++ R) → Ending end
  ending end f g (ended u l p q) = record {
    ends = record {
      m = before + size₂ + length (end_pair y);
      is = ap (λ n. end_at tape (before + n) end.side) u ∙ end_reaches tape (before + size₂) end.side y R (ap (λ z. z.g) l) at_end;
      far = omega arith;
    };
    duly = read_repeats y.letters end.side.letters (shown_n network y i) (shown_c network y i) y.letters.g l;
  }
  ending end f g (more z l u s) = record {
    ends = record { m = before + end.used; is = end_by_g tape (before + end.used) end.side (ap (λ w. w.g) l); far = omega (u, pair_short y, arith) };
    duly = read_repeats y.letters end.side.letters (shown_n network y i) (shown_c network y i) true l;
  }

  ends : Ending got₂.taken
  ends = ending got₂.taken second_ends.flags (pick y.letters.j false second_ends.others) second_ends.tail

  duly : alike (repeats_name got₂.taken.side.letters) (leb 1 (length head₂)) ≡ true
  duly = ap (λ z. alike z (leb 1 (length head₂))) ends.duly ∙ repeats_duly text y.letters (name_some network name e.plain false) (repeats_name y.letters) refl

  abbrev far : ℕ
  far = ends.ends.m

  second_is : second_side tape (head_read false text x.letters) got.taken.side before (length head₂) (side_at (Some got.volume) (letters_after y.letters.m y.letters.o y.letters.s y.letters.l) got.taken.a got.taken.b rest₃)
      ≡ Ok (Correction (record { length = far; from = 7; to = 7 + length text; original = got.taken.side; correcting = got₂.taken.side }))
  unfolding second_side corrected_by head_read pick
  second_is = rw (second_ends.is, duly, ends.ends.is)

  at_was_is : second_at tape (head_read false text x.letters) got (7 + length head + size) ≡ Ok (Correction (record { length = far; from = 7; to = 7 + length text; original = got.taken.side; correcting = got₂.taken.side }))
  unfolding second_at second_head head_read pick
  at_was_is = rw (at_was, starts_append (bytes "WAS.") rest₂, at_again, named, again, at_second) second_is

  whole_is : correction_at (correction_text text network unit Full true x y ++ R) ≡ Ok (Correction (record { length = far; from = 7; to = 7 + length text; original = got.taken.side; correcting = got₂.taken.side }))
  unfolding correction_at correction_head correction_side head_read
  whole_is =
      ap correction_at joined
      ∙ ap (λ z. correction_head tape (head_at false z)) at7
      ∙ ap (correction_head tape) headed
      ∙ ap (λ z. correction_side tape (head_read false text x.letters) (side_at None (letters_after x.letters.m x.letters.o x.letters.s x.letters.l) a b z)) at_side
      ∙ ap (correction_side tape (head_read false text x.letters)) first_side.is
      ∙ ap (λ n. second_at tape (head_read false text x.letters) got (7 + length head + n)) first_exact.used_is
      ∙ at_was_is

  -- THE CORRECTION, WHOLE AT LEAST
  pub correction_reaches : CorrectionReaches (correction_text text network unit Full true x y ++ R) (length (correction_text text network unit Full true x y))
  correction_reaches = record {
    got = record { length = far; from = 7; to = 7 + length text; original = got.taken.side; correcting = got₂.taken.side };
    is = whole_is;
    far = omega (total, ends.ends.far, arith);
  }
