-- What the reader answers is a normal print of that length, with that name and those facts. Assumes nothing.
use Prim.Native.Nat.{ℕ, ◌+◌}
use native.Mathlib.Omega.{arith}
use mathlib.Core.Path.{◌≡◌, refl, sym, ap, ◌∙◌}
use mathlib.Core.Logic.{⊎_elim}
use mathlib.Core.Bool.{Bool, true, false, ◌||◌, not}
use mathlib.Core.List.{List, ◌++◌, append_assoc, append-nil}
use lib.Dec.{eqb}
use borrow.Author.Tests.{eqb-true}
use mathlib.Core.Option.{some}
use lib.ListN.{length, take, drop}
use Rattle.std.specs.Prelude.{Option, Some, None, Ok}
use Rattle.text.specs.Bytes.{bytes}
use Rattle.text.specs.Pick.{pick, opt, among}
use Rattle.rules.specs.Price.{price_text, units}
use Rattle.rules.specs.Volume.{volume_text}
use Rattle.rules.specs.Side.{tail_text}
use Rattle.rules.specs.Line.{is_network}
use Rattle.rules.specs.declared.Letters.{Letters}
use Rattle.rules.specs.declared.Side.{Side}
use Rattle.name_back.specs.Cut.{one_sold}
use Rattle.line_owed.specs.Shown.{Showable}
use Rattle.read_volume.specs.Volume.{said_text, explains}
use Rattle.read_volume.proofs.Shown.{explained_text}
use Rattle.read_volume.specs.declared.Volume.{Volume}
use Rattle.read_name.specs.Head.{letters_after}
use Rattle.read_side.specs.declared.SideRead.{SideRead}
use Rattle.read_side.specs.Side.{side_at}
use Rattle.text.specs.Reading.{starts}
use Rattle.rules.specs.Names.{name_text}
use Rattle.rules.specs.Conditions.{after_name}
use Rattle.rules.specs.Side.{head_text, side_text}
use Rattle.rules.specs.Shown.{conditions_of}
use Rattle.rules.specs.NormalPrint.{read_trade}
use Rattle.line_owed.specs.Shown.{Enterable}
use Rattle.claim_compose.specs.Printable.{Printable, by_trade}
use Rattle.rules.specs.Correction.{end_pair, cancel_text}
use Rattle.text.proofs.Parts.{starts_front}
use Rattle.text.proofs.Booleans.{false_true, or_cases}
use Rattle.read_name.specs.Name.{name_on}
use Rattle.read_name.specs.declared.NameRead.{NameRead}
use Rattle.claim_names.proofs.Built.{name_built}
use Rattle.claim_names.proofs.Head.{HeadTold}
use Rattle.reader.specs.Read.{end_at}
use Rattle.claim_normal.proofs.Views.{printable_as}
use Rattle.claim_longest.proofs.Side.{Headed, SideTold, side_told, two_fronts}
use Rattle.claim_longest.proofs.Shows.{explains_side}
use Rattle.rules.specs.declared.PriceForm.TheVariants.{Full}

-- ---- heads

-- the letters after a name are those only
pub headed : (x : Letters) → one_sold x ≡ true → x ≡ letters_after x.m x.o x.s x.l → Headed x
unfolding letters_after
headed x o e = record {
  bare = record { no_c = ap (λ y. y.c) e; no_k = ap (λ y. y.k) e; no_b = ap (λ y. y.b) e; no_t = ap (λ y. y.t) e; no_r = ap (λ y. y.r) e; no_j = ap (λ y. y.j) e; no_g = ap (λ y. y.g) e };
  no_n = ap (λ y. y.n) e;
  sold = o;
}

after_same : (x y : Letters) → x.o ≡ y.o → x.s ≡ y.s → x.l ≡ y.l → x.m ≡ y.m → x.n ≡ false → y.n ≡ false → after_name x ≡ after_name y
unfolding after_name
after_same x y o s l m n k = rw (o, s, l, m, n, k)

-- ---- a side's text is what stands behind its head

module _ (first : Option Volume) (letters : Letters) (a b : Bool) (part : List ℕ) (x : SideRead) (h : Headed letters) (t : SideTold first letters a b part x) where
  pub side_text_lem : (text : List ℕ) (network unit : ℕ) → explains network unit x.volume ≡ true → side_text text network unit Full true x.taken.side ≡ (text ++ after_name letters) ++ take x.taken.used part
  unfolding side_text head_text opt
  side_text_lem text network unit e =
      let y = x.taken.side in
      let f : after_name y.letters ≡ after_name letters = after_same y.letters letters t.o_kept t.s_kept t.l_kept t.m_kept t.no_n h.no_n in
      let v : volume_text network unit y.volume ≡ said_text x.volume = ap (volume_text network unit) t.shares ∙ explained_text network unit x.volume e in
      let q = text ++ after_name letters in
      ap (λ z. (((text ++ z) ++ volume_text network unit y.volume) ++ price_text Full y.price) ++ tail_text y) f
      ∙ ap (λ z. ((q ++ z) ++ price_text Full y.price) ++ tail_text y) v
      ∙ append_assoc (q ++ said_text x.volume) (price_text Full y.price) (tail_text y)
      ∙ append_assoc q (said_text x.volume) (price_text Full y.price ++ tail_text y)
      ∙ ap (λ z. q ++ z) (sym t.text)

picked_a : (network : ℕ) → eqb network 65 ≡ true → (a b : Bool) → pick (eqb network 65) a b ≡ true → a ≡ true
unfolding pick
picked_a network q a b e = ap (λ t. pick t a b) (sym q) ∙ e

picked_b : (network : ℕ) → eqb network 66 ≡ true → (a b : Bool) → pick (eqb network 65) a b ≡ true → b ≡ true
unfolding pick
picked_b network r a b e = ap (λ n. pick (eqb n 65) a b) (sym (eqb-true network 66 r)) ∙ e

-- a name that the head found, on the network
pub on_network_lem : (temporary : Bool) (s : List ℕ) (h : NameRead) (network : ℕ) → HeadTold temporary s h → is_network network ≡ true → pick (eqb network 65) h.a h.b ≡ true → name_on temporary network (take h.length s) ≡ true
unfolding is_network among
on_network_lem temporary s h network t n e =
    ⊎_elim (λ q. ap (λ k. name_on temporary k (take h.length s)) (eqb-true network 65 q) ∙ sym t.on_a ∙ picked_a network q h.a h.b e)
    (λ q. ⊎_elim (λ r. ap (λ k. name_on temporary k (take h.length s)) (eqb-true network 66 r) ∙ sym t.on_b ∙ picked_b network r h.a h.b e) (λ r. absurd (false_true r)) (or_cases (eqb network 66) false q))
    (or_cases (eqb network 65) (eqb network 66 || false) n)

-- ---- trades

module _ (s : List ℕ) (h : NameRead) (k : HeadTold true s h) (x : SideRead) (e : side_at None h.letters h.a h.b (drop h.used s) ≡ Ok x) where
  pub trade_printable : Printable (take (h.used + x.taken.used) s) (take h.length s) (read_trade (units x.taken.side.price) (conditions_of x.taken.side) (some x.taken.side.volume))
  trade_printable =
      let d = headed h.letters k.sold k.only in
      let t = side_told None h.letters h.a h.b (drop h.used s) d x e in
      let w = explains_side None h.letters h.a h.b (drop h.used s) x d t in
      let b = name_built true w.network (take h.length s) w.is_network_lem (on_network_lem true s h w.network k w.is_network_lem w.allowed) in
      let u = w.unit_there in
      printable_as
      (by_trade w.network u.unit b.name x.taken.side (record { on = w.is_network_lem; trades_in = u.lawful; plain = b.plain; sized = b.sized; printable = b.printable }) w.shows)
      (ap (λ z. side_text z w.network u.unit Full true x.taken.side) b.shown
      ∙ side_text_lem None h.letters h.a h.b (drop h.used s) x d t (take h.length s) w.network u.unit u.second
      ∙ ap (λ z. z ++ take x.taken.used (drop h.used s)) (sym k.text)
      ∙ sym (two_fronts s h.used x.taken.used))
      b.shown
      refl

-- ---- cancels and errors

end_cases : (s : List ℕ) (n m : ℕ) (g t : Bool) → starts (bytes ">>") (drop n s) ≡ t → pick g (Some n) (pick t (Some (n + 2)) None) ≡ Some m → take m s ≡ take n s ++ opt (not g) (bytes ">>")
unfolding pick opt
end_cases s n m true t k e = let q : n ≡ m = cc in ap (λ i. take i s) (sym q) ∙ sym (append-nil (take n s))
end_cases s n m false true k e = let q : n + 2 ≡ m = cc in ap (λ i. take i s) (sym q) ∙ two_fronts s n 2 ∙ ap (λ z. take n s ++ z) (starts_front (bytes ">>") (drop n s) k)
end_cases s n m false false k e = absurd (let z : ◌≡◌ {A = ℕ} 0 1 = cc in omega arith)

-- the end pair, or the closing G pair that serves
pub end_told : (s : List ℕ) (n m : ℕ) (y : Side) → end_at s n y ≡ Some m → take m s ≡ take n s ++ end_pair y
unfolding end_at end_pair
end_told s n m y e = end_cases s n m y.letters.g (starts (bytes ">>") (drop n s)) refl e

module _ (opening s : List ℕ) (six : length opening ≡ 6) (starts-there : starts opening s ≡ true) (h : NameRead) (k : HeadTold false (drop 6 s) h) (x : SideRead) (e : side_at None h.letters h.a h.b (drop (6 + h.used) s) ≡ Ok x) where
  front_of : take (6 + h.used + x.taken.used) s ≡ opening ++ ((take h.length (drop 6 s) ++ after_name h.letters) ++ take x.taken.used (drop (6 + h.used) s))
  front_of =
      two_fronts s (6 + h.used) x.taken.used
      ∙ ap (λ z. z ++ take x.taken.used (drop (6 + h.used) s)) (two_fronts s 6 h.used ∙ ap (λ z. z ++ take h.used (drop 6 s)) (ap (λ n. take n s) (sym six) ∙ starts_front opening s starts-there) ∙ ap (λ z. opening ++ z) k.text)
      ∙ append_assoc opening (take h.length (drop 6 s) ++ after_name h.letters) (take x.taken.used (drop (6 + h.used) s))

  -- the security, the side and the text of what is read
  pub record CancelTold (m : ℕ) : Type 0 where
    pub network : ℕ
    pub unit : ℕ
    pub name : List ℕ
    pub enters : Enterable network unit name
    pub shows : Showable network x.taken.side
    pub named : name_text false name ≡ take h.length (drop 6 s)
    pub text : cancel_text opening (name_text false name) network unit Full true x.taken.side ≡ take m s

  pub cancel_told_lem : (m : ℕ) → end_at s (6 + h.used + x.taken.used) x.taken.side ≡ Some m → CancelTold m
  unfolding cancel_text
  cancel_told_lem m f =
      let d = headed h.letters k.sold k.only in
      let t = side_told None h.letters h.a h.b (drop (6 + h.used) s) d x e in
      let w = explains_side None h.letters h.a h.b (drop (6 + h.used) s) x d t in
      let b = name_built false w.network (take h.length (drop 6 s)) w.is_network_lem (on_network_lem false (drop 6 s) h w.network k w.is_network_lem w.allowed) in
      let u = w.unit_there in
      record {
        network = w.network;
        unit = u.unit;
        name = b.name;
        enters = record { on = w.is_network_lem; trades_in = u.lawful; plain = b.plain; sized = b.sized; printable = b.printable };
        shows = w.shows;
        named = b.shown;
        text =
            ap (λ z. (opening ++ side_text z w.network u.unit Full true x.taken.side) ++ end_pair x.taken.side) b.shown
            ∙ ap (λ z. (opening ++ z) ++ end_pair x.taken.side) (side_text_lem None h.letters h.a h.b (drop (6 + h.used) s) x d t (take h.length (drop 6 s)) w.network u.unit u.second)
            ∙ ap (λ z. z ++ end_pair x.taken.side) (sym front_of)
            ∙ sym (end_told s (6 + h.used + x.taken.used) m x.taken.side f);
      }
