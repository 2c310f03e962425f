-- What is read of a correction is one that a line can print. Assumes nothing.
use Prim.Native.Nat.{ℕ, ◌+◌}
use mathlib.Core.Path.{◌≡◌, refl, sym, ap, ◌∙◌}
use mathlib.Core.Logic.{◌⊎◌, inl, inr, ⊎_elim}
use mathlib.Core.Bool.{Bool, true, false, ◌||◌}
use mathlib.Core.List.{List, ◌++◌, append_assoc}
use lib.Dec.{eqb, leb}
use borrow.Author.Tests.{eqb-true}
use lib.ListN.{take, drop}
use Rattle.std.specs.Prelude.{Some, None, Ok}
use Rattle.text.specs.Bytes.{bytes}
use Rattle.text.specs.Pick.{pick, opt, among}
use Rattle.rules.specs.Conditions.{on_network}
use Rattle.rules.specs.Line.{is_network}
use Rattle.line_owed.specs.Shown.{Showable}
use Rattle.read_volume.specs.Volume.{explains}
use Rattle.read_side.specs.declared.SideRead.{SideRead}
use Rattle.read_side.specs.Side.{beside, side_at}
use Rattle.text.specs.Reading.{starts}
use Rattle.rules.specs.Names.{name_text}
use Rattle.rules.specs.Conditions.{after_name}
use Rattle.rules.specs.Side.{side_text}
use Rattle.line_owed.specs.Shown.{Enterable}
use Rattle.rules.specs.Correction.{end_pair}
use Rattle.text.proofs.Parts.{starts_front}
use Rattle.read_name.specs.declared.NameRead.{NameRead}
use Rattle.claim_names.proofs.Built.{name_built}
use Rattle.claim_names.proofs.Head.{HeadTold}
use Rattle.reader.specs.Read.{end_at}
use Rattle.claim_longest.proofs.Side.{Unit, Headed, SideTold, side_told, two_fronts}
use Rattle.claim_longest.proofs.Shows.{Explains, explains_side}
use Rattle.rules.specs.Correction.{repeats_name, correction_text}
use Rattle.rules.specs.Line.{alike}
use Rattle.text.proofs.Booleans.{false_true, or_cases}
use Rattle.read_name.specs.Head.{again_at}
use Rattle.read_name.specs.declared.AgainRead.{AgainRead}
use Rattle.claim_names.proofs.Again.{AgainTold, again_told}
use Rattle.claim_longest.proofs.Shows.{shows_on, on_network_a, on_network_b}
use Rattle.claim_longest.proofs.Sound.{headed, side_text_lem, on_network_lem, end_told}
use Rattle.rules.specs.declared.PriceForm.TheVariants.{Full}

alike_same : (a b : Bool) → alike a b ≡ true → a ≡ b
unfolding alike pick
alike_same true b h = sym h
alike_same false true h = absurd (false_true h)
alike_same false false h = refl

which : (network : ℕ) → is_network network ≡ true → (network ≡ 65) ⊎ (network ≡ 66)
unfolding is_network among
which network n =
    ⊎_elim (λ q. inl (eqb-true network 65 q))
    (λ q. ⊎_elim (λ r. inr (eqb-true network 66 r)) (λ r. absurd (false_true r)) (or_cases (eqb network 66) false q))
    (or_cases (eqb network 65) (eqb network 66 || false) n)

module _ (s : List ℕ) (opens : starts (bytes "<<CORR.") s ≡ true) (h : NameRead) (k : HeadTold false (drop 7 s) h)
    (x : SideRead) (e : side_at None h.letters h.a h.b (drop (7 + h.used) s) ≡ Ok x)
    (was : starts (bytes "WAS.") (drop (7 + h.used + x.taken.used) s) ≡ true)
    (g : AgainRead) (f : again_at (take h.length (drop 7 s)) (drop (7 + h.used + x.taken.used + 4) s) ≡ Some g)
    (y : SideRead) (d : side_at (Some x.volume) g.letters x.taken.a x.taken.b (drop (7 + h.used + x.taken.used + 4 + g.used) s) ≡ Ok y)
    (duly : alike (repeats_name y.taken.side.letters) (leb 1 g.used) ≡ true) where
  abbrev name : List ℕ
  name = take h.length (drop 7 s)

  abbrev first_part : List ℕ
  first_part = drop (7 + h.used) s

  abbrev second_part : List ℕ
  second_part = drop (7 + h.used + x.taken.used + 4 + g.used) s

  again : AgainTold name (drop (7 + h.used + x.taken.used + 4) s) g
  again = again_told name (drop (7 + h.used + x.taken.used + 4) s) g f

  head₁ : Headed h.letters
  head₁ = headed h.letters k.sold k.only

  head₂ : Headed g.letters
  head₂ = headed g.letters again.sold again.only

  told₁ : SideTold None h.letters h.a h.b first_part x
  told₁ = side_told None h.letters h.a h.b first_part head₁ x e

  told₂ : SideTold (Some x.volume) g.letters x.taken.a x.taken.b second_part y
  told₂ = side_told (Some x.volume) g.letters x.taken.a x.taken.b second_part head₂ y d

  second : Explains (Some x.volume) g.letters x.taken.a x.taken.b second_part y head₂ told₂
  second = explains_side (Some x.volume) g.letters x.taken.a x.taken.b second_part y head₂ told₂

  abbrev network : ℕ
  network = second.network

  abbrev unit : ℕ
  unit = second.unit_there.unit

  first_explained : explains network unit x.volume ≡ true
  unfolding beside
  first_explained = second.unit_there.first

  one_unit : Unit network (beside None x.volume) x.volume
  unfolding beside
  one_unit = record { unit = unit; lawful = second.unit_there.lawful; first = first_explained; second = first_explained }

  -- the original on the network of the correcting trade
  record OnIt : Type 0 where
    name_on : pick (eqb network 65) h.a h.b ≡ true
    letters_on : on_network network x.taken.side.letters ≡ true

  on_a : network ≡ 65 → OnIt
  unfolding pick
  on_a q =
      let z : x.taken.a ≡ true = ap (λ n. pick (eqb n 65) x.taken.a x.taken.b) (sym q) ∙ second.allowed in
      record { name_on = ap (λ n. pick (eqb n 65) h.a h.b) q ∙ (told₁.on_a z).0; letters_on = ap (λ n. on_network n x.taken.side.letters) q ∙ on_network_a None h.letters h.a h.b first_part x head₁ told₁ (told₁.lawful.on_a z) }

  on_b : network ≡ 66 → OnIt
  unfolding pick
  on_b q =
      let z : x.taken.b ≡ true = ap (λ n. pick (eqb n 65) x.taken.a x.taken.b) (sym q) ∙ second.allowed in
      record { name_on = ap (λ n. pick (eqb n 65) h.a h.b) q ∙ (told₁.on_b z).0; letters_on = ap (λ n. on_network n x.taken.side.letters) q ∙ on_network_b None h.letters h.a h.b first_part x head₁ told₁ (told₁.lawful.on_b z) }

  on_it : OnIt
  on_it = ⊎_elim on_a on_b (which network second.is_network_lem)

  repeats : repeats_name y.taken.side.letters ≡ again.repeated
  repeats = alike_same (repeats_name y.taken.side.letters) (leb 1 g.used) duly ∙ again.repeats

  first_text : (text : List ℕ) → side_text text network unit Full true x.taken.side ≡ (text ++ after_name h.letters) ++ take x.taken.used first_part
  first_text text = side_text_lem None h.letters h.a h.b first_part x head₁ told₁ text network unit first_explained

  second_text : (text : List ℕ) → side_text text network unit Full true y.taken.side ≡ (text ++ after_name g.letters) ++ take y.taken.used second_part
  second_text text = side_text_lem (Some x.volume) g.letters x.taken.a x.taken.b second_part y head₂ told₂ text network unit second.unit_there.second

  original : take (7 + h.used + x.taken.used) s ≡ bytes "<<CORR." ++ side_text name network unit Full true x.taken.side
  original =
      two_fronts s (7 + h.used) x.taken.used
      ∙ ap (λ z. z ++ take x.taken.used first_part) (two_fronts s 7 h.used ∙ ap (λ z. z ++ take h.used (drop 7 s)) (starts_front (bytes "<<CORR.") s opens) ∙ ap (λ z. bytes "<<CORR." ++ z) k.text)
      ∙ append_assoc (bytes "<<CORR.") (name ++ after_name h.letters) (take x.taken.used first_part)
      ∙ ap (λ z. bytes "<<CORR." ++ z) (sym (first_text name))

  -- the text up to the end pair
  up_to : take (7 + h.used + x.taken.used + 4 + g.used + y.taken.used) s ≡ bytes "<<CORR." ++ side_text name network unit Full true x.taken.side ++ bytes "WAS." ++ side_text (opt again.repeated name) network unit Full true y.taken.side
  up_to =
      let n = 7 + h.used + x.taken.used in
      two_fronts s (n + 4 + g.used) y.taken.used
      ∙ ap (λ z. z ++ take y.taken.used second_part) (two_fronts s (n + 4) g.used ∙ ap (λ z. take (n + 4) s ++ z) again.text ∙ ap (λ z. z ++ (opt again.repeated name ++ after_name g.letters)) (two_fronts s n 4 ∙ ap (λ z. take n s ++ z) (starts_front (bytes "WAS.") (drop n s) was) ∙ ap (λ z. z ++ bytes "WAS.") original))
      ∙ append_assoc (bytes "<<CORR." ++ side_text name network unit Full true x.taken.side ++ bytes "WAS.") (opt again.repeated name ++ after_name g.letters) (take y.taken.used second_part)
      ∙ ap (λ z. (bytes "<<CORR." ++ side_text name network unit Full true x.taken.side ++ bytes "WAS.") ++ z) (sym (second_text (opt again.repeated name)))

  -- the security, both sides and the text of what is read
  pub record CorrectionTold (m : ℕ) : Type 0 where
    pub on : ℕ
    pub trades_in : ℕ
    pub entered_name : List ℕ
    pub enters : Enterable on trades_in entered_name
    pub shows_original : Showable on x.taken.side
    pub shows_correcting : Showable on y.taken.side
    pub named : name_text false entered_name ≡ take h.length (drop 7 s)
    pub text : correction_text (name_text false entered_name) on trades_in Full true x.taken.side y.taken.side ≡ take m s

  pub correction_told_lem : (m : ℕ) → end_at s (7 + h.used + x.taken.used + 4 + g.used + y.taken.used) y.taken.side ≡ Some m → CorrectionTold m
  unfolding correction_text
  correction_told_lem m q =
      let b = name_built false network name second.is_network_lem (on_network_lem false (drop 7 s) h network k second.is_network_lem on_it.name_on) in
      record {
        on = network;
        trades_in = unit;
        entered_name = b.name;
        enters = record { on = second.is_network_lem; trades_in = second.unit_there.lawful; plain = b.plain; sized = b.sized; printable = b.printable };
        shows_original = shows_on None h.letters h.a h.b first_part x head₁ told₁ network on_it.letters_on one_unit;
        shows_correcting = second.shows;
        named = b.shown;
        text =
            ap (λ z. bytes "<<CORR." ++ side_text z network unit Full true x.taken.side ++ bytes "WAS." ++ side_text (opt (repeats_name y.taken.side.letters) z) network unit Full true y.taken.side ++ end_pair y.taken.side) b.shown
            ∙ ap (λ z. bytes "<<CORR." ++ side_text name network unit Full true x.taken.side ++ bytes "WAS." ++ side_text (opt z name) network unit Full true y.taken.side ++ end_pair y.taken.side) repeats
            ∙ ap (λ z. z ++ end_pair y.taken.side) (sym up_to)
            ∙ sym (end_told s (7 + h.used + x.taken.used + 4 + g.used + y.taken.used) m y.taken.side q);
      }
