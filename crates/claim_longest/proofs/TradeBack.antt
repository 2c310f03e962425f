-- A trade that one line can print is read whole, at least, where it stands. Assumes nothing.
use Prim.Native.Nat.{ℕ, ◌+◌, ◌≤◌, ◌<◌}
use native.Mathlib.Omega.{arith}
use mathlib.Core.Path.{◌≡◌, sym, ap, ◌∙◌}
use mathlib.Core.Logic.{⊎_elim}
use mathlib.Core.Bool.{Bool, true, false, ◌||◌}
use mathlib.Core.List.{List, ◌++◌, append_assoc}
use lib.Dec.{eqb, leb}
use lib.ListN.{length, length-append}
use lib.Seq.{drop-append_seam}
use borrow.Author.Tests.{eqb-true, leb-true}
use Rattle.std.specs.Prelude.{Some, Ok}
use Rattle.text.specs.Pick.{pick, opt, among}
use Rattle.text.specs.Reading.{heads}
use Rattle.text.proofs.Texts.{and_left, and_right}
use Rattle.rules.specs.Tape.{is_upper}
use Rattle.rules.specs.Columns.{between}
use Rattle.rules.specs.Names.{name_text}
use Rattle.rules.specs.Price.{price_text}
use Rattle.rules.specs.Volume.{volume_text}
use Rattle.rules.specs.Conditions.{after_name}
use Rattle.rules.specs.Side.{head_text, tail_text, side_text}
use Rattle.rules.specs.Line.{is_network}
use Rattle.rules.specs.declared.Side.{Side}
use Rattle.text.proofs.Booleans.{false_true, or_cases}
use Rattle.print_side.proofs.SideBack.{side_lower}
use Rattle.line_owed.specs.Shown.{Enterable, Showable}
use Rattle.read_name.specs.Name.{name_on}
use Rattle.read_name.specs.Head.{head_at}
use Rattle.claim_names.proofs.Lawful.{name_lawful}
use Rattle.claim_names.proofs.Head.{head_read, head_found}
use Rattle.reader.specs.declared.PrintRead.{PrintRead}
use Rattle.reader.specs.declared.Print.TheVariants.{Trade}
use Rattle.reader.specs.Read.{trade_side, trade_head, trade_at}
use Rattle.claim_longest.proofs.SideBack.{flag_of, shown_n, side_reaches}
use Rattle.line_owed.proofs.Shown.{some_price, shown_sold}
use Rattle.rules.specs.declared.PriceForm.TheVariants.{Full}

-- the network of the name is one that the head allows
pub flag_there : (temporary : Bool) (network : ℕ) (text : List ℕ) → is_network network ≡ true → name_on temporary network text ≡ true → flag_of network (name_on temporary 65 text) (name_on temporary 66 text) ≡ true
unfolding is_network among flag_of pick
flag_there temporary network text n h =
    ⊎_elim (λ q. on_a network (eqb-true network 65 q))
    (λ q. ⊎_elim (λ r. on_b network (eqb-true network 66 r)) (λ r. absurd (false_true r)) (or_cases (eqb network 66) false q))
    (or_cases (eqb network 65) (eqb network 66 || false) n)
  where
    on_a : (k : ℕ) → network ≡ 65 → pick (eqb network 65) (name_on temporary 65 text) (name_on temporary 66 text) ≡ true
    on_a k e = ap (λ m. pick (eqb m 65) (name_on temporary 65 text) (name_on temporary 66 text)) e ∙ ap (λ m. name_on temporary m text) (sym e) ∙ h

    on_b : (k : ℕ) → network ≡ 66 → pick (eqb network 65) (name_on temporary 65 text) (name_on temporary 66 text) ≡ true
    on_b k e = ap (λ m. pick (eqb m 65) (name_on temporary 65 text) (name_on temporary 66 text)) e ∙ ap (λ m. name_on temporary m text) (sym e) ∙ h

pub volume_in : (n : ℕ) → between 1 999999999 n ≡ true → (1 ≤ n) × (n < 1000000000)
unfolding between
volume_in n h = (leb-true 1 n (and_left (leb 1 n) _ h), omega (leb-true n 999999999 (and_right (leb 1 n) _ h), arith))

-- what is read at a trade
pub record TradeReaches (s : List ℕ) (n : ℕ) : Type 0 where
  pub got : PrintRead
  pub is : trade_at s ≡ Ok (Trade got)
  pub far : n ≤ got.length

module _ (network unit : ℕ) (name : List ℕ) (x : Side) (e : Enterable network unit name) (h : Showable network x) (R : List ℕ) where
  abbrev head : List ℕ
  head = name_text true name ++ after_name x.letters

  abbrev rest : List ℕ
  rest = volume_text network unit x.volume ++ (price_text Full x.price ++ (tail_text x ++ R))

  joined : side_text (name_text true name) network unit Full true x ++ R ≡ head ++ rest
  unfolding side_text head_text opt
  joined = simp append_assoc

  size : length (side_text (name_text true name) network unit Full true x) ≡ length head + (length (volume_text network unit x.volume) + (length (price_text Full x.price) + length (tail_text x)))
  unfolding side_text head_text opt
  size = omega (length-append (head ++ volume_text network unit x.volume ++ price_text Full x.price) (tail_text x), length-append (head ++ volume_text network unit x.volume) (price_text Full x.price), length-append head (volume_text network unit x.volume), arith)

  lower : heads is_upper rest ≡ false
  unfolding opt
  lower = side_lower network unit x.volume Full true x.price (tail_text x ++ R) (some_price x.price h.price_fits)

  headed : head_at true (head ++ rest) ≡ Some (head_read true (name_text true name) x.letters)
  headed = head_found true network name e.on e.plain x.letters (shown_n network x h) (shown_sold network x h) rest lower

  -- THE TRADE, WHOLE AT LEAST
  pub trade_reaches : TradeReaches (side_text (name_text true name) network unit Full true x ++ R) (length (side_text (name_text true name) network unit Full true x))
  unfolding trade_at trade_head trade_side head_read
  trade_reaches =
      let a = name_on true 65 (name_text true name) in
      let b = name_on true 66 (name_text true name) in
      let f = flag_there true network (name_text true name) e.on (name_lawful true network name e.plain) in
      let v = volume_in x.volume h.volume_fits in
      let r = side_reaches network unit x h e.trades_in e.on a b f R v.0 v.1 in
      record {
        got = record { length = length head + r.got.taken.used; from = 0; to = length (name_text true name); side = r.got.taken.side };
        is = rw (joined, headed, drop-append_seam head rest, r.is);
        far = omega (size, r.far, arith);
      }
