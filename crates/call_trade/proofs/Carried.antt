-- Laws of an accepted trade, in the form of the code's needs. Assumes nothing.
use Prim.Native.Nat.{ℕ, ◌/◌, ◌≤◌}
use native.Mathlib.Omega.{arith}
use mathlib.Core.Path.{◌≡◌, refl, sym, ap, ◌∙◌}
use mathlib.Core.Bool.{Bool, true, false, not}
use mathlib.Core.List.{List, []}
use Rattle.std.specs.Prelude.{Option, Some, None}
use lib.Dec.{eqb, leb}
use lib.ListN.{length, get_or}
use borrow.Author.Tests.{le-leb, leb-true, not-true, not-false}
use Rattle.text.specs.Pick.{opt}
use Rattle.text.specs.Put.{Written}
use Rattle.text.proofs.Writing.{written_nothing}
use Rattle.rules.specs.declared.Side.{Side}
use Rattle.rules.specs.declared.Settings.{Settings}
use Rattle.rules.specs.declared.Security.{Security}
use Rattle.rules.specs.Names.{name_text}
use Rattle.rules.specs.Price.{whole_part, units, form_by}
use Rattle.rules.specs.Conditions.{has_rule, on_network}
use Rattle.rules.specs.Qualifying.{for_range, for_last}
use Rattle.rules.specs.Side.{side_text}
use Rattle.rules.specs.Day.{shows_temporary}
use Rattle.rules.specs.Trade.{prints_trade, after_trade}
use Rattle.rules.specs.Sizes.{longest_print}
use Rattle.call_table.specs.Rows.{with_row, name_of}
use Rattle.name_text.proofs.Text.{name_most}
use Rattle.print_amounts.proofs.Digits.{whole_units}
use Rattle.line_owed.specs.Owed.{OwedSide, SideColumns}
use Rattle.print_side.proofs.Columns.{no_letters_lem}
use Rattle.print_side.proofs.Short.{side_short}
use Rattle.line_trade.specs.declared.TradeLine.{TradeLine}
use Rattle.line_trade.specs.TradeLine.{no_letters, side_in}
use Rattle.decide_trade.specs.Value.{prints_by, full_by, shows_by, after_by}
use Rattle.decide_trade.proofs.Value.{side_prints, side_form, side_shows, side_after}
use Rattle.call_trade.specs.Traded.{trade_text, Decided, Fitted, Carried}
use Rattle.rules.specs.declared.PriceForm.{PriceForm}

-- ---- room

-- no side is longer than `longest_print` bytes
pub room_any : (room : ℕ) (name : List ℕ) (temporary : Bool) (network unit : ℕ) (form : PriceForm) (shows : Bool) (x : Side) → OwedSide x → longest_print ≤ room → leb longest_print room ≡ leb (length (side_text (name_text temporary name) network unit form shows x)) room
room_any room name temporary network unit form shows x h l = le-leb longest_print room l ∙ sym (le-leb _ room (omega (arith, side_short x h (name_text temporary name) network unit form shows, name_most temporary name)))

pub fits : (n room : ℕ) (q : Bool) → q ≡ leb n room → not q ≡ false → n ≤ room
fits n room q e h = leb-true n room (sym e ∙ not-false q h)

-- ---- the decision, with values as callees answered them

module _ (st : Settings) (s : Security) (market : ℕ) (x : Side) (value : ℕ) (ranges lasts rule prints : Bool) (after : Security) (v : value ≡ units x.price) (g : ranges ≡ for_range x.letters) (l : lasts ≡ for_last x.letters) (u : rule ≡ has_rule x.letters) (p : prints ≡ prints_by st s market x.volume value ranges lasts rule) (a : after ≡ after_by s market value prints ranges lasts) where
  prints_is : prints ≡ prints_trade st s market x
  prints_is = side_prints st s market x value ranges lasts rule prints v g l u p

  after_is : after ≡ after_trade st s market x
  after_is = side_after st s market x value prints ranges lasts after v prints_is g l a

  pub decided : not prints ≡ false → Decided st s market x value lasts rule after
  decided h = record { value_is = v; lasts_is = l; rule_is = u; prints_is = sym prints_is ∙ not-false prints h; after_is = after_is }

  no_text : (name : List ℕ) → not prints ≡ true → trade_text st s name market x ≡ []
  unfolding trade_text opt
  no_text name h = rw (sym prints_is ∙ not-true prints h)

  pub left_off : (names : List ℕ) (place : ℕ) (table tape table' : List ℕ) → not prints ≡ true → table' ≡ with_row table place after → Fitted st s (name_of names place) place market x table tape table' tape (Some 0)
  left_off names place table tape table' h e = record {
    taken_is = rw (no_text (name_of names place) h) (sym (le-leb 0 (length tape) (omega arith)));
    stored = λ t. e ∙ ap (with_row table place) after_is;
    printed = rw (no_text (name_of names place) h) (written_nothing tape);
    untouched = λ t. absurd (let y : ◌≡◌ {A = ℕ} 0 1 = cc in omega arith);
    unprinted = λ t. absurd (let y : ◌≡◌ {A = ℕ} 0 1 = cc in omega arith);
  }

module _ (st : Settings) (s : Security) (names : List ℕ) (place market : ℕ) (x : Side) (table tape : List ℕ) where
  abbrev text : List ℕ
  text = trade_text st s (name_of names place) market x

  -- ---- printed

  module _ (value : ℕ) (lasts rule : Bool) (after : Security) (part : List ℕ) (c : SideColumns part x) (d : Decided st s market x value lasts rule after) (form : PriceForm) (shows temporary : Bool) (name : List ℕ)
      (f : form ≡ form_by (full_by st s market (value / 100000000))) (w : shows ≡ shows_by st s market x.volume lasts rule) (t : temporary ≡ shows_temporary s) (n : name ≡ name_of names place) where
    whole_is : value / 100000000 ≡ whole_part x.price
    unfolding units whole_part
    whole_is = ap (λ (z : ℕ). z / 100000000) d.value_is ∙ whole_units x.price.n x.price.d c.owed.price.decimals

    abbrev side : List ℕ
    side = side_text (name_text temporary name) s.issue.network s.issue.unit form shows x

    text_is : text ≡ side
    unfolding trade_text opt
    text_is = rw (d.prints_is, ← n, ← t, ← side_form st s market x (value / 100000000) form whole_is f, ← side_shows st s market x lasts rule shows d.lasts_is d.rule_is w)

    module _ (q : Bool) (r : q ≡ leb (length side) (length tape)) where
      pub no_room : not q ≡ true → Fitted st s (name_of names place) place market x table tape table tape None
      no_room h = record {
        taken_is = sym (not-true q h) ∙ (r ∙ ap (λ (z : List ℕ). leb (length z) (length tape)) (sym text_is));
        stored = λ y. absurd (let z : ◌≡◌ {A = ℕ} 0 1 = cc in omega arith);
        printed = tt;
        untouched = λ y. refl;
        unprinted = λ y. refl;
      }

      pub printed : (table' tape' : List ℕ) (k : ℕ) → not q ≡ false → table' ≡ with_row table place after → Written side tape tape' k → Fitted st s (name_of names place) place market x table tape table' tape' (Some k)
      printed table' tape' k h e o = record {
        taken_is = sym (not-false q h) ∙ (r ∙ ap (λ (z : List ℕ). leb (length z) (length tape)) (sym text_is));
        stored = λ y. e ∙ ap (with_row table place) d.after_is;
        printed = rw text_is o;
        untouched = λ y. absurd (let z : ◌≡◌ {A = ℕ} 0 1 = cc in omega arith);
        unprinted = λ y. absurd (let z : ◌≡◌ {A = ℕ} 0 1 = cc in omega arith);
      }

-- ---- letters

pub unmarked : (part : List ℕ) (t : TradeLine) (marked : Bool) → SideColumns part (side_in t) → not (eqb (get_or part 24 0) 32) ≡ marked → marked ≡ false → t.letters ≡ no_letters
unfolding no_letters
unmarked part t marked c e m = no_letters_lem part (side_in t) c (not-false (eqb (get_or part 24 0) 32) (e ∙ m))

-- ---- the network, then the room

module _ (st : Settings) (s : Security) (name : List ℕ) (place market : ℕ) (x : Side) (table tape : List ℕ) (q : Bool) (e : q ≡ on_network s.issue.network x.letters) where
  pub other_network : not q ≡ true → Carried st s name place market x table tape table tape None
  other_network h = record {
    taken_is = rw (← e, not-true q h);
    stored = λ y. absurd (let z : ◌≡◌ {A = ℕ} 0 1 = cc in omega arith);
    printed = tt;
    untouched = λ y. refl;
    unprinted = λ y. refl;
  }

  pub carried : (table' tape' : List ℕ) (r : Option ℕ) → not q ≡ false → Fitted st s name place market x table tape table' tape' r → Carried st s name place market x table tape table' tape' r
  carried table' tape' r h f = record {
    taken_is = rw (← e, not-false q h) f.taken_is;
    stored = f.stored;
    printed = f.printed;
    untouched = f.untouched;
    unprinted = f.unprinted;
  }
