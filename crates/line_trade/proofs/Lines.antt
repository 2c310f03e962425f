-- Laws of T lines read by themselves. Assumes nothing.
use Prim.Native.Nat.{ℕ}
use mathlib.Core.Path.{◌≡◌, refl, sym, ap, ◌∙◌}
use mathlib.Core.Bool.{Bool, true, false, ◌&&◌}
use mathlib.Core.List.{List}
use Rattle.std.specs.Prelude.{Option, Some, None, is_some, IfSome}
use Rattle.std.proofs.lemmas.Option.{same_Some}
use native.Mathlib.Omega.{arith}
use lib.Dec.{eqb}
use borrow.Author.Tests.{eqb-true}
use Rattle.text.specs.Pick.{pick}
use Rattle.text.proofs.Texts.{and_left, and_right}
use Rattle.rules.specs.declared.Trade.{Trade}
use Rattle.rules.specs.Columns.{column}
use Rattle.rules.specs.Line.{is_shaped, trade_formed, trade_ranged, trade_of}
use Rattle.line_trade.specs.declared.TradeLine.{TradeLine}
use Rattle.line_trade.specs.TradeLine.{is_good, line_in, side_in, trade_line}

-- what the quick reading has read
pub quick_good : (line : List ℕ) (r : Option TradeLine) → IfSome r (λ t. trade_line line ≡ Some t) → is_some r ≡ true → r ≡ trade_line line
quick_good line None h k = let q : ◌≡◌ {A = Bool} false true = k in let z : ◌≡◌ {A = ℕ} 0 1 = cc in absurd (omega arith)
quick_good line (Some t) h k = sym h

-- ---- what is known of a line once it is read

same_trade : (t : Trade) (a b : Bool) → t.lawful ≡ a → t.matched ≡ b → t ≡ record { security = t.security; market = t.market; side = t.side; lawful = a; matched = b }
same_trade t a b h k = rw (← h, ← k)

goodness : (line : List ℕ) (b : Bool) → is_good line ≡ b → is_some (trade_line line) ≡ b
unfolding trade_line pick
goodness line true h = rw h
goodness line false h = rw h

pub good_no : (line : List ℕ) → None ≡ trade_line line → is_good line ≡ false
good_no line e = sym (goodness line (is_good line) refl) ∙ ap is_some (sym e)

module _ (line : List ℕ) (r : TradeLine) (e : Some r ≡ trade_line line) where
  pub good_yes : is_good line ≡ true
  good_yes = sym (goodness line (is_good line) refl) ∙ ap is_some (sym e)

  from_kind : (eqb (column 1 line) 84 && (trade_formed line && (trade_ranged line && ((trade_of line).lawful && (trade_of line).matched)))) ≡ true
  unfolding is_good
  from_kind = and_right (is_shaped line) _ good_yes

  from_form : (trade_formed line && (trade_ranged line && ((trade_of line).lawful && (trade_of line).matched))) ≡ true
  from_form = and_right (eqb (column 1 line) 84) _ from_kind

  from_range : (trade_ranged line && ((trade_of line).lawful && (trade_of line).matched)) ≡ true
  from_range = and_right (trade_formed line) _ from_form

  from_letters : ((trade_of line).lawful && (trade_of line).matched) ≡ true
  from_letters = and_right (trade_ranged line) _ from_range

  pub good_shaped : is_shaped line ≡ true
  unfolding is_good
  good_shaped = and_left (is_shaped line) _ good_yes

  pub good_kind : column 1 line ≡ 84
  good_kind = eqb-true (column 1 line) 84 (and_left (eqb (column 1 line) 84) _ from_kind)

  pub good_formed : trade_formed line ≡ true
  good_formed = and_left (trade_formed line) _ from_form

  pub good_ranged : trade_ranged line ≡ true
  good_ranged = and_left (trade_ranged line) _ from_range

  good_record : r ≡ line_in (trade_of line)
  unfolding trade_line pick
  good_record = let h : Some r ≡ Some (line_in (trade_of line)) = rw good_yes at e in same_Some _ _ h

  pub good_trade : trade_of line ≡ record { security = r.security; market = r.market; side = side_in r; lawful = true; matched = true }
  unfolding line_in
  good_trade = rw good_record (same_trade (trade_of line) true true (and_left (trade_of line).lawful _ from_letters) (and_right (trade_of line).lawful _ from_letters))
