-- An accepted trade: its print and what it leaves (document 01, "Trades by mode", "Lines not taken", 13). Assumes nothing.
use Rattle.std.specs.Prelude.{ℕ, Bool, true, false, ◌&&◌, ◌≡◌, List, Option, is_some, IfSome, leb, length}
use Rattle.text.specs.Pick.{opt}
use Rattle.text.specs.Put.{Written}
use Rattle.rules.specs.declared.Side.{Side}
use Rattle.rules.specs.declared.Settings.{Settings}
use Rattle.rules.specs.declared.Security.{Security}
use Rattle.rules.specs.Names.{name_text}
use Rattle.rules.specs.Price.{units}
use Rattle.rules.specs.Conditions.{has_rule, on_network}
use Rattle.rules.specs.Qualifying.{for_last}
use Rattle.rules.specs.Side.{side_text}
use Rattle.rules.specs.Day.{shows_temporary}
use Rattle.rules.specs.Trade.{prints_trade, trade_form, trade_shows, after_trade}
use Rattle.call_table.specs.Rows.{with_row}

-- the print of a trade of security s, under the columns of its name
unfoldable pub trade_text : Settings → Security → List ℕ → ℕ → Side → List ℕ
trade_text st s name market x = opt (prints_trade st s market x) (side_text (name_text (shows_temporary s) name) s.issue.network s.issue.unit (trade_form st s market x) (trade_shows st s market x) x)

-- a trade that prints, with what was worked out of it
pub record Decided (st : Settings) (s : Security) (market : ℕ) (x : Side) (value : ℕ) (lasts rule : Bool) (after : Security) : Type 0 where
  pub value_is : value ≡ units x.price
  pub lasts_is : lasts ≡ for_last x.letters
  pub rule_is : rule ≡ has_rule x.letters
  pub prints_is : prints_trade st s market x ≡ true
  pub after_is : after ≡ after_trade st s market x

-- carried out exactly if it may be: the length of its print, the print, the security after it; otherwise nothing is done
pub record Done (may : Bool) (st : Settings) (s : Security) (name : List ℕ) (place market : ℕ) (x : Side) (table tape table' tape' : List ℕ) (r : Option ℕ) : Type 0 where
  pub taken_is : is_some r ≡ may
  pub stored : is_some r ≡ true → table' ≡ with_row table place (after_trade st s market x)
  pub printed : IfSome r (Written (trade_text st s name market x) tape tape')
  pub untouched : is_some r ≡ false → table' ≡ table
  pub unprinted : is_some r ≡ false → tape' ≡ tape

-- if its print fits the tape
abbrev pub Fitted : Settings → Security → List ℕ → ℕ → ℕ → Side → List ℕ → List ℕ → List ℕ → List ℕ → Option ℕ → Type 0
Fitted st s name place market x table tape = Done (leb (length (trade_text st s name market x)) (length tape)) st s name place market x table tape

-- if J and G are on the right network, and then if it fits
abbrev pub Carried : Settings → Security → List ℕ → ℕ → ℕ → Side → List ℕ → List ℕ → List ℕ → List ℕ → Option ℕ → Type 0
Carried st s name place market x table tape =
    Done (on_network s.issue.network x.letters && leb (length (trade_text st s name market x)) (length tape)) st s name place market x table tape
