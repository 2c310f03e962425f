-- A T line that nothing but the day's state can stop. Assumes nothing.
use Rattle.std.specs.Prelude.{ℕ, Bool, false, ◌&&◌, List, Option, Some, None, eqb}
use Rattle.text.specs.Pick.{pick}
use Rattle.rules.specs.declared.Letters.{Letters}
use Rattle.rules.specs.declared.Side.{Side}
use Rattle.rules.specs.declared.Trade.{Trade}
use Rattle.rules.specs.Columns.{column}
use Rattle.rules.specs.Line.{is_shaped, trade_formed, trade_ranged, trade_of}
use Rattle.line_kinds.specs.declared.TradeRead.{TradeRead}
use Rattle.line_trade.specs.declared.TradeLine.{TradeLine}

-- 100 bytes of 32 to 126, a T, in its form, within its values, its letters lawful by themselves, days with R, previous last with G
unfoldable pub is_good : List ℕ → Bool
is_good line =
    is_shaped line
    && (eqb (column 1 line) 84
    && (trade_formed line
    && (trade_ranged line
    && ((trade_of line).lawful
    && (trade_of line).matched))))

-- the same of the fields as they were read
unfoldable pub good_fields : TradeRead → Bool
good_fields read = read.formed && (read.ranged && (read.trade.lawful && read.trade.matched))

unfoldable pub no_letters : Letters
no_letters = record { o = false; s = false; l = false; n = false; m = false; c = false; k = false; b = false; t = false; r = false; j = false; g = false }

-- a trade, number by number
unfoldable pub line_in : Trade → TradeLine
line_in t = record {
  security = t.security;
  market = t.market;
  volume = t.side.volume;
  n = t.side.price.n;
  d = t.side.price.d;
  letters = t.side.letters;
  days = t.side.days;
  m = t.side.previous.n;
  e = t.side.previous.d;
}

-- its side
abbrev pub side_in : TradeLine → Side
side_in r = record { volume = r.volume; price = record { n = r.n; d = r.d }; letters = r.letters; days = r.days; previous = record { n = r.m; d = r.e } }

-- or any other line
unfoldable pub trade_line : List ℕ → Option TradeLine
trade_line line = pick (is_good line) (Some (line_in (trade_of line))) None
