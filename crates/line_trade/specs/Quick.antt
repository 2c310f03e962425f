-- A T line without days and previous last, whose numbers stand in their columns. Assumes nothing.
use Rattle.std.specs.Prelude.{ℕ, ◌-◌, ◌≤◌, ◌≡◌, true, List}
use Rattle.rules.specs.Sizes.{width}
use Rattle.rules.specs.declared.Number.TheVariants.{Is}
use Rattle.rules.specs.declared.Letters.{Letters}
use Rattle.rules.specs.declared.Side.{Side}
use Rattle.rules.specs.Columns.{columns, column, blank, number_in}
use Rattle.rules.specs.Line.{is_market, is_price, is_security_number}
use Rattle.line_columns.specs.Columns.{stands, worth_of}
use Rattle.line_trade.specs.declared.TradeLine.{TradeLine}

-- security, volume and n, each from 1 up or blank, in their columns; nothing behind the letters
pub record Placed (line : List ℕ) : Type 0 where
  pub security : stands true (columns 2 5 line) ≡ true
  pub volume : stands true (columns 7 15 line) ≡ true
  pub n : stands true (columns 16 29 line) ≡ true
  pub next : blank (columns 35 36 line) ≡ true
  pub rest : blank (columns 37 width line) ≡ true

abbrev pub security_worth : List ℕ → ℕ
security_worth line = worth_of 0 (columns 2 5 line)

abbrev pub volume_worth : List ℕ → ℕ
volume_worth line = worth_of 0 (columns 7 15 line)

abbrev pub n_worth : List ℕ → ℕ
n_worth line = worth_of 0 (columns 16 29 line)

abbrev pub d_worth : List ℕ → ℕ
d_worth line = column 30 line - 48

-- a side of volume, price and letters
unfoldable pub short_side : ℕ → ℕ → ℕ → Letters → Side
short_side volume n d letters = record { volume = volume; price = record { n = n; d = d }; letters = letters; days = 0; previous = record { n = 0; d = 0 } }

-- the line with these letters, by what its other columns are worth
unfoldable pub quick_line : List ℕ → Letters → TradeLine
quick_line line letters = record {
  security = security_worth line;
  market = column 6 line;
  volume = volume_worth line;
  n = n_worth line;
  d = d_worth line;
  letters = letters;
  days = 0;
  m = 0;
  e = 0;
}

-- each within its values
pub record QuickValues (line : List ℕ) (letters : Letters) (t : TradeLine) : Type 0 where
  pub is : t ≡ quick_line line letters
  pub place : is_security_number (security_worth line) ≡ true
  pub market : is_market (column 6 line) ≡ true
  pub some : 1 ≤ volume_worth line
  pub d_is : number_in (columns 30 30 line) ≡ Is (d_worth line)
  pub price : is_price (n_worth line) (d_worth line) ≡ true
