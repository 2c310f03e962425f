-- What a line owes that is in its form and within its values (document 01, "Lines not taken", 4 and 5), kind by kind. Assumes nothing.
use Rattle.std.specs.Prelude.{ℕ, ◌^◌, ◌≤◌, ◌<◌, ◌≡◌, true, List, length}
use Rattle.rules.specs.declared.Number.TheVariants.{Is}
use Rattle.rules.specs.declared.Side.{Side}
use Rattle.rules.specs.declared.Listing.{Listing}
use Rattle.rules.specs.declared.Trade.{Trade}
use Rattle.rules.specs.declared.Correction.{Correction}
use Rattle.rules.specs.declared.Line.{Line}
use Rattle.rules.specs.declared.Line.TheVariants.{Dated, Listed, Moded, Leveled, Stepped, Traded, Cancelled, Erred, Corrected}
use Rattle.rules.specs.Sizes.{security_places}
use Rattle.rules.specs.Columns.{between}
use Rattle.rules.specs.Conditions.{letters_in, on_network}
use Rattle.rules.specs.Line.{is_shaped, volume_in, price_in, letters_field, first_side, second_side, name_columns}
use Rattle.print_price.specs.Sound.{Sound}
use Rattle.line_owed.specs.Shown.{Enterable, Showable, shown_side}

-- ---- the values

-- of a side: volume, price, seller days, previous last
pub record OwedSide (x : Side) : Type 0 where
  pub some : 1 ≤ x.volume
  pub volume : x.volume < 1000000000
  pub priced : 1 ≤ x.price.n
  pub price : Sound x.price
  pub days : x.days < 1000
  pub last : x.previous.n < 10 ^ 14
  pub decimals : x.previous.d ≤ 8

-- T, X, E; `shows`: where 10 and 11 do not stop it
pub record OwedTrade (t : Trade) : Type 0 where
  pub low : 1 ≤ t.security
  pub high : t.security ≤ security_places
  pub side : OwedSide t.side
  pub shows : (network : ℕ) → t.lawful ≡ true → on_network network t.side.letters ≡ true → t.matched ≡ true → Showable network (shown_side t.side)

-- C
pub record OwedCorrection (c : Correction) : Type 0 where
  pub low : 1 ≤ c.security
  pub high : c.security ≤ security_places
  pub original : OwedSide c.original
  pub correcting : OwedSide c.correcting
  pub shows_original : (network : ℕ) → c.lawful ≡ true → on_network network c.original.letters ≡ true → c.matched ≡ true → Showable network (shown_side c.original)
  pub shows_correcting : (network : ℕ) → c.lawful ≡ true → on_network network c.correcting.letters ≡ true → c.matched ≡ true → Showable network (shown_side c.correcting)

-- S
pub record OwedListing (l : Listing) : Type 0 where
  pub low : 1 ≤ l.number
  pub high : l.number ≤ security_places

unfoldable pub OwedLine : Line → Type 0
OwedLine (Dated n) = Unit {0}
OwedLine (Listed l) = OwedListing l
OwedLine (Moded m) = Unit {0}
OwedLine (Leveled n) = between 5000 100000 n ≡ true
OwedLine (Stepped n) = between 1 100 n ≡ true
OwedLine (Traded t) = OwedTrade t
OwedLine (Cancelled t) = OwedTrade t
OwedLine (Erred t) = OwedTrade t
OwedLine (Corrected c) = OwedCorrection c

-- ---- the columns that they stand in

-- a side and its 46 columns
pub record SideColumns (part : List ℕ) (x : Side) : Type 0 where
  pub size : length part ≡ 46
  pub volume_is : volume_in part ≡ Is x.volume
  pub n_is : price_in part ≡ Is x.price.n
  pub letters_is : x.letters ≡ letters_in (letters_field part)
  pub owed : OwedSide x

-- each side stands in its columns; a name that 8 does not stop is one that a security can have
unfoldable pub StandsLine : List ℕ → Line → Type 0
StandsLine line (Dated n) = Unit {0}
StandsLine line (Listed l) = is_shaped line ≡ true → l.lawful ≡ true → Enterable l.network l.unit (name_columns line)
StandsLine line (Moded m) = Unit {0}
StandsLine line (Leveled n) = Unit {0}
StandsLine line (Stepped n) = Unit {0}
StandsLine line (Traded t) = SideColumns (first_side line) t.side
StandsLine line (Cancelled t) = SideColumns (first_side line) t.side
StandsLine line (Erred t) = SideColumns (first_side line) t.side
StandsLine line (Corrected c) = SideColumns (first_side line) c.original × SideColumns (second_side line) c.correcting

-- ---- the letter of its kind

unfoldable pub kind_of : Line → ℕ
kind_of (Dated n) = 68
kind_of (Listed l) = 83
kind_of (Moded m) = 77
kind_of (Leveled n) = 86
kind_of (Stepped n) = 80
kind_of (Traded t) = 84
kind_of (Cancelled t) = 88
kind_of (Erred t) = 69
kind_of (Corrected c) = 67
