-- What one line can show of a security, a side and a tape's announcement, by document 01's rules for lines. Assumes nothing.
use Rattle.std.specs.Prelude.{ℕ, ◌+◌, ◌≡◌, Bool, true, ◌&&◌, not, List, eqb, leb, length}
use Rattle.text.specs.Pick.{pick, all}
use Rattle.rules.specs.Columns.{between}
use Rattle.rules.specs.Conditions.{on_network}
use Rattle.rules.specs.Shown.{shown_letters}
use Rattle.rules.specs.Line.{is_printable, is_network, is_unit, is_price}
use Rattle.rules.specs.declared.Letters.{Letters}
use Rattle.rules.specs.declared.Side.{Side}
use Rattle.rules.specs.Sizes.{name_width}
use Rattle.name_back.specs.Plain.{NamePlain}
use Rattle.name_back.specs.Cut.{one_sold}

-- a security that an S line can enter: network, unit of trading, the 19 columns of its name
pub record Enterable (network unit : ℕ) (name : List ℕ) : Type 0 where
  pub on : is_network network ≡ true
  pub trades_in : is_unit unit ≡ true
  pub plain : NamePlain network name
  pub sized : length name ≡ name_width
  pub printable : all is_printable name ≡ true

abbrev pub one : Bool → ℕ
one b = pick b 1 0

-- how many letters a side has
unfoldable pub letter_count : Letters → ℕ
letter_count x = one x.o + (one x.s + (one x.l + (one x.n + (one x.m + (one x.c + (one x.k + (one x.b + (one x.t + (one x.r + (one x.j + one x.g))))))))))

-- at most one of N M C K R, where N shows as M and C as K
unfoldable pub one_delivery : Letters → Bool
one_delivery x = not (x.m && x.k) && (not (x.m && x.r) && not (x.k && x.r))

-- letters as a print shows them: N as M, C as K; four columns; those that exclude each other
unfoldable pub showable : Letters → Bool
showable x = not x.n && (not x.c && (leb (letter_count x) 4 && (one_sold x && one_delivery x)))

-- a side that a T, X, E or C line of a security on the network can have, with its letters as they are shown
pub record Showable (network : ℕ) (x : Side) : Type 0 where
  pub letters_fit : showable x.letters ≡ true
  pub on : on_network network x.letters ≡ true
  pub volume_fits : between 1 999999999 x.volume ≡ true
  pub price_fits : is_price x.price.n x.price.d ≡ true
  pub days_fit : pick x.letters.r (between 1 999 x.days) (eqb x.days 0) ≡ true
  pub previous_fits : pick x.letters.g (is_price x.previous.n x.previous.d) (eqb x.previous.n 0 && eqb x.previous.d 0) ≡ true

-- a side with its letters as a print shows them
unfoldable pub shown_side : Side → Side
shown_side x = record { volume = x.volume; price = x.price; letters = shown_letters x.letters; days = x.days; previous = x.previous }
