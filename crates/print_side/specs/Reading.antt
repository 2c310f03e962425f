-- A side read back from a text: its head (the name and the conditions after it, one run of the upper row), volume, price and tail. Assumes nothing.
use Rattle.std.specs.Prelude.{ℕ, Bool, List}
use Rattle.text.specs.Pick.{pick}
use Rattle.text.specs.Reading.{Read, found, span}
use Rattle.rules.specs.Tape.{is_upper}
use Rattle.rules.specs.Side.{head_text}
use Rattle.rules.specs.declared.Side.{Side}
use Rattle.print_volume.specs.Reading.{Shown, unsaid, shown_of, read_volume}
use Rattle.print_price.specs.Reading.{read_price, shown_price}
use Rattle.print_conditions.specs.Reading.{Tail, read_tail, tail_of}
use Rattle.rules.specs.declared.PriceForm.{PriceForm}

-- what a side shows
pub record SideRead : Type 0 where
  pub head : List ℕ
  pub volume : Shown
  pub price : ℕ
  pub tail : Tail

unfoldable pub read_side : List ℕ → Read SideRead
read_side s =
    let u = span is_upper s in
    let v = read_volume u.rest in
    let p = read_price v.rest in
    let t = read_tail p.rest in
    found (record { head = u.got; volume = v.got; price = p.got; tail = t.got }) t.rest

unfoldable pub side_shown : List ℕ → ℕ → ℕ → PriceForm → Bool → Side → SideRead
side_shown name network unit form shows x = record {
  head = head_text name x.letters;
  volume = pick shows (shown_of network unit x.volume) unsaid;
  price = shown_price form x.price;
  tail = tail_of x;
}
