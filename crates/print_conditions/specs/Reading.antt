-- The conditions after a price and at the end, read back from a text. Assumes nothing.
use Rattle.std.specs.Prelude.{ℕ, Bool, true, false, ◌||◌, List}
use Rattle.std.proofs.Math.Option.{Option, none, some}
use Rattle.text.specs.Bytes.{bytes}
use Rattle.text.specs.Pick.{pick}
use Rattle.text.specs.Reading.{Read, found, number, starts, past, taken}
use Rattle.rules.specs.Price.{units}
use Rattle.rules.specs.declared.Side.{Side}
use Rattle.print_price.specs.Reading.{read_price}

-- SELLER and days
unfoldable pub read_days : List ℕ → Read (Option ℕ)
read_days s = elim (starts (bytes "SELLER") s) [
  | true ↦ (let r = number 0 (past (bytes "SELLER") s) in found (some r.got) r.rest)
  | false ↦ found none s
]

-- the previous last between its pairs
unfoldable pub read_previous : List ℕ → Read (Option ℕ)
read_previous s = elim (starts (bytes ">>PREV.LAST") s) [
  | true ↦ (let r = read_price (past (bytes ">>PREV.LAST") s) in found (some r.got) (past (bytes ">>") r.rest))
  | false ↦ found none s
]

-- what a tail shows
pub record Tail : Type 0 where
  pub cash : Bool
  pub average : Bool
  pub stopped : Bool
  pub days : Option ℕ
  pub rule : Bool
  pub previous : Option ℕ

unfoldable pub read_tail : List ℕ → Read Tail
read_tail s =
    let c = taken (bytes ",c") s in
    let b = taken (bytes ",b") c.rest in
    let t = taken (bytes "t") b.rest in
    let d = read_days t.rest in
    let j = taken (bytes "RULE127") d.rest in
    let p = read_previous j.rest in
    found (record { cash = c.got; average = b.got; stopped = t.got; days = d.got; rule = j.got; previous = p.got }) p.rest

abbrev pub if_there : Bool → ℕ → Option ℕ
if_there b n = pick b (some n) none

unfoldable pub tail_of : Side → Tail
tail_of x = record {
  cash = x.letters.c || x.letters.k;
  average = x.letters.b;
  stopped = x.letters.t;
  days = if_there x.letters.r x.days;
  rule = x.letters.j;
  previous = if_there x.letters.g (units x.previous);
}
