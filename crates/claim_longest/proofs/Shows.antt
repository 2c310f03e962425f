-- A side that is read is one that a line can have. Assumes nothing.
use Prim.Native.Nat.{ℕ, ◌+◌, ◌^◌, ◌≤◌, ◌<◌}
use native.Mathlib.Omega.{arith}
use mathlib.Core.Path.{◌≡◌, refl, sym, ap, ◌∙◌}
use mathlib.Core.Logic.{⊎_elim}
use mathlib.Core.Bool.{Bool, true, false, ◌&&◌, ◌||◌, not}
use mathlib.Core.List.{List}
use lib.Dec.{eqb, leb}
use Rattle.std.specs.Prelude.{Option}
use Rattle.text.specs.Pick.{pick, among}
use Rattle.text.proofs.Tests.{is_lt, is_le}
use Rattle.rules.specs.Columns.{between}
use Rattle.rules.specs.Conditions.{on_network}
use Rattle.rules.specs.Line.{is_price, is_network}
use Rattle.rules.specs.declared.Letters.{Letters}
use Rattle.rules.specs.declared.Price.{Price}
use Rattle.text.proofs.Booleans.{or_cases}
use Rattle.print_price.specs.Sound.{Sound}
use Rattle.name_back.specs.Cut.{one_sold}
use Rattle.line_owed.specs.Shown.{letter_count, one_delivery, showable, Showable}
use Rattle.read_volume.specs.Volume.{shares_in}
use Rattle.read_volume.proofs.Shown.{explained_some, shares_small}
use Rattle.read_volume.specs.declared.Volume.{Volume}
use Rattle.read_conditions.proofs.Lawful.{letter_count as tails·letterCount}
use Rattle.read_side.specs.declared.SideRead.{SideRead}
use Rattle.read_side.specs.Side.{beside}
use Rattle.claim_longest.proofs.Side.{Unit, days_here, number_here, decimals_here, Headed, SideTold, same_bit}

-- ---- the count of letters

all_counted : (x : Letters) → letter_count x ≡ tails·letterCount x
unfolding letter_count tails·letterCount
all_counted x = omega (same_bit x.o, same_bit x.s, same_bit x.l, same_bit x.n, same_bit x.m, same_bit x.c, same_bit x.k, same_bit x.b, same_bit x.t, same_bit x.r, same_bit x.j, same_bit x.g, arith)

-- ---- numbers

price_shows : (p : Price) → Sound p → 1 ≤ p.n → is_price p.n p.d ≡ true
unfolding is_price
price_shows p h o = rw (sym (is_le 1 p.n o), sym (is_le p.d 8 h.decimals), sym (is_lt p.n (10 ^ (6 + p.d)) h.small))

volume_shows : (n : ℕ) → 1 ≤ n → n < 1000000000 → between 1 999999999 n ≡ true
unfolding between
volume_shows n o h = rw (sym (is_le 1 n o), sym (is_le n 999999999 (omega (h, arith))))

days_show : (r : Bool) (d : ℕ) → (r ≡ true → (1 ≤ d) × (d < 1000)) → pick r 0 d ≡ 0 → pick r (between 1 999 d) (eqb d 0) ≡ true
unfolding pick between
days_show true d h z = let o = h refl in rw (sym (is_le 1 d o.0), sym (is_le d 999 (omega (o.1, arith))))
days_show false d h z = rw z

previous_shows : (g : Bool) (p : Price) → (g ≡ true → Sound p × (1 ≤ p.n)) → pick g 0 p.n ≡ 0 → pick g 0 p.d ≡ 0 → pick g (is_price p.n p.d) (eqb p.n 0 && eqb p.d 0) ≡ true
unfolding pick
previous_shows true p h z y = let o = h refl in price_shows p o.0 o.1
previous_shows false p h z y = rw (z, y)

both_or : (j : Bool) → ((not j || true) && true) ≡ true
both_or true = refl
both_or false = refl

or_last : (g : Bool) → (not g || true) ≡ true
or_last true = refl
or_last false = refl

module _ (first : Option Volume) (letters : Letters) (a b : Bool) (part : List ℕ) (x : SideRead) (h : Headed letters) (t : SideTold first letters a b part x) where
  letters_show : showable x.taken.side.letters ≡ true
  unfolding showable one_sold one_delivery
  letters_show =
      let l = t.lawful in
      let c : leb (letter_count x.taken.side.letters) 4 ≡ true = sym (is_le (letter_count x.taken.side.letters) 4 (omega (all_counted x.taken.side.letters, l.counted, l.four, arith))) in
      rw (c, t.no_n, t.no_c, t.o_kept, t.s_kept, t.l_kept, h.sold, l.m_k, l.m_r, l.k_r)

  pub shows_on : (network : ℕ) → on_network network x.taken.side.letters ≡ true → Unit network (beside first x.volume) x.volume → Showable network x.taken.side
  unfolding days_here number_here decimals_here
  shows_on network o u = record {
    letters_fit = letters_show;
    on = o;
    volume_fits = ap (between 1 999999999) t.shares ∙ volume_shows (shares_in x.volume) (explained_some network u.unit x.volume u.second) (shares_small x.volume t.small);
    price_fits = price_shows x.taken.side.price t.price_sound t.price_some;
    days_fit = days_show x.taken.side.letters.r x.taken.side.days t.lawful.days t.days_none;
    previous_fits = previous_shows x.taken.side.letters.g x.taken.side.previous t.lawful.previous t.number_none t.decimals_none;
  }

  pub on_network_a : x.taken.side.letters.g ≡ false → on_network 65 x.taken.side.letters ≡ true
  unfolding on_network
  on_network_a g = rw (g) (both_or x.taken.side.letters.j)

  pub on_network_b : x.taken.side.letters.j ≡ false → on_network 66 x.taken.side.letters ≡ true
  unfolding on_network
  on_network_b j = rw (j) (or_last x.taken.side.letters.g)

  -- the network that explains it, with its unit
  pub record Explains : Type 0 where
    pub network : ℕ
    pub is_network_lem : is_network network ≡ true
    pub unit_there : Unit network (beside first x.volume) x.volume
    pub shows : Showable network x.taken.side
    pub allowed : pick (eqb network 65) a b ≡ true

  by_a : x.taken.a ≡ true → Explains
  unfolding is_network among pick
  by_a z = let u = t.on_a z in record { network = 65; is_network_lem = refl; unit_there = u.1; shows = shows_on 65 (on_network_a (t.lawful.on_a z)) u.1; allowed = u.0 }

  by_b : x.taken.b ≡ true → Explains
  unfolding is_network among pick
  by_b z = let u = t.on_b z in record { network = 66; is_network_lem = refl; unit_there = u.1; shows = shows_on 66 (on_network_b (t.lawful.on_b z)) u.1; allowed = u.0 }

  pub explains_side : Explains
  explains_side = ⊎_elim by_a by_b (or_cases x.taken.a x.taken.b t.one)
