-- A run of the upper row told apart: the undivided name, and the conditions after it. Assumes nothing.
use Rattle.std.specs.Prelude.{ℕ, Bool, true, false, ◌&&◌, ◌||◌, not, List, [], ◌∷◌, ◌++◌, eqb}
use Rattle.std.proofs.Math.Option.{Option, none, some}
use Rattle.text.specs.Bytes.{bytes}
use Rattle.text.specs.Pick.{pick, opt, same}
use Rattle.text.specs.Reading.{Read, found, before, starts}
use Rattle.rules.specs.declared.Letters.{Letters}

-- a condition begins here: a letter dot, then ND, OPD or SLD
unfoldable pub is_after : List ℕ → Bool
is_after [] = false
is_after (c ∷ s) = eqb c 46 && (starts (bytes "ND") s || (starts (bytes "OPD") s || starts (bytes "SLD") s))

-- the name goes up to the first condition; the conditions are the rest
unfoldable pub cut : List ℕ → Read (List ℕ)
cut [] = found [] []
cut (c ∷ s) = pick (is_after (c ∷ s)) (found [] (c ∷ s)) (before c (cut s))

-- which of O, S and L
pub data Sold : Type 0 where
  plain opened sold last : Sold

unfoldable pub sold_text : Sold → List ℕ
sold_text plain = []
sold_text opened = bytes ".OPD"
sold_text sold = bytes ".SLD"
sold_text last = bytes ".SLD.LAST"

-- the conditions after a name: next day or not, and which of O, S and L
pub record After : Type 0 where
  pub next : Bool
  pub how : Sold

abbrev pub after : Bool → Sold → After
after b y = record { next = b; how = y }

unfoldable pub after_text : After → List ℕ
after_text a = opt a.next (bytes ".ND") ++ sold_text a.how

-- the eight
abbrev pub afters : List After
afters = after false plain ∷ after false opened ∷ after false sold ∷ after false last ∷ after true plain ∷ after true opened ∷ after true sold ∷ after true last ∷ []

unfoldable pub first_of : List After → List ℕ → Option After
first_of [] s = none
first_of (a ∷ l) s = pick (same s (after_text a)) (some a) (first_of l s)

-- the conditions that a text says, if it is one of the eight
unfoldable pub read_after : List ℕ → Option After
read_after s = first_of afters s

-- a run divided: the undivided name, and the conditions that its rest says
pub record Divided : Type 0 where
  pub name : List ℕ
  pub conditions : Option After

unfoldable pub divide : List ℕ → Divided
divide s = record { name = (cut s).got; conditions = read_after (cut s).rest }

-- what letters say after the name
unfoldable pub sold_of : Letters → Sold
sold_of x = pick x.o opened (pick x.s sold (pick x.l last plain))

unfoldable pub after_of : Letters → After
after_of x = after (x.n || x.m) (sold_of x)

-- at most one of O, S and L
unfoldable pub one_sold : Letters → Bool
one_sold x = not (x.o && x.s) && (not (x.o && x.l) && not (x.s && x.l))
