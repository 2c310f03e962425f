-- Document 01, "Volume" (001, 3.3). Assumes nothing.
use Rattle.std.specs.Prelude.{ℕ, ◌/◌, ◌%◌, Bool, ◌&&◌, ◌||◌, not, List, [], ◌++◌, ltb, eqb}
use Rattle.text.specs.Bytes.{bytes}
use Rattle.text.specs.Pick.{pick}
use Rattle.text.specs.Decimal.{decimal, places}

-- a figure dot and the last three digits of n
unfoldable pub group : ℕ → List ℕ
group n = bytes "," ++ places 3 n

-- full volume: figure dots at thousands and millions from 10,000 up, none below
unfoldable pub full_volume : ℕ → List ℕ
full_volume n =
    pick (ltb n 10000) (decimal n)
    (pick (ltb n 1000000) (decimal (n / 1000) ++ group n)
    (decimal (n / 1000000) ++ group (n / 1000) ++ group n))

-- a multiple of the unit is round
unfoldable pub is_round : ℕ → ℕ → Bool
is_round unit v = eqb (v % unit) 0

-- full, SHRS
unfoldable pub in_shares : ℕ → List ℕ
in_shares v = full_volume v ++ bytes "SHRS"

-- unit 100: 100 prints nothing; 200..9,900 print hundreds and s; from 10,000 full and s
unfoldable pub in_hundreds : ℕ → List ℕ
in_hundreds v = pick (eqb v 100) [] (pick (ltb v 10000) (decimal (v / 100) ++ bytes "s") (full_volume v ++ bytes "s"))

-- network A, unit below 100: from 10,000 full and $; below that, multiples of ten print tens and $, all others full and SHRS
unfoldable pub in_tens : ℕ → List ℕ
in_tens v = pick (ltb v 10000) (pick (eqb (v % 10) 0) (decimal (v / 10) ++ bytes "$") (in_shares v)) (full_volume v ++ bytes "$")

-- not round, or network B with unit below 100: full, SHRS
unfoldable pub volume_text : ℕ → ℕ → ℕ → List ℕ
volume_text network unit v =
    pick (not (is_round unit v) || (eqb network 66 && ltb unit 100)) (in_shares v)
    (pick (eqb unit 100) (in_hundreds v) (in_tens v))
