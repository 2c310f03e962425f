-- The lent tables: a security's place is `row_size` numbers, its name `name_width` bytes. Every value of them has a meaning. Assumes nothing.
use Rattle.std.specs.Prelude.{ℕ, zero, suc, ◌+◌, ◌*◌, List, [], ◌∷◌, ◌++◌, length, get_or, set, take, drop}
use Rattle.call_table.specs.Sizes.{issue_at, printed_at, range_at, counts_at, row_size}
use Rattle.rules.specs.Sizes.{security_places, name_width}
use Rattle.rules.specs.declared.Issue.{Issue}
use Rattle.rules.specs.declared.Printed.{Printed}
use Rattle.rules.specs.declared.Range.{Range}
use Rattle.rules.specs.declared.Counts.{Counts}
use Rattle.rules.specs.declared.Security.{Security}
use Rattle.rules.specs.declared.Settings.{Settings}
use Rattle.rules.specs.Day.{Day}

-- t with the numbers vs stored one after the other from b + n on
abbrev pub stored_from : List ℕ → ℕ → ℕ → List ℕ → List ℕ
stored_from t b n [] = t
stored_from t b n (v ∷ vs) = stored_from (set t (b + n) v) b (suc n) vs

-- the parts of a security, their numbers from b on
abbrev pub issue_in : List ℕ → ℕ → Issue
issue_in t b = record { unit = get_or t (b + 0) 0; network = get_or t (b + 1) 0; market = get_or t (b + 2) 0; first = get_or t (b + 3) 0 }

abbrev pub printed_in : List ℕ → ℕ → Printed
printed_in t b = record { price = get_or t (b + 0) 0 }

abbrev pub range_in : List ℕ → ℕ → Range
range_in t b = record { high = get_or t (b + 0) 0; low = get_or t (b + 1) 0; last = get_or t (b + 2) 0 }

abbrev pub counts_in : List ℕ → ℕ → Counts
counts_in t b = record { trades = get_or t (b + 0) 0; qualified = get_or t (b + 1) 0; primaries = get_or t (b + 2) 0 }

abbrev pub issue_numbers : Issue → List ℕ
issue_numbers x = x.unit ∷ x.network ∷ x.market ∷ x.first ∷ []

abbrev pub printed_numbers : Printed → List ℕ
printed_numbers x = x.price ∷ []

abbrev pub range_numbers : Range → List ℕ
range_numbers x = x.high ∷ x.low ∷ x.last ∷ []

abbrev pub counts_numbers : Counts → List ℕ
counts_numbers x = x.trades ∷ x.qualified ∷ x.primaries ∷ []

-- the security at place i
abbrev pub row : List ℕ → ℕ → Security
row t i = record {
  issue = issue_in t (i * row_size + issue_at);
  printed = printed_in t (i * row_size + printed_at);
  range = range_in t (i * row_size + range_at);
  counts = counts_in t (i * row_size + counts_at);
}

-- part after part
abbrev pub with_row : List ℕ → ℕ → Security → List ℕ
with_row t i s =
    stored_from
    (stored_from
    (stored_from
    (stored_from t (i * row_size + issue_at) 0 (issue_numbers s.issue))
    (i * row_size + printed_at) 0 (printed_numbers s.printed))
    (i * row_size + range_at) 0 (range_numbers s.range))
    (i * row_size + counts_at) 0 (counts_numbers s.counts)

-- the name at place i
unfoldable pub name_of : List ℕ → ℕ → List ℕ
name_of names i = take name_width (drop (i * name_width) names)

-- a text put into the names, from `at` on
unfoldable pub with_name : List ℕ → ℕ → List ℕ → List ℕ
with_name names at name = take at names ++ (name ++ drop (at + length name) names)

-- ---- what the tables hold

unfoldable pub rows_from : ℕ → ℕ → List ℕ → List Security
rows_from zero i t = []
rows_from (suc k) i t = row t i ∷ rows_from k (suc i) t

unfoldable pub names_from : ℕ → ℕ → List ℕ → List (List ℕ)
names_from zero i names = []
names_from (suc k) i names = name_of names i ∷ names_from k (suc i) names

-- the day that settings and tables hold
unfoldable pub day_of : Settings → List ℕ → List ℕ → Day
day_of st table names = record { settings = st; securities = rows_from security_places 0 table; names = names_from security_places 0 names }
