-- The name and the conditions after it at the front of a side's text (document 01, "Reader"). Assumes nothing.
use Rattle.std.specs.Prelude.{ℕ, suc, Bool, true, false, ◌||◌, List, [], ◌∷◌, length, take, drop, Option, Some, None}
use Rattle.text.specs.Bytes.{bytes}
use Rattle.text.specs.Pick.{pick, same}
use Rattle.text.specs.Reading.{starts}
use Rattle.rules.specs.Tape.{is_upper}
use Rattle.rules.specs.declared.Letters.{Letters}
use Rattle.name_back.specs.Cut.{is_after}
use Rattle.read_name.specs.Name.{count_of, name_on}
use Rattle.read_name.specs.declared.NameRead.{NameRead}
use Rattle.read_name.specs.declared.AgainRead.{AgainRead}

-- ---- the conditions after a name: .ND, then .OPD, .SLD or .SLD.LAST

unfoldable pub letters_after : Bool → Bool → Bool → Bool → Letters
letters_after m o s l = record { o = o; s = s; l = l; n = false; m = m; c = false; k = false; b = false; t = false; r = false; j = false; g = false }

unfoldable pub sold_in : Bool → List ℕ → Option Letters
sold_in m s =
    pick (same s []) (Some (letters_after m false false false))
    (pick (same s (bytes ".OPD")) (Some (letters_after m true false false))
    (pick (same s (bytes ".SLD")) (Some (letters_after m false true false))
    (pick (same s (bytes ".SLD.LAST")) (Some (letters_after m false false true)) None)))

unfoldable pub after_in : List ℕ → Option Letters
after_in s = pick (starts (bytes ".ND") s) (sold_in true (drop 3 s)) (sold_in false s)

-- ---- the head: a run of the upper row, at most 34 bytes (a name's 22, .ND and .SLD.LAST)

abbrev pub upper_count : List ℕ → ℕ
upper_count s = count_of is_upper 35 s

-- the name goes up to the first condition
unfoldable pub name_count : List ℕ → ℕ
name_count [] = 0
name_count (c ∷ s) = pick (is_after (c ∷ s)) 0 (suc (name_count s))

-- a name is that of a security on network A, on B, or on neither
unfoldable pub named_by : Bool → List ℕ → ℕ → Option Letters → Option NameRead
named_by temporary name used None = None
named_by temporary name used (Some letters) =
    pick (name_on temporary 65 name || name_on temporary 66 name)
    (Some (record { length = length name; used = used; letters = letters; a = name_on temporary 65 name; b = name_on temporary 66 name }))
    None

unfoldable pub in_run : Bool → List ℕ → Option NameRead
in_run temporary run = named_by temporary (take (name_count run) run) (length run) (after_in (drop (name_count run) run))

-- the head of a trade (its temporary suffix may show), or of a side of a C, X or E line
unfoldable pub head_at : Bool → List ℕ → Option NameRead
head_at temporary s = in_run temporary (take (upper_count s) s)

-- ---- the head of a correcting trade: nothing, or the name again and its conditions

unfoldable pub again_by : ℕ → Option Letters → Option AgainRead
again_by used None = None
again_by used (Some letters) = Some (record { used = used; letters = letters })

unfoldable pub again_in : List ℕ → List ℕ → Option AgainRead
again_in name [] = again_by 0 (after_in [])
again_in name (c ∷ run) = pick (starts name (c ∷ run)) (again_by (length (c ∷ run)) (after_in (drop (length name) (c ∷ run)))) None

unfoldable pub again_at : List ℕ → List ℕ → Option AgainRead
again_at name s = again_in name (take (upper_count s) s)
