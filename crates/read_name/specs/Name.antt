-- Which texts are names that an S line can enter (document 01, "Names", "Reader"): root, suffix, temporary suffix on trades only, appendage. Assumes nothing.
use Rattle.std.specs.Prelude.{ℕ, zero, suc, ◌-◌, Bool, true, ◌&&◌, ◌||◌, not, List, [], ◌∷◌, eqb, leb, length, take, drop}
use Rattle.text.specs.Bytes.{bytes}
use Rattle.text.specs.Pick.{pick, same}
use Rattle.text.specs.Reading.{heads}
use Rattle.rules.specs.Tape.{is_letter, is_raised}
use Rattle.rules.specs.Columns.{between}
use Rattle.rules.specs.Names.{is_suffix, is_reserved}

-- how many bytes at the front pass, at most k
unfoldable pub count_of : (ℕ → Bool) → ℕ → List ℕ → ℕ
count_of p zero s = 0
count_of p (suc k) [] = 0
count_of p (suc k) (c ∷ s) = pick (p c) (suc (count_of p k s)) 0

-- the text e stands at the end, and what stands before it
unfoldable pub ends_in : List ℕ → List ℕ → Bool
ends_in e s = leb (length e) (length s) && same (drop (length s - length e) s) e

abbrev pub before : List ℕ → List ℕ → List ℕ
before e s = take (length s - length e) s

-- a suffix as a name shows it: a letter dot before it, unless it begins with p, r or w; or none
unfoldable pub suffix_text : List ℕ → Bool
suffix_text [] = true
suffix_text (c ∷ s) = pick (eqb c 46) (not (heads is_raised s) && is_suffix s) (is_raised c && is_suffix (c ∷ s))

-- the temporary suffix e behind a suffix
unfoldable pub with_end : List ℕ → List ℕ → Bool
with_end e s = ends_in e s && suffix_text (before e s)

-- what follows the root, without an appendage
unfoldable pub plain_end : Bool → List ℕ → Bool
plain_end temporary s =
    suffix_text s
    || (temporary
    && (with_end (bytes ".XD") s
    || (with_end (bytes ".XDIS") s
    || (with_end (bytes ".Xr") s
    || (with_end (bytes ".N") s
    || with_end (bytes ".XI") s)))))

-- what follows the root, with or without the appendage e
unfoldable pub ends_lawfully : Bool → List ℕ → List ℕ → Bool
ends_lawfully temporary e s = plain_end temporary s || (ends_in e s && plain_end temporary (before e s))

-- a root of 1 to 6 letters, not reserved
unfoldable pub lawful_root : List ℕ → Bool
lawful_root root = between 1 6 (length root) && not (is_reserved root)

-- the letters at the front, one more than a root may have at most
abbrev pub root_count : List ℕ → ℕ
root_count name = count_of is_letter 7 name

-- the text is a name without an appendage, and so that of a security on either network
unfoldable pub name_alone : Bool → List ℕ → Bool
name_alone temporary name = lawful_root (take (root_count name) name) && plain_end temporary (drop (root_count name) name)

-- the appendage of a network: BC on A, DL on B
unfoldable pub appendage_of : ℕ → List ℕ
appendage_of network = pick (eqb network 65) (bytes ".BC") (bytes ".DL")

-- the text is the name of a security on the network
unfoldable pub name_on : Bool → ℕ → List ℕ → Bool
name_on temporary network name = lawful_root (take (root_count name) name) && ends_lawfully temporary (appendage_of network) (drop (root_count name) name)
