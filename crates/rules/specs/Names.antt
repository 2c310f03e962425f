-- Document 01, "Names" (001, 3.2, appendices C, D). Assumes nothing.
use Rattle.std.specs.Prelude.{ℕ, Bool, true, false, ◌&&◌, ◌||◌, not, List, [], ◌∷◌, ◌++◌, map, eqb, take, drop}
use Prim.Native.String.{String}
use Rattle.text.specs.Bytes.{bytes}
use Rattle.text.specs.Pick.{opt, among, same, member}
use Rattle.text.specs.Reading.{starts}
use Rattle.rules.specs.Tape.{is_letter, is_raised}
use Rattle.rules.specs.Columns.{word, left_justified}

-- a name as it stands in columns 6 to 24 of an S line: root 6, suffix 7, temporary suffix 4, appendage 2 columns
abbrev pub root_field : List ℕ → List ℕ
root_field name = take 6 name

abbrev pub suffix_field : List ℕ → List ℕ
suffix_field name = take 7 (drop 6 name)

abbrev pub temporary_field : List ℕ → List ℕ
temporary_field name = take 4 (drop 13 name)

abbrev pub appendage_field : List ℕ → List ℕ
appendage_field name = take 2 (drop 17 name)

-- each part after the root has a letter dot before it, unless it begins with p, r or w; a blank part has none
abbrev pub letter_dot : ℕ → List ℕ
letter_dot c = opt (not (is_raised c)) (bytes ".")

unfoldable pub part_text : List ℕ → List ℕ
part_text [] = []
part_text (c ∷ s) = letter_dot c ++ (c ∷ s)

-- name = root, suffix, temporary suffix (where it is shown), appendage
unfoldable pub name_text : Bool → List ℕ → List ℕ
name_text temporary name =
    word (root_field name)
    ++ part_text (word (suffix_field name))
    ++ opt temporary (part_text (word (temporary_field name)))
    ++ part_text (word (appendage_field name))

-- a security has a temporary suffix
unfoldable pub has_temporary : List ℕ → Bool
has_temporary name = not (same (word (temporary_field name)) [])

abbrev pub texts : List String → List (List ℕ)
texts l = map bytes l

-- the suffixes that are listed one by one
unfoldable pub listed_suffixes : List (List ℕ)
listed_suffixes =
    texts ("A" ∷ "A.CL" ∷ "A.CV" ∷ "Aw" ∷ "A.N" ∷ "B" ∷ "B.CL" ∷ "B.CV" ∷ "Bw" ∷ "B.N" ∷ "CL" ∷ "CT" ∷ "CV" ∷ "CVR" ∷ "CV.CL" ∷ "EC" ∷ "F.N" ∷ "PP" ∷ "PT.CL" ∷ "SC" ∷ "SP" ∷ "SD" ∷ "TT" ∷ "U" ∷ "VR" ∷ "WD" ∷ "WS" ∷ "W.WS" ∷ "WS.A" ∷ "WS.B" ∷ "WS.N" ∷ "WSw" ∷ "XW" ∷ "r" ∷ "rw" ∷ "w" ∷ "p" ∷ "pw" ∷ "pCL" ∷ "pCV" ∷ "pCV.CL" ∷ "pWD" ∷ [])

-- a letter A-Z, alone or with .CV, .CL or w
unfoldable pub is_class : List ℕ → Bool
is_class [] = false
is_class (c ∷ s) = is_letter c && member s (texts ("" ∷ ".CV" ∷ ".CL" ∷ "w" ∷ []))

-- a letter A-K or M-S
unfoldable pub is_series : List ℕ → Bool
is_series [] = false
is_series (c ∷ s) = among c (bytes "ABCDEFGHIJKMNOPQRS") && same s []

-- the preferred families: p and a class; pC and a series
unfoldable pub is_preferred : List ℕ → Bool
is_preferred s = (starts (bytes "p") s && is_class (drop 1 s)) || (starts (bytes "pC") s && is_series (drop 2 s))

unfoldable pub is_suffix : List ℕ → Bool
is_suffix s = member s listed_suffixes || is_preferred s

unfoldable pub is_temporary : List ℕ → Bool
is_temporary s = member s (texts ("XD" ∷ "XDIS" ∷ "Xr" ∷ "N" ∷ "XI" ∷ []))

-- appendage: BC on network A, DL on B
unfoldable pub is_appendage : ℕ → List ℕ → Bool
is_appendage network s = (same s (bytes "BC") && eqb network 65) || (same s (bytes "DL") && eqb network 66)

-- roots SHRS, RULE and SELLER are reserved
unfoldable pub is_reserved : List ℕ → Bool
is_reserved root = member root (texts ("SHRS" ∷ "RULE" ∷ "SELLER" ∷ []))

-- a field that may be blank holds a listed text from its left
unfoldable pub lawful_field : (List ℕ → Bool) → List ℕ → Bool
lawful_field listed field = left_justified field && (same (word field) [] || listed (word field))

-- what refusal 8 asks of a name
unfoldable pub lawful_name : ℕ → List ℕ → Bool
lawful_name network name =
    not (is_reserved (word (root_field name)))
    && (lawful_field is_suffix (suffix_field name)
    && (lawful_field is_temporary (temporary_field name)
    && lawful_field (is_appendage network) (appendage_field name)))

-- what refusal 9 asks: a name, with or without temporary suffix, equals the other's
unfoldable pub same_name : List ℕ → List ℕ → Bool
same_name a b =
    same (name_text true a) (name_text true b)
    || (same (name_text true a) (name_text false b)
    || (same (name_text false a) (name_text true b)
    || same (name_text false a) (name_text false b)))
