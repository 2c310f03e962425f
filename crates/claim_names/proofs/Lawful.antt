-- The name of a security that an S line can enter passes. Assumes nothing.
use Prim.Native.Nat.{ℕ, ◌≤◌}
use native.Mathlib.Omega.{arith}
use mathlib.Core.Path.{◌≡◌, refl, sym, ap, ◌∙◌}
use mathlib.Core.Bool.{Bool, true, false, ◌&&◌, ◌||◌, not}
use mathlib.Core.List.{List, [], ◌∷◌, ◌++◌, append_assoc, append-nil}
use lib.Dec.{eqb, leb, ltb}
use mathlib.Core.Logic.{⊎_elim}
use lib.ListN.{length, length-take}
use lib.Seq.{take-append_seam, drop-append_seam}
use borrow.Author.Tests.{eqb-true, ltb-true}
use Rattle.text.specs.Bytes.{bytes}
use Rattle.text.specs.Pick.{pick, opt, all, same, member, among}
use Rattle.text.specs.Reading.{heads}
use Rattle.text.proofs.Texts.{and_left, and_right, same_true}
use Rattle.text.proofs.Tests.{is_le, is_nle}
use Rattle.text.proofs.Booleans.{and_false, or_true, false_true, or_cases}
use Rattle.rules.specs.Tape.{is_letter, is_raised}
use Rattle.rules.specs.Columns.{word, between, left_justified}
use Rattle.rules.specs.Names.{root_field, suffix_field, temporary_field, appendage_field, part_text, name_text, is_reserved, is_suffix, is_temporary, is_appendage, lawful_field, lawful_name}
use Rattle.rules.proofs.Fields.{word_short}
use Rattle.name_back.specs.Plain.{NamePlain}
use Rattle.name_back.proofs.Root.{root_text}
use Rattle.name_back.proofs.Parts.{among_each}
use Rattle.name_back.proofs.Back.{name_parts, heads_some}
use Rattle.read_name.specs.Name.{suffix_text, with_end, plain_end, ends_lawfully, lawful_root, root_count, appendage_of, name_on}
use Rattle.claim_names.proofs.Counts.{count_all, ends_yes, before_end}

-- ---- suffix

dot_low : is_raised 46 ≡ false
unfolding is_raised among
dot_low = refl

raised_not_dot : (c : ℕ) → is_raised c ≡ true → eqb c 46 ≡ false
raised_not_dot c h = go (eqb c 46) refl
  where
    go : (b : Bool) → eqb c 46 ≡ b → b ≡ false
    go true e = absurd (false_true (sym dot_low ∙ ap is_raised (sym (eqb-true c 46 e)) ∙ h))
    go false e = refl

shown_suffix : (c : ℕ) (s : List ℕ) (b : Bool) → is_raised c ≡ b → is_suffix (c ∷ s) ≡ true → suffix_text (opt (not b) (bytes ".") ++ (c ∷ s)) ≡ true
unfolding suffix_text opt pick
shown_suffix c s true e h = rw (raised_not_dot c e, e, h)
shown_suffix c s false e h = rw (e, h)

suffix_passes : (s : List ℕ) → (same s [] || is_suffix s) ≡ true → suffix_text (part_text s) ≡ true
unfolding suffix_text part_text same
suffix_passes [] h = refl
suffix_passes (c ∷ s) h = shown_suffix c s (is_raised c) refl h

-- ---- what follows the root

with_end_lem : (e s : List ℕ) → suffix_text s ≡ true → with_end e (s ++ e) ≡ true
unfolding with_end
with_end_lem e s h = rw (ends_yes s e, before_end s e, h)

none_there : (s t : List ℕ) → suffix_text s ≡ true → t ≡ [] → plain_end true (s ++ part_text t) ≡ true
unfolding plain_end part_text
none_there s t h e = rw (e, append-nil s, h)

-- one of the five temporary suffixes
module _ (s : List ℕ) (h : suffix_text s ≡ true) where
  shown_xd : plain_end true (s ++ bytes ".XD") ≡ true
  unfolding plain_end
  shown_xd = rw (with_end_lem (bytes ".XD") s h, or_true)

  shown_xdis : plain_end true (s ++ bytes ".XDIS") ≡ true
  unfolding plain_end
  shown_xdis = rw (with_end_lem (bytes ".XDIS") s h, or_true, or_true)

  shown_xr : plain_end true (s ++ bytes ".Xr") ≡ true
  unfolding plain_end
  shown_xr = rw (with_end_lem (bytes ".Xr") s h, or_true, or_true, or_true)

  shown_n : plain_end true (s ++ bytes ".N") ≡ true
  unfolding plain_end
  shown_n = rw (with_end_lem (bytes ".N") s h, or_true, or_true, or_true, or_true)

  shown_xi : plain_end true (s ++ bytes ".XI") ≡ true
  unfolding plain_end
  shown_xi = rw (with_end_lem (bytes ".XI") s h, or_true, or_true, or_true, or_true, or_true)

  some_there : (t : List ℕ) → is_temporary t ≡ true → plain_end true (s ++ part_text t) ≡ true
  unfolding is_temporary member part_text opt is_raised among
  some_there t m =
      ⊎_elim (λ q. rw (same_true t (bytes "XD") q) shown_xd)
      (λ m₂. ⊎_elim (λ q. rw (same_true t (bytes "XDIS") q) shown_xdis)
      (λ m₃. ⊎_elim (λ q. rw (same_true t (bytes "Xr") q) shown_xr)
      (λ m₄. ⊎_elim (λ q. rw (same_true t (bytes "N") q) shown_n)
      (λ m₅. ⊎_elim (λ q. rw (same_true t (bytes "XI") q) shown_xi)
      (λ q. absurd (false_true q))
      (or_cases (same t (bytes "XI")) false m₅))
      (or_cases (same t (bytes "N")) (same t (bytes "XI") || false) m₄))
      (or_cases (same t (bytes "Xr")) (same t (bytes "N") || (same t (bytes "XI") || false)) m₃))
      (or_cases (same t (bytes "XDIS")) (same t (bytes "Xr") || (same t (bytes "N") || (same t (bytes "XI") || false))) m₂))
      (or_cases (same t (bytes "XD")) (same t (bytes "XDIS") || (same t (bytes "Xr") || (same t (bytes "N") || (same t (bytes "XI") || false)))) m)

-- a temporary suffix as a name shows it: nothing, or one of five, on trades
temporary_passes : (temporary : Bool) (s t : List ℕ) → suffix_text s ≡ true → (same t [] || is_temporary t) ≡ true → plain_end temporary (s ++ opt temporary (part_text t)) ≡ true
unfolding opt plain_end
temporary_passes false s t h k = rw (append-nil s, h)
temporary_passes true s t h k = ⊎_elim (λ e. none_there s t h (same_true t [] e)) (λ m. some_there s h t m) (or_cases (same t []) (is_temporary t) k)

not_a : (network : ℕ) → eqb network 66 ≡ true → eqb network 65 ≡ false
not_a network h = ap (λ n. eqb n 65) (eqb-true network 66 h)

own_there : (temporary : Bool) (network : ℕ) (s t : List ℕ) → plain_end temporary s ≡ true → is_appendage network t ≡ true → ends_lawfully temporary (appendage_of network) (s ++ part_text t) ≡ true
unfolding is_appendage ends_lawfully appendage_of part_text opt is_raised among pick
own_there temporary network s t h m =
    ⊎_elim
    (λ q. rw (same_true t (bytes "BC") (and_left (same t (bytes "BC")) (eqb network 65) q), and_right (same t (bytes "BC")) (eqb network 65) q, ends_yes s (bytes ".BC"), before_end s (bytes ".BC"), h, or_true))
    (λ q. rw (same_true t (bytes "DL") (and_left (same t (bytes "DL")) (eqb network 66) q), not_a network (and_right (same t (bytes "DL")) (eqb network 66) q), ends_yes s (bytes ".DL"), before_end s (bytes ".DL"), h, or_true))
    (or_cases (same t (bytes "BC") && eqb network 65) (same t (bytes "DL") && eqb network 66) m)

-- the appendage of the network, or none
appendage_passes : (temporary : Bool) (network : ℕ) (s t : List ℕ) → plain_end temporary s ≡ true → (same t [] || is_appendage network t) ≡ true → ends_lawfully temporary (appendage_of network) (s ++ part_text t) ≡ true
unfolding ends_lawfully part_text
appendage_passes temporary network s t h k = ⊎_elim (λ e. rw (same_true t [] e, append-nil s, h)) (λ m. own_there temporary network s t h m) (or_cases (same t []) (is_appendage network t) k)

-- ---- the name

lawful_word : (listed : List ℕ → Bool) (field : List ℕ) → lawful_field listed field ≡ true → (same (word field) [] || listed (word field)) ≡ true
unfolding lawful_field
lawful_word listed field h = and_right (left_justified field) _ h

root_short : (name : List ℕ) → length (word (root_field name)) ≤ 7
root_short name = omega (word_short (root_field name), length-take 6 name, arith)

-- above Z
above : ℕ → Bool
above c = ltb 90 c

not_letter : (c : ℕ) → above c ≡ true → is_letter c ≡ false
unfolding above is_letter
not_letter c h = rw (sym (is_nle c 90 (ltb-true 90 c h))) (and_false (leb 65 c))

raised_low : (c : ℕ) → is_raised c ≡ true → is_letter c ≡ false
unfolding is_raised above all
raised_low c h = not_letter c (among_each above (bytes "prw") c refl h)

shown_low : (c : ℕ) (s u : List ℕ) (b : Bool) → is_raised c ≡ b → heads is_letter ((opt (not b) (bytes ".") ++ (c ∷ s)) ++ u) ≡ false
unfolding opt is_letter
shown_low c s u true e = raised_low c e
shown_low c s u false e = refl

-- what follows the root begins with a letter dot or a raised letter
part_low : (s u : List ℕ) → heads is_letter u ≡ false → heads is_letter (part_text s ++ u) ≡ false
unfolding part_text opt
part_low [] u h = h
part_low (c ∷ s) u h = shown_low c s u (is_raised c) refl

lawful_root_lem : (name : List ℕ) → not (is_reserved (word (root_field name))) ≡ true → heads is_letter (word (root_field name)) ≡ true → lawful_root (word (root_field name)) ≡ true
unfolding lawful_root between
lawful_root_lem name h k =
    let a : leb 1 (length (word (root_field name))) ≡ true = sym (is_le 1 (length (word (root_field name))) (heads_some is_letter (word (root_field name)) k)) in
    let b : leb (length (word (root_field name))) 6 ≡ true = sym (is_le (length (word (root_field name))) 6 (omega (word_short (root_field name), length-take 6 name, arith))) in
    rw (a, b, h)

opt_low : (b : Bool) (t u : List ℕ) → heads is_letter (t ++ u) ≡ false → heads is_letter u ≡ false → heads is_letter (opt b t ++ u) ≡ false
unfolding opt
opt_low true t u h k = h
opt_low false t u h k = k

rest_low : (temporary : Bool) (s t e : List ℕ) → heads is_letter ((part_text s ++ opt temporary (part_text t)) ++ part_text e) ≡ false
rest_low temporary s t e =
    let k : heads is_letter (part_text e) ≡ false = ap (heads is_letter) (sym (append-nil (part_text e))) ∙ part_low e [] refl in
    rw (append_assoc) (part_low s (opt temporary (part_text t) ++ part_text e) (opt_low temporary (part_text t) (part_text e) (part_low t (part_text e) k) k))

pub name_lawful : (temporary : Bool) (network : ℕ) (name : List ℕ) → NamePlain network name → name_on temporary network (name_text temporary name) ≡ true
unfolding name_on lawful_name
name_lawful temporary network name h =
    let root = word (root_field name) in
    let r = not (is_reserved root) in
    let p = lawful_field is_suffix (suffix_field name) in
    let q = lawful_field is_temporary (temporary_field name) in
    let a = lawful_field (is_appendage network) (appendage_field name) in
    let l = and_right r (p && (q && a)) h.lawful in
    let s = part_text (word (suffix_field name)) in
    let t = opt temporary (part_text (word (temporary_field name))) in
    let e = part_text (word (appendage_field name)) in
    let u = suffix_passes (word (suffix_field name)) (lawful_word is_suffix (suffix_field name) (and_left p (q && a) l)) in
    let v = temporary_passes temporary s (word (temporary_field name)) u (lawful_word is_temporary (temporary_field name) (and_left q a (and_right p (q && a) l))) in
    let w = appendage_passes temporary network (s ++ t) (word (appendage_field name)) v (lawful_word (is_appendage network) (appendage_field name) (and_right q a (and_right p (q && a) l))) in
    let x : name_text temporary name ≡ root ++ ((s ++ t) ++ e) = name_parts network name h temporary ∙ ap (λ z. root ++ z) (sym (append_assoc s t e)) in
    let c : root_count (root ++ ((s ++ t) ++ e)) ≡ length root = count_all is_letter 7 root ((s ++ t) ++ e) (root_text (root_field name) h.root).1 (root_short name) (rest_low temporary (word (suffix_field name)) (word (temporary_field name)) (word (appendage_field name))) in
    rw (x, c, take-append_seam root ((s ++ t) ++ e), drop-append_seam root ((s ++ t) ++ e), w, lawful_root_lem name (and_left r (p && (q && a)) h.lawful) (root_text (root_field name) h.root).0)
