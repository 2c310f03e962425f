-- Where a print ends, when another print follows it: no longer print begins at its place. Assumes nothing.
use Prim.Native.Nat.{ℕ, ◌≤◌}
use native.Mathlib.Omega.{arith}
use mathlib.Core.Path.{◌≡◌, refl, sym, ap, ◌∙◌, subst}
use mathlib.Core.Bool.{Bool, true, false, ◌&&◌, not}
use mathlib.Core.List.{List, [], ◌∷◌, ◌++◌, append_assoc, append-nil}
use mathlib.Core.Option.{Option, none, some}
use lib.Dec.{eqb, leb}
use lib.ListN.{length, get_or, drop}
use borrow.Author.Tests.{leb-true, leb-false}
use Rattle.text.specs.Bytes.{bytes}
use Rattle.text.specs.Pick.{pick, opt}
use Rattle.text.specs.Reading.{Read, found, heads, is_digit, starts, past, dot_digit}
use Rattle.text.proofs.Texts.{and_right}
use Rattle.text.proofs.Reading.{past_append}
use Rattle.text.proofs.Booleans.{and_false, false_true}
use Rattle.rules.specs.Tape.{is_letter, is_upper}
use Rattle.rules.specs.Names.{name_text}
use Rattle.rules.specs.Side.{side_text}
use Rattle.rules.specs.Announcement.{minimum_text, mode_text, level_text}
use Rattle.rules.specs.Correction.{repeats_name, end_pair, cancel_text, correction_text, cancel_opening, error_opening}
use Rattle.rules.specs.NormalPrint.{ReadFact, NormalPrint}
use Rattle.rules.specs.declared.Mode.{Mode}
use Rattle.rules.specs.declared.Mode.TheVariants.{Normal, Dvd, Rpo, Mpv}
use Rattle.rules.specs.declared.Side.{Side}
use Rattle.rules.proofs.Fields.{level_below}
use Rattle.print_volume.specs.Reading.{Mark, hundreds, tens, shares, mark_at}
use Rattle.print_conditions.proofs.TailBack.{Ends}
use Rattle.print_side.specs.Reading.{read_side}
use Rattle.print_announcement.specs.Reading.{Told, read_announcement}
use Rattle.print_announcement.proofs.Back.{mode_back, level_back}
use Rattle.name_back.proofs.Parts.{front_is}
use Rattle.line_owed.specs.Shown.{Enterable, Showable}
use Rattle.claim_compose.specs.Printable.{Printable, by_mode, by_level, by_trade, by_cancel, by_error, by_correction}
use Rattle.claim_normal.proofs.Normal.{normal_printable}
use Rattle.claim_decoder.specs.Decode.{ended}
use Rattle.claim_decoder.proofs.Fresh.{Fresh, fresh_end, fresh_pair, fresh_was, side_fresh}
use Rattle.claim_decoder.proofs.Undone.{end_of, end_ends, mode_starts, level_starts}
use Rattle.claim_longest.proofs.Longest.{not_mark, trade_letter}
use Rattle.line_owed.proofs.Shown.{some_price}
use Rattle.claim_longest.proofs.Determined.{read_side_lem, read_second, parts}
use Rattle.rules.specs.declared.PriceForm.TheVariants.{Full}

-- ---- where a print ends: what is left of a text behind it

rest_of : Option (Read Told) → List ℕ
rest_of none = []
rest_of (some r) = r.rest

-- a cancel or an error, behind its opening
cancel_end : List ℕ → List ℕ
cancel_end t = let r = read_side t in ended r.got.tail r.rest

-- a correction, behind its opening
correction_end : List ℕ → List ℕ
correction_end t = cancel_end (past (bytes "WAS.") (read_side t).rest)

unfoldable end_of_lem : List ℕ → List ℕ
end_of_lem t =
    pick (starts (bytes "<<<") t) (rest_of (read_announcement t))
    (pick (starts (bytes "<<CORR.") t) (correction_end (drop 7 t))
    (pick (starts (bytes "<<CXL.") t) (cancel_end (drop 6 t))
    (pick (starts (bytes "<<ERR.") t) (cancel_end (drop 6 t))
    (read_side t).rest)))

module _ (network unit : ℕ) (name : List ℕ) (e : Enterable network unit name) (s : List ℕ) (f : Fresh s) where
  trade_end : (x : Side) → Showable network x → end_of_lem (side_text (name_text true name) network unit Full true x ++ s) ≡ s
  unfolding end_of_lem pick
  trade_end x h =
      let t = side_text (name_text true name) network unit Full true x ++ s in
      let l = trade_letter network unit name e x s in
      rw (not_mark _ t l, not_mark _ t l, not_mark _ t l, not_mark _ t l, read_side_lem network name e.plain unit x h true s f.ends)

  side_end : (x : Side) → Showable network x → cancel_end (side_text (name_text false name) network unit Full true x ++ (end_pair x ++ s)) ≡ s
  unfolding cancel_end
  side_end x h = rw (read_side_lem network name e.plain unit x h false (end_pair x ++ s) (end_ends x s f)) (end_of (name_text false name) network unit Full true x s)

  cancel_end_lem : (x : Side) → Showable network x → end_of_lem (cancel_text cancel_opening (name_text false name) network unit Full true x ++ s) ≡ s
  unfolding end_of_lem pick cancel_text starts
  cancel_end_lem x h = ap cancel_end (append_assoc (side_text (name_text false name) network unit Full true x) (end_pair x) s) ∙ side_end x h

  error_end : (x : Side) → Showable network x → end_of_lem (cancel_text error_opening (name_text false name) network unit Full true x ++ s) ≡ s
  unfolding end_of_lem pick cancel_text starts
  error_end x h = ap cancel_end (append_assoc (side_text (name_text false name) network unit Full true x) (end_pair x) s) ∙ side_end x h

  module _ (x : Side) (h : Showable network x) (y : Side) (i : Showable network y) where
    abbrev second : List ℕ
    second = side_text (opt (repeats_name y.letters) (name_text false name)) network unit Full true y

    second_end : cancel_end (second ++ (end_pair y ++ s)) ≡ s
    unfolding cancel_end
    second_end = rw (read_second network name e.plain unit x h y i (end_pair y ++ s) (end_ends y s f)) (end_of (opt (repeats_name y.letters) (name_text false name)) network unit Full true y s)

    both_end : correction_end (side_text (name_text false name) network unit Full true x ++ (bytes "WAS." ++ (second ++ (end_pair y ++ s)))) ≡ s
    unfolding correction_end
    both_end = rw (read_side_lem network name e.plain unit x h false (bytes "WAS." ++ (second ++ (end_pair y ++ s))) (fresh_was (second ++ (end_pair y ++ s))), past_append (bytes "WAS.") (second ++ (end_pair y ++ s))) second_end

    correction_end_lem : end_of_lem (correction_text (name_text false name) network unit Full true x y ++ s) ≡ s
    unfolding end_of_lem pick correction_text starts
    correction_end_lem =
        let a = side_text (name_text false name) network unit Full true x in
        ap correction_end (append_assoc (a ++ bytes "WAS." ++ second) (end_pair y) s ∙ parts a second (end_pair y ++ s)) ∙ both_end

announced_end : (t : List ℕ) (r : Told) (s : List ℕ) → starts (bytes "<<<") (t ++ s) ≡ true → read_announcement (t ++ s) ≡ some (found r s) → end_of_lem (t ++ s) ≡ s
unfolding end_of_lem pick rest_of
announced_end t r s h e = rw h (ap rest_of e)

-- behind a print that may be followed so stands what follows it
ends_at : {t n : List ℕ} {g : ReadFact} → Printable t n g → (s : List ℕ) → Fresh s → end_of_lem (t ++ s) ≡ s
ends_at (by_mode m n h) s f = announced_end (mode_text m n) _ s (mode_starts m n s) (mode_back m n s)
ends_at (by_level n h) s f = announced_end (level_text n) _ s (level_starts n s) (level_back n s (level_below n h))
ends_at (by_trade network unit name x e h) s f = trade_end network unit name e s f x h
ends_at (by_cancel network unit name x e h) s f = cancel_end_lem network unit name e s f x h
ends_at (by_error network unit name x e h) s f = error_end network unit name e s f x h
ends_at (by_correction network unit name x y e h i) s f = correction_end_lem network unit name e s f x h y i

-- ---- a front of what may follow a print may follow it too, or is the mark of a volume

heads_cut : (p : ℕ → Bool) (u w : List ℕ) → heads p (u ++ w) ≡ false → heads p u ≡ false
heads_cut p [] w h = refl
heads_cut p (c ∷ u) w h = h

starts_on : (p u w : List ℕ) → starts p u ≡ true → starts p (u ++ w) ≡ true
unfolding starts
starts_on [] u w h = refl
starts_on (a ∷ p) [] w h = absurd (false_true h)
starts_on (a ∷ p) (c ∷ u) w h = both (eqb a c) (starts p u) (starts p (u ++ w)) h (starts_on p u w (and_right (eqb a c) _ h))
  where
    both : (b x y : Bool) → (b && x) ≡ true → y ≡ true → (b && y) ≡ true
    both true x y k m = m
    both false x y k m = absurd (false_true k)

starts_cut : (p u w : List ℕ) → starts p (u ++ w) ≡ false → starts p u ≡ false
starts_cut p u w h = go (starts p u) refl
  where
    go : (b : Bool) → starts p u ≡ b → starts p u ≡ false
    go true k = absurd (false_true (sym h ∙ starts_on p u w k))
    go false k = k

dot_cut : (u w : List ℕ) → dot_digit (u ++ w) ≡ false → dot_digit u ≡ false
unfolding dot_digit
dot_cut [] w h = refl
dot_cut (c ∷ []) w h = and_false (eqb c 44)
dot_cut (c ∷ d ∷ u) w h = h

ends_cut : (u w : List ℕ) → Ends (u ++ w) → mark_at u ≡ none → Ends u
ends_cut u w e m = record {
  digit = heads_cut is_digit u w e.digit;
  cash = starts_cut (bytes ",c") u w e.cash;
  average = starts_cut (bytes ",b") u w e.average;
  stopped = starts_cut (bytes "t") u w e.stopped;
  seller = starts_cut (bytes "SELLER") u w e.seller;
  rule = starts_cut (bytes "RULE127") u w e.rule;
  previous = starts_cut (bytes ">>PREV.LAST") u w e.previous;
  dot = dot_cut u w e.dot;
  mark = m;
}

abbrev given : Option Mark → Bool
given none = false
given (some m) = true

unmarked : (a b c : Bool) → pick a (some hundreds) (pick b (some tens) (pick c (some shares) none)) ≡ none → c ≡ false
unfolding pick
unmarked true b c h = absurd (false_true (sym (ap given h)))
unmarked false true c h = absurd (false_true (sym (ap given h)))
unmarked false false true h = absurd (false_true (sym (ap given h)))
unmarked false false false h = refl

-- its first two cases
unmarked_before : (a b : Bool) (o : Option Mark) → pick a (some hundreds) (pick b (some tens) o) ≡ none → (a ≡ false) × (b ≡ false)
unfolding pick
unmarked_before true b o h = absurd (false_true (sym (ap given h)))
unmarked_before false true o h = absurd (false_true (sym (ap given h)))
unmarked_before false false o h = (refl, refl)

open_mark : List ℕ → Bool
open_mark s = starts (bytes "SHRS") s && not (heads is_upper (past (bytes "SHRS") s))

mark_no : (s : List ℕ) → starts (bytes "s") s ≡ false → starts (bytes "$") s ≡ false → open_mark s ≡ false → mark_at s ≡ none
unfolding mark_at pick open_mark
mark_no s a b c = rw (a, b, c)

mark_parts : (s : List ℕ) → mark_at s ≡ none → (starts (bytes "s") s ≡ false) × (starts (bytes "$") s ≡ false)
unfolding mark_at
mark_parts s h = unmarked_before (starts (bytes "s") s) (starts (bytes "$") s) _ h

mark_open : (s : List ℕ) → mark_at s ≡ none → open_mark s ≡ false
unfolding mark_at open_mark
mark_open s h = unmarked (starts (bytes "s") s) (starts (bytes "$") s) _ h

-- what SHRS begins goes on with a name's letter, or is SHRS alone
pub data Marks (u : List ℕ) : Type 0 where
  without : mark_at u ≡ none → Marks u
  alone : u ≡ bytes "SHRS" → Marks u

shares_cut : (z w : List ℕ) → starts (bytes "s") (bytes "SHRS" ++ z) ≡ false → starts (bytes "$") (bytes "SHRS" ++ z) ≡ false → open_mark ((bytes "SHRS" ++ z) ++ w) ≡ false → Marks (bytes "SHRS" ++ z)
unfolding open_mark starts past
shares_cut [] w a b h = alone refl
shares_cut (c ∷ z) w a b h = without (mark_no (bytes "SHRS" ++ (c ∷ z)) a b h)

unopened : (u : List ℕ) → starts (bytes "SHRS") u ≡ false → open_mark u ≡ false
unfolding open_mark
unopened u h = rw h

mark_cut : (u w : List ℕ) → mark_at (u ++ w) ≡ none → Marks u
mark_cut u w h =
    let m = mark_parts (u ++ w) h in
    go (starts_cut (bytes "s") u w m.0) (starts_cut (bytes "$") u w m.1) (mark_open (u ++ w) h) (starts (bytes "SHRS") u) refl
  where
    go : starts (bytes "s") u ≡ false → starts (bytes "$") u ≡ false → open_mark (u ++ w) ≡ false → (b : Bool) → starts (bytes "SHRS") u ≡ b → Marks u
    go a b o true k =
        let e : u ≡ bytes "SHRS" ++ drop 4 u = front_is (bytes "SHRS") u k in
        subst Marks (sym e) (shares_cut (drop 4 u) w (ap (starts (bytes "s")) (sym e) ∙ a) (ap (starts (bytes "$")) (sym e) ∙ b) (ap (λ v. open_mark (v ++ w)) (sym e) ∙ o))
    go a b o false k = without (mark_no u a b (unopened u k))

pub data Cut (u : List ℕ) : Type 0 where
  kept : Fresh u → Cut u
  mark : u ≡ bytes "SHRS" → Cut u

pair_unmarked : (u : List ℕ) → mark_at (bytes ">>" ++ u) ≡ none
unfolding mark_at starts pick
pair_unmarked u = refl

fresh_cut : (u w : List ℕ) → Fresh (u ++ w) → Cut u
fresh_cut u w f = go (mark_cut u w f.ends.mark)
  where
    go : Marks u → Cut u
    go (without m) = kept (record { ends = ends_cut u w f.ends m; pair = ends_cut (bytes ">>" ++ u) w f.pair (pair_unmarked u) })
    go (alone e) = mark e

-- a letter may follow a print, and so may a name that SHRS begins
fresh_letter : Fresh (bytes "A")
unfolding starts is_digit dot_digit mark_at pick
fresh_letter = record {
  ends = record { digit = refl; cash = refl; average = refl; stopped = refl; seller = refl; rule = refl; previous = refl; dot = refl; mark = refl };
  pair = record { digit = refl; cash = refl; average = refl; stopped = refl; seller = refl; rule = refl; previous = refl; dot = refl; mark = refl };
}

fresh_shares : Fresh (bytes "SHRS" ++ bytes "A")
unfolding starts past is_digit is_upper is_letter dot_digit mark_at pick
fresh_shares = record {
  ends = record { digit = refl; cash = refl; average = refl; stopped = refl; seller = refl; rule = refl; previous = refl; dot = refl; mark = refl };
  pair = record { digit = refl; cash = refl; average = refl; stopped = refl; seller = refl; rule = refl; previous = refl; dot = refl; mark = refl };
}

-- ---- no longer print begins where one stands that may be followed so

pub record Split (t s t' s' : List ℕ) : Type 0 where
  pub more : List ℕ
  pub longer : t' ≡ t ++ more
  pub rest : s ≡ more ++ s'

split : (t s t' s' : List ℕ) → t ++ s ≡ t' ++ s' → length t ≤ length t' → Split t s t' s'
split [] s t' s' e h = record { more = t'; longer = refl; rest = e }
split (c ∷ t) s [] s' e h = absurd (omega (h, arith))
split (c ∷ t) s (d ∷ t') s' e h =
    let r = split t s t' s' (ap (drop 1) e) (omega (h, arith)) in
    record { more = r.more; longer = ap (λ x. x ∷ t') (sym (ap (λ x. get_or x 0 0) e)) ∙ ap (λ x. c ∷ x) r.longer; rest = r.rest }

module _ {t n t' n' : List ℕ} {f f' : ReadFact} (p : Printable t n f) (q : Printable t' n' f') where
  none_more : (u : List ℕ) → t' ≡ t ++ u → Cut u → length t' ≤ length t
  none_more u e (kept k) =
      let z : u ≡ [] = sym (ends_at p u k) ∙ (ap end_of_lem (sym e ∙ sym (append-nil t')) ∙ ends_at q [] fresh_end) in
      omega (ap length (e ∙ (ap (λ x. t ++ x) z ∙ append-nil t)), arith)
  none_more u e (mark k) =
      let z : t' ++ bytes "A" ≡ t ++ (bytes "SHRS" ++ bytes "A") = ap (λ x. x ++ bytes "A") (e ∙ ap (λ x. t ++ x) k) ∙ append_assoc t (bytes "SHRS") (bytes "A") in
      absurd (unlike (sym (ends_at q (bytes "A") fresh_letter) ∙ (ap end_of_lem z ∙ ends_at p (bytes "SHRS" ++ bytes "A") fresh_shares)))
    where
      unlike : bytes "A" ≡ bytes "SHRS" ++ bytes "A" → ⊥
      unlike e = false_true (ap (λ x. leb 2 (length x)) e)

  no_longer : (s s' : List ℕ) → t ++ s ≡ t' ++ s' → Fresh s → length t' ≤ length t
  no_longer s s' e f = go (leb (length t) (length t')) refl
    where
      go : (b : Bool) → leb (length t) (length t') ≡ b → length t' ≤ length t
      go true k = let r = split t s t' s' e (leb-true _ _ k) in none_more r.more r.longer (fresh_cut r.more s' (subst Fresh r.rest f))
      go false k = omega (leb-false (length t) (length t') k, arith)

-- ---- a normal print may follow any

mode_fresh : (m : Mode) (n : ℕ) (s : List ℕ) → Fresh (mode_text m n ++ s)
unfolding mode_text minimum_text
mode_fresh Normal n s = fresh_pair _
mode_fresh Dvd n s = fresh_pair _
mode_fresh Rpo n s = fresh_pair _
mode_fresh Mpv n s = fresh_pair _

level_fresh : (n : ℕ) (s : List ℕ) → Fresh (level_text n ++ s)
unfolding level_text
level_fresh n s = fresh_pair _

pub print_fresh : {t n : List ℕ} {f : ReadFact} → Printable t n f → (s : List ℕ) → Fresh (t ++ s)
unfolding cancel_text correction_text
print_fresh (by_mode m n h) s = mode_fresh m n s
print_fresh (by_level n h) s = level_fresh n s
print_fresh (by_trade network unit name x e h) s = side_fresh network name e.plain true unit Full true x (some_price x.price h.price_fits) s
print_fresh (by_cancel network unit name x e h) s = fresh_pair _
print_fresh (by_error network unit name x e h) s = fresh_pair _
print_fresh (by_correction network unit name x y e h i) s = fresh_pair _

-- THE LONGEST NORMAL PRINT AT A PRINT THAT IS FOLLOWED SO is that print
pub exact : {text name : List ℕ} {fact : ReadFact} → NormalPrint text name fact → (rest : List ℕ) → Fresh rest → (longer name' rest' : List ℕ) (fact' : ReadFact) → NormalPrint longer name' fact' → text ++ rest ≡ longer ++ rest' → length longer ≤ length text
exact p rest f longer name' rest' fact' q e = no_longer (normal_printable p) (normal_printable q) rest rest' e f

pub next_fresh : {text name : List ℕ} {fact : ReadFact} → NormalPrint text name fact → (rest : List ℕ) → Fresh (text ++ rest)
next_fresh p rest = print_fresh (normal_printable p) rest
