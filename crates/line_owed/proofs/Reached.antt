-- Every day that can be reached: a fresh one, and by every call the next; what a call leaves of a day's securities. Assumes nothing.
use Prim.Native.Nat.{ℕ, zero, suc, ◌-◌, ◌≤◌, ◌<◌}
use native.Mathlib.Nat.{le_of_suc-le-suc, not-suc-le-zero}
use native.Mathlib.Omega.{arith}
use mathlib.Core.Path.{◌≡◌, refl, sym, ap, ◌∙◌, subst}
use mathlib.Core.Logic.{⊎_elim}
use mathlib.Core.Bool.{Bool, true, false, ◌&&◌, ◌||◌}
use mathlib.Core.List.{List, [], ◌∷◌}
use mathlib.Core.Option.{Option, none, some}
use lib.Dec.{eqb}
use lib.ListN.{length, get_or, set, replicate, length-set, length-replicate, get_or-replicate}
use lib.Seq.{get_or-set_same, get_or-set_other}
use borrow.Author.Tests.{eqb-true, eqb-false, eq-eqb, ne_eqb}
use Rattle.text.specs.Pick.{same}
use Rattle.text.proofs.Booleans.{neither, same_or_not, false_true}
use Rattle.rules.specs.Columns.{between}
use Rattle.rules.specs.Line.{line_of, name_columns}
use Rattle.rules.specs.Names.{name_text, same_name}
use Rattle.rules.specs.Day.{Day, Call, vacant, no_name, opened, cleared, fresh, security_at, is_entered, taken_name, entered, with_settings, with_security, after_line, refusal_of, after}
use Rattle.rules.specs.Trade.{after_trade}
use Rattle.rules.specs.Correction.{after_correction}
use Rattle.rules.specs.declared.Listing.{Listing}
use Rattle.rules.specs.declared.Refusal.{Refusal}
use Rattle.rules.specs.declared.Settings.{Settings}
use Rattle.rules.specs.declared.Issue.{Issue}
use Rattle.rules.specs.declared.Security.{Security}
use Rattle.rules.specs.declared.Line.{Line}
use Rattle.rules.specs.declared.Line.TheVariants.{Dated, Listed, Moded, Leveled, Stepped, Traded, Cancelled, Erred, Corrected}
use Rattle.rules.proofs.Days.{entered_alike, none_there}
use Rattle.line_owed.specs.Shown.{Enterable}
use Rattle.line_owed.specs.Owed.{kind_of}
use Rattle.line_owed.specs.Accepted.{AcceptedListing, AcceptedLine}
use Rattle.line_owed.specs.Reached.{at_place, named, Reached, Later}
use Rattle.line_owed.proofs.Owed.{unit_some}
use Rattle.line_owed.proofs.Accepted.{accepted}

-- ---- names are the same either way round

eqb_turn : (a b : ℕ) → eqb a b ≡ eqb b a
eqb_turn a b = go (eqb a b) refl
  where
    go : (x : Bool) → eqb a b ≡ x → x ≡ eqb b a
    go true e = sym (eq-eqb b a (sym (eqb-true a b e)))
    go false e = sym (ne_eqb b a (λ q. eqb-false a b e (sym q)))

same_turn : (s t : List ℕ) → same s t ≡ same t s
unfolding same
same_turn [] [] = refl
same_turn [] (b ∷ t) = refl
same_turn (a ∷ s) [] = refl
same_turn (a ∷ s) (b ∷ t) = rw (eqb_turn a b, same_turn s t)

or_turn : (a b c d : Bool) → (a || (b || (c || d))) ≡ (a || (c || (b || d)))
or_turn true b c d = refl
or_turn false true true d = refl
or_turn false true false d = refl
or_turn false false c d = refl

name_turn : (m n : List ℕ) → same_name m n ≡ same_name n m
unfolding same_name
name_turn m n =
    let a = same_turn (name_text true m) (name_text true n) in
    let b = same_turn (name_text true m) (name_text false n) in
    let c = same_turn (name_text false m) (name_text true n) in
    let d = same_turn (name_text false m) (name_text false n) in
    rw (a, b, c, d) (or_turn (same (name_text true n) (name_text true m)) (same (name_text false n) (name_text true m)) (same (name_text true n) (name_text false m)) (same (name_text false n) (name_text false m)))

-- ---- a free name is unlike every entered one

free_there : (name : List ℕ) (l : List Security) (names : List (List ℕ)) → taken_name name l names ≡ false → length l ≡ length names → (j : ℕ) → j < length l → is_entered (get_or l j vacant) ≡ true → same_name name (get_or names j no_name) ≡ false
unfolding taken_name
free_there name [] names h e j k q = absurd (not-suc-le-zero k)
free_there name (s ∷ l) [] h e j k q = absurd (omega arith)
free_there name (s ∷ l) (n ∷ names) h e zero k q = let p = neither (is_entered s && same_name name n) _ h in and_no (is_entered s) (same_name name n) q p.0
  where
    and_no : (a b : Bool) → a ≡ true → (a && b) ≡ false → b ≡ false
    and_no true b e h = h
    and_no false b e h = absurd (false_true e)
free_there name (s ∷ l) (n ∷ names) h e (suc j) k q = free_there name l names (neither (is_entered s && same_name name n) _ h).1 (omega arith) j (le_of_suc-le-suc k) q

-- ---- a change that leaves issues and names

abbrev SameIssue : Security → Security → Type 0
SameIssue s t = s.issue ≡ t.issue

module _ (day e : Day) (k : Reached day) (places : length e.securities ≡ 512) (names : e.names ≡ day.names) (same-issue : (i : ℕ) → SameIssue (at_place e i) (at_place day i)) where
  name_is : (i : ℕ) → named e i ≡ named day i
  name_is i = ap (λ (l : List (List ℕ)). get_or l i no_name) names

  entered_is : (i : ℕ) → is_entered (at_place e i) ≡ is_entered (at_place day i)
  entered_is i = entered_alike (at_place e i) (at_place day i) (same-issue i)

  kept_alike : between 1 100 e.settings.minimum ≡ true → Reached e
  kept_alike m = record {
    places = places;
    lines = ap length names ∙ k.lines;
    unnamed = λ i h q. name_is i ∙ k.unnamed i h (sym (entered_is i) ∙ q);
    enterable = λ i h q. rw (name_is i, same-issue i) (k.enterable i h (sym (entered_is i) ∙ q));
    distinct = λ i j h l n q r. rw (name_is i, name_is j) (k.distinct i j h l n (sym (entered_is i) ∙ q) (sym (entered_is j) ∙ r));
    minimum_set = m;
  }

  later_alike : Later day e
  later_alike = record {
    stays = λ i h q. entered_is i ∙ q;
    same_network = λ i h q. ap (λ (x : Issue). x.network) (same-issue i);
    name_kept = λ i h q. name_is i;
  }

pub kept_set : (day : Day) (st : Settings) → Reached day → between 1 100 st.minimum ≡ true → Reached (with_settings day st)
kept_set day st k m = kept_alike day (with_settings day st) k k.places refl (λ i. refl) m

later_set : (day : Day) (st : Settings) → Reached day → Later day (with_settings day st)
later_set day st k = later_alike day (with_settings day st) k k.places refl (λ i. refl)

-- one security changed, of the same issue
module _ (day : Day) (k : Reached day) (i : ℕ) (low : 1 ≤ i) (high : i ≤ 512) (s : Security) (same-there : SameIssue s (security_at day i)) where
  changed : (j : ℕ) → SameIssue (at_place (with_security day i s) j) (at_place day j)
  changed j = ⊎_elim
      (λ (e : j ≡ i - 1).
      let q : get_or (set day.securities (i - 1) s) j vacant ≡ s = ap (λ (m : ℕ). get_or (set day.securities (i - 1) s) m vacant) e ∙ get_or-set_same day.securities (i - 1) s vacant (omega (arith, k.places)) in
      let r : at_place day j ≡ security_at day i = ap (λ (m : ℕ). get_or day.securities m vacant) e in
      rw (q, r) same-there)
      (λ (n : j ≡ i - 1 → ⊥). let q = get_or-set_other day.securities (i - 1) j s vacant n in rw q)
      (same_or_not j (i - 1))

  kept_changed : Reached (with_security day i s)
  kept_changed = kept_alike day (with_security day i s) k (length-set day.securities (i - 1) s ∙ k.places) refl changed k.minimum_set

  later_changed : Later day (with_security day i s)
  later_changed = later_alike day (with_security day i s) k (length-set day.securities (i - 1) s ∙ k.places) refl changed

-- ---- a security entered

is_entered_lem : (l : Listing) → 1 ≤ l.unit → is_entered (entered l) ≡ true
unfolding is_entered entered
is_entered_lem l h = rw (ne_eqb l.unit 0 (omega arith))

module _ (day : Day) (k : Reached day) (name : List ℕ) (l : Listing) (f : AcceptedListing day name l) where
  abbrev p : ℕ
  p = l.number - 1

  abbrev e : Day
  e = record { settings = day.settings; securities = set day.securities p (entered l); names = set day.names p name }

  new_security : at_place e p ≡ entered l
  new_security = get_or-set_same day.securities p (entered l) vacant (omega (arith, f.owed.low, f.owed.high, k.places))

  new_name : named e p ≡ name
  new_name = get_or-set_same day.names p name no_name (omega (arith, f.owed.low, f.owed.high, k.lines))

  old_security : (j : ℕ) → (j ≡ p → ⊥) → at_place e j ≡ at_place day j
  old_security j n = get_or-set_other day.securities p j (entered l) vacant n

  old_name : (j : ℕ) → (j ≡ p → ⊥) → named e j ≡ named day j
  old_name j n = get_or-set_other day.names p j name no_name n

  was_vacant : is_entered (at_place day p) ≡ true → ⊥
  was_vacant q = false_true (sym f.vacant_place ∙ q)

  is_new : is_entered (at_place e p) ≡ true
  is_new = ap is_entered new_security ∙ is_entered_lem l (unit_some l.unit f.enters.trades_in)

  at : (j : ℕ) (C : ℕ → Type 0) → C p → ((j ≡ p → ⊥) → C j) → C j
  at j C c g = ⊎_elim (λ (q : j ≡ p). subst C (sym q) c) (λ (n : j ≡ p → ⊥). g n) (same_or_not j p)

  unlike : (j : ℕ) → j < 512 → is_entered (at_place day j) ≡ true → same_name name (named day j) ≡ false
  unlike j h q = free_there name day.securities day.names f.free_name (k.places ∙ sym k.lines) j (omega (arith, k.places)) q

  none_new : (j : ℕ) → j < 512 → is_entered (at_place e j) ≡ false → named e j ≡ no_name
  none_new j h = at j (λ j. is_entered (at_place e j) ≡ false → named e j ≡ no_name)
      (λ q. absurd (false_true (sym q ∙ is_new)))
      (λ n q. old_name j n ∙ k.unnamed j h (ap is_entered (sym (old_security j n)) ∙ q))

  enterable_new : (j : ℕ) → j < 512 → is_entered (at_place e j) ≡ true → Enterable (at_place e j).issue.network (at_place e j).issue.unit (named e j)
  unfolding entered
  enterable_new j h = at j (λ j. is_entered (at_place e j) ≡ true → Enterable (at_place e j).issue.network (at_place e j).issue.unit (named e j))
      (λ q. rw (new_security, new_name) f.enters)
      (λ n q. rw (old_security j n, old_name j n) (k.enterable j h (ap is_entered (sym (old_security j n)) ∙ q)))

  distinct_new : (i j : ℕ) → i < 512 → j < 512 → (i ≡ j → ⊥) → is_entered (at_place e i) ≡ true → is_entered (at_place e j) ≡ true → same_name (named e i) (named e j) ≡ false
  distinct_new i j h m u q r = ⊎_elim
      (λ (a : i ≡ p). ⊎_elim
      (λ (b : j ≡ p). absurd (u (a ∙ sym b)))
      (λ (b : j ≡ p → ⊥).
      let x : named e i ≡ name = ap (named e) a ∙ new_name in
      rw (x, old_name j b) (unlike j m (ap is_entered (sym (old_security j b)) ∙ r)))
      (same_or_not j p))
      (λ (a : i ≡ p → ⊥). ⊎_elim
      (λ (b : j ≡ p).
      let y : named e j ≡ name = ap (named e) b ∙ new_name in
      rw (old_name i a, y) (name_turn (named day i) name ∙ unlike i h (ap is_entered (sym (old_security i a)) ∙ q)))
      (λ (b : j ≡ p → ⊥). rw (old_name i a, old_name j b) (k.distinct i j h m u (ap is_entered (sym (old_security i a)) ∙ q) (ap is_entered (sym (old_security j b)) ∙ r)))
      (same_or_not j p))
      (same_or_not i p)

  kept_entered : Reached e
  kept_entered = record {
    places = length-set day.securities p (entered l) ∙ k.places;
    lines = length-set day.names p name ∙ k.lines;
    unnamed = none_new;
    enterable = enterable_new;
    distinct = distinct_new;
    minimum_set = k.minimum_set;
  }

  later_entered : Later day e
  later_entered = record {
    stays = λ j h q. at j (λ j. is_entered (at_place day j) ≡ true → is_entered (at_place e j) ≡ true) (λ q. is_new) (λ n q. ap is_entered (old_security j n) ∙ q) q;
    same_network = λ j h q. at j (λ j. is_entered (at_place day j) ≡ true → (at_place e j).issue.network ≡ (at_place day j).issue.network) (λ q. absurd (was_vacant q)) (λ n q. ap (λ (x : Security). x.issue.network) (old_security j n)) q;
    name_kept = λ j h q. at j (λ j. is_entered (at_place day j) ≡ true → named e j ≡ named day j) (λ q. absurd (was_vacant q)) (λ n q. old_name j n) q;
  }

-- ---- a cleared day

pub kept_cleared : (date : ℕ) → Reached (cleared date)
unfolding cleared opened between
kept_cleared date = record {
  places = length-replicate 512 vacant;
  lines = length-replicate 512 no_name;
  unnamed = λ i h q. get_or-replicate 512 i no_name no_name h;
  enterable = λ i h q. absurd (empty i h q);
  distinct = λ i j h l n q r. absurd (empty i h q);
  minimum_set = refl;
}
  where
    empty : (i : ℕ) → i < 512 → is_entered (get_or (replicate 512 vacant) i vacant) ≡ true → ⊥
    empty i h q = false_true (sym none_there ∙ (ap is_entered (sym (get_or-replicate 512 i vacant vacant h)) ∙ q))

pub kept_fresh : Reached fresh
unfolding fresh
kept_fresh = kept_cleared 0

-- ---- any accepted line

pub kept_line : (day : Day) (name : List ℕ) (l : Line) → Reached day → AcceptedLine day name l → Reached (after_line day name l)
unfolding after_line AcceptedLine after_trade after_correction
kept_line day name (Dated n) k f = kept_cleared n
kept_line day name (Listed l) k f = kept_entered day k name l f
kept_line day name (Moded m) k f = kept_set day _ k k.minimum_set
kept_line day name (Leveled n) k f = kept_set day _ k k.minimum_set
kept_line day name (Stepped n) k f = kept_set day _ k f
kept_line day name (Traded t) k f = kept_changed day k t.security f.owed.low f.owed.high _ refl
kept_line day name (Cancelled t) k f = k
kept_line day name (Erred t) k f = k
kept_line day name (Corrected c) k f = kept_changed day k c.security f.owed.low f.owed.high _ refl

-- A CALL KEEPS IT, accepted or not
pub kept_call : (day : Day) (c : Call) → Reached day → Reached (after day c)
unfolding after
kept_call day c k = go (refusal_of day c.line c.room) refl
  where
    go : (o : Option Refusal) → refusal_of day c.line c.room ≡ o → Reached (elim o [ some r ↦ day | none ↦ after_line day (name_columns c.line) (line_of c.line) ])
    go (some r) e = k
    go none e = kept_line day (name_columns c.line) (line_of c.line) k (accepted day c.line c.room e).owes

-- ---- what is left of the securities by any accepted line but a D

pub later_same : (day : Day) → Later day day
later_same day = record { stays = λ i h q. q; same_network = λ i h q. refl; name_kept = λ i h q. refl }

pub later_trans : (a b c : Day) → Later a b → Later b c → Later a c
later_trans a b c x y = record {
  stays = λ i h q. y.stays i h (x.stays i h q);
  same_network = λ i h q. y.same_network i h (x.stays i h q) ∙ x.same_network i h q;
  name_kept = λ i h q. y.name_kept i h (x.stays i h q) ∙ x.name_kept i h q;
}

pub later_line : (day : Day) (name : List ℕ) (l : Line) → Reached day → AcceptedLine day name l → (kind_of l ≡ 68 → ⊥) → Later day (after_line day name l)
unfolding after_line AcceptedLine kind_of after_trade after_correction
later_line day name (Dated n) k f z = absurd (z refl)
later_line day name (Listed l) k f z = later_entered day k name l f
later_line day name (Moded m) k f z = later_set day _ k
later_line day name (Leveled n) k f z = later_set day _ k
later_line day name (Stepped n) k f z = later_set day _ k
later_line day name (Traded t) k f z = later_changed day k t.security f.owed.low f.owed.high _ refl
later_line day name (Cancelled t) k f z = later_same day
later_line day name (Erred t) k f z = later_same day
later_line day name (Corrected c) k f z = later_changed day k c.security f.owed.low f.owed.high _ refl

-- ---- which places are entered

module _ (day : Day) (k : Reached day) (name : List ℕ) (l : Listing) (f : AcceptedListing day name l) where
  pub entered_now : is_entered (at_place (after_line day name (Listed l)) (l.number - 1)) ≡ true
  unfolding after_line
  entered_now = is_new day k name l f

  pub named_now : named (after_line day name (Listed l)) (l.number - 1) ≡ name
  unfolding after_line
  named_now = new_name day k name l f

  pub entered_before : (j : ℕ) → (j ≡ l.number - 1 → ⊥) → is_entered (at_place (after_line day name (Listed l)) j) ≡ is_entered (at_place day j)
  unfolding after_line
  entered_before j n = ap is_entered (old_security day k name l f j n)

-- other lines enter none
pub entered_same : (day : Day) (name : List ℕ) (l : Line) → Reached day → AcceptedLine day name l → (kind_of l ≡ 68 → ⊥) → (kind_of l ≡ 83 → ⊥) → (j : ℕ) → is_entered (at_place (after_line day name l) j) ≡ is_entered (at_place day j)
unfolding after_line AcceptedLine kind_of after_trade after_correction
entered_same day name (Dated n) k f z y j = absurd (z refl)
entered_same day name (Listed l) k f z y j = absurd (y refl)
entered_same day name (Moded m) k f z y j = refl
entered_same day name (Leveled n) k f z y j = refl
entered_same day name (Stepped n) k f z y j = refl
entered_same day name (Traded t) k f z y j = entered_alike _ _ (changed day k t.security f.owed.low f.owed.high _ refl j)
entered_same day name (Cancelled t) k f z y j = refl
entered_same day name (Erred t) k f z y j = refl
entered_same day name (Corrected c) k f z y j = entered_alike _ _ (changed day k c.security f.owed.low f.owed.high _ refl j)
