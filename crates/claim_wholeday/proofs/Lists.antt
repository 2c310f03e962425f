-- Lists of calls after the date line: each call owes what the decoder asks for, and the names are those of the accepted S lines. Assumes nothing.
use Prim.Native.Nat.{ℕ, ◌-◌, ◌<◌}
use native.Mathlib.Omega.{arith}
use mathlib.Core.Path.{◌≡◌, refl, sym, ap, ◌∙◌, subst}
use mathlib.Core.Logic.{◌⊎◌, inl, inr, ⊎_elim}
use mathlib.Core.Bool.{Bool, true, false, ◌&&◌, ◌||◌}
use mathlib.Core.List.{List, [], ◌∷◌, ◌++◌}
use mathlib.Core.Option.{Option, none, some}
use lib.Dec.{eqb}
use borrow.Author.Tests.{eqb-true}
use Rattle.text.specs.Pick.{pick, same, member}
use Rattle.text.proofs.Texts.{and_left, and_right, same_true, same_refl}
use Rattle.rules.specs.Columns.{column}
use Rattle.rules.specs.Line.{line_of, of_kind, name_columns, listing_of}
use Rattle.rules.specs.Day.{Day, Call, is_entered, print_of, refusal_of, after_line, tape_of, after}
use Rattle.rules.specs.Shown.{fact_of, shown_by}
use Rattle.rules.specs.Premise.{falls, call_falls, Premise}
use Rattle.rules.specs.declared.Line.{Line}
use Rattle.rules.specs.declared.Line.TheVariants.{Listed}
use Rattle.rules.specs.declared.Refusal.{Refusal}
use Rattle.line_owed.specs.Owed.{kind_of}
use Rattle.line_owed.specs.Accepted.{AcceptedListing, AcceptedLine}
use Rattle.line_owed.specs.Reached.{at_place, named, Reached, Later}
use Rattle.line_owed.proofs.Owed.{lettered}
use Rattle.line_owed.proofs.Accepted.{accepted}
use Rattle.line_owed.proofs.Reached.{kept_call, later_same, later_trans, later_line, entered_now, named_now, entered_before, entered_same}
use Rattle.claim_wholeday.specs.Decodes.{Decodes, AllDecode, day_after}
use Rattle.claim_wholeday.specs.Claim.{accepts, accepted_of}
use Rattle.claim_wholeday.proofs.Prints.{line_owed}
use Rattle.text.proofs.Booleans.{same_or_not, false_true}

-- ---- one call, refused or accepted

module _ (day : Day) (c : Call) where
  abbrev l : Line
  l = line_of c.line

  module _ (r : Refusal) (e : refusal_of day c.line c.room ≡ some r) where
    pub after_refused : after day c ≡ day
    unfolding after
    after_refused = rw (e, after)

    pub tape_refused : tape_of day c ≡ []
    unfolding tape_of
    tape_refused = rw (e, tape_of)

    pub shown_refused : shown_by day c ≡ none
    unfolding shown_by
    shown_refused = rw (e, shown_by)

    pub not_accepted : accepts day c ≡ false
    unfolding accepts
    not_accepted = rw (e, accepts)

  module _ (e : refusal_of day c.line c.room ≡ none) where
    pub after_taken : after day c ≡ after_line day (name_columns c.line) l
    unfolding after
    after_taken = rw (e, after)

    pub tape_taken : tape_of day c ≡ print_of day l
    unfolding tape_of
    tape_taken = rw (e, tape_of)

    pub shown_taken : shown_by day c ≡ fact_of day l
    unfolding shown_by
    shown_taken = rw (e, shown_by)

    pub accepted_yes : accepts day c ≡ true
    unfolding accepts
    accepted_yes = rw (e, accepts)

    falls_taken : call_falls day c ≡ falls day l
    unfolding call_falls
    falls_taken = rw (e, call_falls)

fine : (day : Day) (line : List ℕ) (room : ℕ) → refusal_of day line room ≡ none → AcceptedLine day (name_columns line) (line_of line)
fine day line room e = (accepted day line room e).owes

-- a line of another letter is of another kind
not_kind : (kind : ℕ) (line : List ℕ) → (kind ≡ 67 → ⊥) → eqb (column 1 line) kind ≡ false → kind_of (line_of line) ≡ kind → ⊥
unfolding line_of
not_kind kind line z e k = false_true (sym e ∙ (ap (eqb (column 1 line)) (sym k) ∙ lettered (column 1 line) line (λ q. z (sym k ∙ q))))

module _ (day : Day) (c : Call) (k : Reached day) (n : (accepts day c && eqb (column 1 c.line) 68) ≡ false) where
  other_kind : refusal_of day c.line c.room ≡ none → kind_of (line_of c.line) ≡ 68 → ⊥
  other_kind e = not_kind 68 c.line (λ q. omega (q, arith)) (ap (λ (b : Bool). b && eqb (column 1 c.line) 68) (sym (accepted_yes day c e)) ∙ n)

  later_call : Later day (after day c)
  later_call = go (refusal_of day c.line c.room) refl
    where
      go : (o : Option Refusal) → refusal_of day c.line c.room ≡ o → Later day (after day c)
      go (some r) e = rw (after_refused day c r e) (later_same day)
      go none e = rw (after_taken day c e) (later_line day (name_columns c.line) (line_of c.line) k (fine day c.line c.room e) (other_kind e))

  call_owed : (e : Day) → Reached e → Later (after day c) e → call_falls day c ≡ false → Decodes e.names day (after day c) (tape_of day c) (shown_by day c)
  call_owed e z y w = go (refusal_of day c.line c.room) refl
    where
      go : (o : Option Refusal) → refusal_of day c.line c.room ≡ o → Decodes e.names day (after day c) (tape_of day c) (shown_by day c)
      go (some r) q = rw (after_refused day c r q, tape_refused day c r q, shown_refused day c r q) (record { no_text = refl; stays = refl })
      go none q =
          rw (after_taken day c q, tape_taken day c q, shown_taken day c q)
          (line_owed day e (name_columns c.line) (line_of c.line) z (later_trans day (after day c) e later_call y) (fine day c.line c.room q) (other_kind q) (sym (falls_taken day c q) ∙ w))

-- ---- a list without a date line

none_of_lem : (b : Bool) (line : List ℕ) (rest : List (List ℕ)) → pick b (line ∷ []) [] ++ rest ≡ [] → (b ≡ false) × (rest ≡ [])
unfolding pick
none_of_lem true line rest h = absurd (cons_nil line rest h)
  where
    is_nil : List (List ℕ) → Bool
    is_nil [] = true
    is_nil (x ∷ l) = false

    cons_nil : (x : List ℕ) (l : List (List ℕ)) → x ∷ l ≡ [] → ⊥
    cons_nil x l h = false_true (ap is_nil h)
none_of_lem false line rest h = (refl, h)

module _ (day : Day) (c : Call) (cs : List Call) (n : accepted_of 68 day (c ∷ cs) ≡ []) where
  no_date_now : (accepts day c && eqb (column 1 c.line) 68) ≡ false
  unfolding accepted_of
  no_date_now = (none_of_lem _ c.line (accepted_of 68 (after day c) cs) n).0

  no_date_later : accepted_of 68 (after day c) cs ≡ []
  unfolding accepted_of
  no_date_later = (none_of_lem (accepts day c && eqb (column 1 c.line) 68) c.line (accepted_of 68 (after day c) cs) n).1

pub kept_run : (cs : List Call) (day : Day) → Reached day → Reached (day_after day cs)
unfolding day_after
kept_run [] day k = k
kept_run (c ∷ cs) day k = kept_run cs (after day c) (kept_call day c k)

later_run : (cs : List Call) (day : Day) → Reached day → accepted_of 68 day cs ≡ [] → Later day (day_after day cs)
unfolding day_after
later_run [] day k n = later_same day
later_run (c ∷ cs) day k n = later_trans day (after day c) (day_after (after day c) cs) (later_call day c k (no_date_now day c cs n)) (later_run cs (after day c) (kept_call day c k) (no_date_later day c cs n))

pub all_owed : (cs : List Call) (day : Day) → Reached day → accepted_of 68 day cs ≡ [] → Premise day cs → AllDecode (day_after day cs).names day cs
unfolding day_after
all_owed [] day k n w = tt
all_owed (c ∷ cs) day k n w =
    let a = kept_call day c k in
    let z = no_date_later day c cs n in
    (call_owed day c k (no_date_now day c cs n) (day_after (after day c) cs) (kept_run cs (after day c) a) (later_run cs (after day c) a z) w.0, all_owed cs (after day c) a z w.1)

-- ---- the names come from the accepted S lines

abbrev pub place : List ℕ → ℕ
place line = (listing_of line).number - 1

pub record Stands (day : Day) (line : List ℕ) : Type 0 where
  pub inside : place line < 512
  pub is_entered_lem : is_entered (at_place day (place line)) ≡ true
  pub is_named : named day (place line) ≡ name_columns line

stands_later : (day e : Day) (line : List ℕ) → Later day e → Stands day line → Stands e line
stands_later day e line y s = record { inside = s.inside; is_entered_lem = y.stays (place line) s.inside s.is_entered_lem; is_named = y.name_kept (place line) s.inside s.is_entered_lem ∙ s.is_named }

listed_is : (kind : ℕ) (line : List ℕ) → eqb kind 83 ≡ true → (of_kind kind line).line ≡ Listed (listing_of line)
unfolding of_kind pick
listed_is kind line h = let e = eqb-true kind 83 h in rw e

fine_listing : (day : Day) (c : Call) → refusal_of day c.line c.room ≡ none → eqb (column 1 c.line) 83 ≡ true → AcceptedListing day (name_columns c.line) (listing_of c.line)
unfolding AcceptedLine line_of
fine_listing day c e q = subst (λ (z : Line). AcceptedLine day (name_columns c.line) z) (listed_is (column 1 c.line) c.line q) (fine day c.line c.room e)

after_listing : (day : Day) (c : Call) → refusal_of day c.line c.room ≡ none → eqb (column 1 c.line) 83 ≡ true → after day c ≡ after_line day (name_columns c.line) (Listed (listing_of c.line))
unfolding line_of
after_listing day c e q = after_taken day c e ∙ ap (after_line day (name_columns c.line)) (listed_is (column 1 c.line) c.line q)

stands_now : (day : Day) (c : Call) → Reached day → refusal_of day c.line c.room ≡ none → eqb (column 1 c.line) 83 ≡ true → Stands (after day c) c.line
stands_now day c k e q =
    let f = fine_listing day c e q in
    let a = after_listing day c e q in
    record {
      inside = omega (arith, f.owed.low, f.owed.high);
      is_entered_lem = rw a (entered_now day k (name_columns c.line) (listing_of c.line) f);
      is_named = rw a (named_now day k (name_columns c.line) (listing_of c.line) f);
    }

accepted_free : (day : Day) (c : Call) → accepts day c ≡ true → refusal_of day c.line c.room ≡ none
accepted_free day c h = go (refusal_of day c.line c.room) refl
  where
    go : (o : Option Refusal) → refusal_of day c.line c.room ≡ o → refusal_of day c.line c.room ≡ none
    go (some r) e = absurd (false_true (sym (not_accepted day c r e) ∙ h))
    go none e = e

member_first : (b : Bool) (line x : List ℕ) (rest : List (List ℕ)) → member line (pick b (x ∷ []) [] ++ rest) ≡ true → ((b ≡ true) × (line ≡ x)) ⊎ (member line rest ≡ true)
unfolding pick member
member_first true line x rest h = go (same line x) refl h
  where
    go : (q : Bool) → same line x ≡ q → (q || member line rest) ≡ true → ((true ≡ true) × (line ≡ x)) ⊎ (member line rest ≡ true)
    go true e h = inl (refl, same_true line x e)
    go false e h = inr h
member_first false line x rest h = inr h

-- an accepted S line stands at the end
pub stands_at_end : (cs : List Call) (day : Day) (line : List ℕ) → Reached day → accepted_of 68 day cs ≡ [] → member line (accepted_of 83 day cs) ≡ true → Stands (day_after day cs) line
unfolding accepted_of day_after member
stands_at_end [] day line k n m = absurd (false_true m)
stands_at_end (c ∷ cs) day line k n m =
    let a = kept_call day c k in
    let z = no_date_later day c cs n in
    ⊎_elim
    (λ (h : ((accepts day c && eqb (column 1 c.line) 83) ≡ true) × (line ≡ c.line)).
    let free = accepted_free day c (and_left (accepts day c) (eqb (column 1 c.line) 83) h.0) in
    stands_later (after day c) (day_after (after day c) cs) line (later_run cs (after day c) a z)
    (rw h.1 (stands_now day c k free (and_right (accepts day c) (eqb (column 1 c.line) 83) h.0))))
    (λ (h : member line (accepted_of 83 (after day c) cs) ≡ true). stands_at_end cs (after day c) line a z h)
    (member_first (accepts day c && eqb (column 1 c.line) 83) line c.line (accepted_of 83 (after day c) cs) m)

-- and each security at the end is one of the first day's, or comes from such a line
abbrev pub From : List (List ℕ) → ℕ → Type 0
From lines i = (line : List ℕ) × (member line lines ≡ true) × (place line ≡ i)

entered_call : (day : Day) (c : Call) (i : ℕ) → Reached day → (accepts day c && eqb (column 1 c.line) 68) ≡ false → is_entered (at_place (after day c) i) ≡ true → (is_entered (at_place day i) ≡ true) ⊎ (((accepts day c && eqb (column 1 c.line) 83) ≡ true) × (place c.line ≡ i))
unfolding line_of
entered_call day c i k n h = go (refusal_of day c.line c.room) (eqb (column 1 c.line) 83) refl refl
  where
    go : (o : Option Refusal) (b : Bool) → refusal_of day c.line c.room ≡ o → eqb (column 1 c.line) 83 ≡ b → (is_entered (at_place day i) ≡ true) ⊎ (((accepts day c && eqb (column 1 c.line) 83) ≡ true) × (place c.line ≡ i))
    go (some r) b e q = inl (ap (λ (d : Day). is_entered (at_place d i)) (sym (after_refused day c r e)) ∙ h)
    go none true e q = ⊎_elim
        (λ (s : i ≡ place c.line). inr (rw (accepted_yes day c e, q), sym s))
        (λ (s : i ≡ place c.line → ⊥). inl (sym (entered_before day k (name_columns c.line) (listing_of c.line) (fine_listing day c e q) i s) ∙ (ap (λ (d : Day). is_entered (at_place d i)) (sym (after_listing day c e q)) ∙ h)))
        (same_or_not i (place c.line))
    go none false e q = inl (sym (entered_same day (name_columns c.line) (line_of c.line) k (fine day c.line c.room e) (other_kind day c k n e) (not_kind 83 c.line (λ u. omega (u, arith)) q) i) ∙ (ap (λ (d : Day). is_entered (at_place d i)) (sym (after_taken day c e)) ∙ h))

member_now : (b : Bool) (x : List ℕ) (rest : List (List ℕ)) → b ≡ true → member x (pick b (x ∷ []) [] ++ rest) ≡ true
unfolding pick member
member_now true x rest e = rw (same_refl x)
member_now false x rest e = absurd (false_true e)

member_later : (b : Bool) (line x : List ℕ) (rest : List (List ℕ)) → member line rest ≡ true → member line (pick b (x ∷ []) [] ++ rest) ≡ true
unfolding pick member
member_later true line x rest h = rw h (or_yes (same line x))
  where
    or_yes : (a : Bool) → (a || true) ≡ true
    or_yes true = refl
    or_yes false = refl
member_later false line x rest h = h

pub from_lines : (cs : List Call) (day : Day) → Reached day → accepted_of 68 day cs ≡ [] → (i : ℕ) → is_entered (at_place (day_after day cs) i) ≡ true → (is_entered (at_place day i) ≡ true) ⊎ From (accepted_of 83 day cs) i
unfolding accepted_of day_after
from_lines [] day k n i h = inl h
from_lines (c ∷ cs) day k n i h =
    let a = kept_call day c k in
    ⊎_elim
    (λ (q : is_entered (at_place (after day c) i) ≡ true). ⊎_elim
    (λ (r : is_entered (at_place day i) ≡ true). inl r)
    (λ (r : ((accepts day c && eqb (column 1 c.line) 83) ≡ true) × (place c.line ≡ i)). inr (c.line, member_now _ c.line _ r.0, r.1))
    (entered_call day c i k (no_date_now day c cs n) q))
    (λ (q : From (accepted_of 83 (after day c) cs) i). inr (q.0, member_later _ q.0 c.line _ q.1, q.2))
    (from_lines cs (after day c) a (no_date_later day c cs n) i h)
