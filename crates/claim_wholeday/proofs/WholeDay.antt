-- DEMAND 3, proved. Two lists of calls, each from a fresh state: where the tapes are equal, the facts are. Assumes nothing.
-- Both are what one decoder finds on the tape, by the names of the accepted S lines. It carries the mode and the last printed prices, which the tape shows.
use Prim.Native.Nat.{ℕ, ◌<◌}
use native.Mathlib.Omega.{arith}
use mathlib.Core.Path.{◌≡◌, refl, sym, ap, ◌∙◌, subst}
use mathlib.Core.Logic.{⊎_elim}
use mathlib.Core.Bool.{Bool, true, false, ◌&&◌}
use mathlib.Core.List.{List, [], ◌∷◌, ◌++◌}
use mathlib.Core.Option.{Option, none, some}
use lib.Dec.{eqb}
use lib.ListN.{length, get_or-replicate}
use lib.Seq.{ext_get_or}
use borrow.Author.Tests.{eqb-true}
use Rattle.text.specs.Pick.{pick, member}
use Rattle.rules.specs.Columns.{column, columns, number_in, value_of}
use Rattle.rules.specs.Line.{line_of, name_columns}
use Rattle.rules.specs.Day.{Day, Call, vacant, no_name, opened, cleared, fresh, is_entered, undated, print_of, refusal_of, after_line, tape_of, after}
use Rattle.rules.specs.Shown.{fact_of, shown_by, shown}
use Rattle.rules.specs.Premise.{Premise}
use Rattle.rules.specs.declared.Line.TheVariants.{Dated}
use Rattle.rules.specs.declared.Refusal.{Refusal}
use Rattle.text.proofs.Booleans.{false_true}
use Rattle.rules.proofs.Days.{none_there}
use Rattle.claim_decoder.specs.Carried.{Carried, carried_of}
use Rattle.claim_decoder.specs.Decode.{Names}
use Rattle.claim_calls.specs.Run.{Lent, call_of, tape_from}
use Rattle.claim_calls.proofs.Runs.{fresh_run}
use Rattle.claim_calls.proofs.Early.{dated, is_date}
use Rattle.line_owed.specs.Reached.{at_place, named, Reached}
use Rattle.line_owed.proofs.Accepted.{accepted}
use Rattle.line_owed.proofs.Reached.{kept_cleared}
use Rattle.claim_wholeday.specs.Decodes.{tape, day_after, decode_all}
use Rattle.claim_wholeday.specs.Claim.{accepts, accepted_of, WholeDay, calls_of, WholeDayRuns}
use Rattle.claim_wholeday.proofs.Decoded.{decoded}
use Rattle.claim_wholeday.proofs.Lists.{after_refused, tape_refused, shown_refused, not_accepted, after_taken, tape_taken, shown_taken, accepted_yes, kept_run, all_owed, stands_at_end, From, from_lines}

-- ---- the same accepted S lines, the same names

vacant_first : (n i : ℕ) → i < 512 → is_entered (at_place (cleared n) i) ≡ true → ⊥
unfolding cleared
vacant_first n i h q = false_true (sym none_there ∙ (ap is_entered (sym (get_or-replicate 512 i vacant vacant h)) ∙ q))

module _ (n m : ℕ) (cs ks : List Call) (no_date : accepted_of 68 (cleared n) cs ≡ []) (none-either : accepted_of 68 (cleared m) ks ≡ []) where
  abbrev e : Day
  e = day_after (cleared n) cs

  abbrev g : Day
  g = day_after (cleared m) ks

  kept_e : Reached e
  kept_e = kept_run cs (cleared n) (kept_cleared n)

  kept_g : Reached g
  kept_g = kept_run ks (cleared m) (kept_cleared m)

  -- a security of the first list is one of the second, under its name
  there_too : ((line : List ℕ) → member line (accepted_of 83 (cleared n) cs) ≡ true → member line (accepted_of 83 (cleared m) ks) ≡ true) → (i : ℕ) → i < 512 → is_entered (at_place e i) ≡ true → (is_entered (at_place g i) ≡ true) × (named e i ≡ named g i)
  there_too s i h q = ⊎_elim
      (λ (r : is_entered (at_place (cleared n) i) ≡ true). absurd (vacant_first n i h r))
      (λ (r : From (accepted_of 83 (cleared n) cs) i).
      let line = r.0 in
      let a = stands_at_end cs (cleared n) line (kept_cleared n) no_date r.1 in
      let b = stands_at_end ks (cleared m) line (kept_cleared m) none-either (s line r.1) in
      (subst (λ (j : ℕ). is_entered (at_place g j) ≡ true) r.2 b.is_entered_lem, subst (λ (j : ℕ). named e j ≡ named g j) r.2 (a.is_named ∙ sym b.is_named)))
      (from_lines cs (cleared n) (kept_cleared n) no_date i q)

names_same : (n m : ℕ) (cs ks : List Call) → accepted_of 68 (cleared n) cs ≡ [] → accepted_of 68 (cleared m) ks ≡ [] → ((line : List ℕ) → member line (accepted_of 83 (cleared n) cs) ≡ member line (accepted_of 83 (cleared m) ks)) → (day_after (cleared n) cs).names ≡ (day_after (cleared m) ks).names
names_same n m cs ks x y s = ext_get_or no_name a.names b.names (ka.lines ∙ sym kb.lines) (λ i h. at i (omega (arith, h, ka.lines)))
  where
    a : Day
    a = day_after (cleared n) cs

    b : Day
    b = day_after (cleared m) ks

    ka : Reached a
    ka = kept_e n m cs ks x y

    kb : Reached b
    kb = kept_g n m cs ks x y

    both_none : (i : ℕ) → i < 512 → (q : Bool) → is_entered (at_place b i) ≡ q → is_entered (at_place a i) ≡ false → named a i ≡ named b i
    both_none i h true e f = absurd (false_true (sym f ∙ (there_too m n ks cs y x (λ line k. s line ∙ k) i h e).0))
    both_none i h false e f = ka.unnamed i h f ∙ sym (kb.unnamed i h e)

    go : (i : ℕ) → i < 512 → (q : Bool) → is_entered (at_place a i) ≡ q → named a i ≡ named b i
    go i h true e = (there_too n m cs ks x y (λ line k. sym (s line) ∙ k) i h e).1
    go i h false e = both_none i h (is_entered (at_place b i)) refl e

    at : (i : ℕ) → i < 512 → named a i ≡ named b i
    at i h = go i h (is_entered (at_place a i)) refl

-- ---- up to the date line nothing is accepted, nothing prints

record Opening (cs : List Call) : Type 0 where
  number : ℕ
  rest : List Call
  facts_are : shown fresh cs ≡ shown (cleared number) rest
  tape_is : tape fresh cs ≡ tape (cleared number) rest
  no_more : accepted_of 68 (cleared number) rest ≡ []
  lines_are : accepted_of 83 fresh cs ≡ accepted_of 83 (cleared number) rest
  premise_is : Premise (cleared number) rest

nil_cons : (x : List ℕ) (l : List (List ℕ)) → [] ≡ x ∷ l → ⊥
nil_cons x l h = false_true (ap is_cons h)
  where
    is_cons : List (List ℕ) → Bool
    is_cons [] = false
    is_cons (x ∷ l) = true

tails : (x y : List ℕ) (l k : List (List ℕ)) → x ∷ l ≡ y ∷ k → l ≡ k
tails x y l k h = ap tail h
  where
    tail : List (List ℕ) → List (List ℕ)
    tail [] = []
    tail (x ∷ l) = l

later_lines : (c : Call) (cs : List Call) (r : Refusal) → refusal_of fresh c.line c.room ≡ some r → accepted_of 68 fresh (c ∷ cs) ≡ accepted_of 68 fresh cs
unfolding accepted_of pick
later_lines c cs r e = rw (not_accepted fresh c r e, after_refused fresh c r e)

refused_first : (c : Call) (cs : List Call) (r : Refusal) → refusal_of fresh c.line c.room ≡ some r → Opening cs → Opening (c ∷ cs)
unfolding shown tape accepted_of pick
refused_first c cs r e o = record {
  number = o.number;
  rest = o.rest;
  facts_are = rw (shown_refused fresh c r e, after_refused fresh c r e) o.facts_are;
  tape_is = rw (tape_refused fresh c r e, after_refused fresh c r e) o.tape_is;
  no_more = o.no_more;
  lines_are = rw (not_accepted fresh c r e, after_refused fresh c r e) o.lines_are;
  premise_is = o.premise_is;
}

module _ (c : Call) (cs : List Call) (free : refusal_of fresh c.line c.room ≡ none) where
  abbrev day_number : ℕ
  day_number = value_of (number_in (columns 2 9 c.line))

  is_d : eqb (column 1 c.line) 68 ≡ true
  unfolding undated fresh cleared opened
  is_d = is_date (eqb (column 1 c.line) 68) (accepted fresh c.line c.room free).dated

  is_dated : line_of c.line ≡ Dated day_number
  unfolding line_of
  is_dated = dated (column 1 c.line) c.line is_d

  after_date : after fresh c ≡ cleared day_number
  unfolding after_line
  after_date = after_taken fresh c free ∙ ap (after_line fresh (name_columns c.line)) is_dated

  no_print : tape_of fresh c ≡ []
  unfolding print_of
  no_print = tape_taken fresh c free ∙ ap (print_of fresh) is_dated

  no_fact : shown_by fresh c ≡ none
  unfolding fact_of
  no_fact = shown_taken fresh c free ∙ ap (fact_of fresh) is_dated

  no_security_line : (accepts fresh c && eqb (column 1 c.line) 83) ≡ false
  no_security_line = rw (accepted_yes fresh c free, eqb-true (column 1 c.line) 68 is_d)

  first_date : accepted_of 68 fresh (c ∷ cs) ≡ c.line ∷ accepted_of 68 (cleared day_number) cs
  unfolding accepted_of pick
  first_date = rw (accepted_yes fresh c free, is_d, after_date)

  date_first : (date : List ℕ) → accepted_of 68 fresh (c ∷ cs) ≡ date ∷ [] → Premise (after fresh c) cs → Opening (c ∷ cs)
  unfolding shown tape accepted_of pick
  date_first date d p = record {
    number = day_number;
    rest = cs;
    facts_are = rw (no_fact, after_date);
    tape_is = rw (no_print, after_date);
    no_more = tails c.line date (accepted_of 68 (cleared day_number) cs) [] (sym first_date ∙ d);
    lines_are = rw (no_security_line, after_date);
    premise_is = rw (← after_date) p;
  }

opening : (cs : List Call) (date : List ℕ) → accepted_of 68 fresh cs ≡ date ∷ [] → Premise fresh cs → Opening cs
unfolding accepted_of
opening [] date d p = absurd (nil_cons date [] d)
opening (c ∷ cs) date d p = go (refusal_of fresh c.line c.room) refl (λ r e. opening cs date (refused_lines r e) (rw (after_refused fresh c r e) at p.1))
  where
    refused_lines : (r : Refusal) → refusal_of fresh c.line c.room ≡ some r → accepted_of 68 fresh cs ≡ date ∷ []
    refused_lines r e = sym (later_lines c cs r e) ∙ d

    go : (o : Option Refusal) → refusal_of fresh c.line c.room ≡ o → ((r : Refusal) → refusal_of fresh c.line c.room ≡ some r → Opening cs) → Opening (c ∷ cs)
    go (some r) e ih = refused_first c cs r e (ih r e)
    go none e ih = date_first c cs e date d p.1

-- ---- one-sided: the facts are what the decoder finds

facts_found : (cs : List Call) (o : Opening cs) → shown fresh cs ≡ decode_all (day_after (cleared o.number) o.rest).names (length (tape fresh cs)) (carried_of (cleared o.number)) (tape fresh cs)
facts_found cs o =
    let day = cleared o.number in
    let names = (day_after day o.rest).names in
    let owed = all_owed o.rest day (kept_cleared o.number) o.no_more o.premise_is in
    o.facts_are
    ∙ (sym (decoded names o.rest day (length (tape day o.rest)) owed (omega arith))
    ∙ ap (λ (t : List ℕ). decode_all names (length t) (carried_of day) t) (sym o.tape_is))

-- every day begins with the same to carry
same_start : (n m : ℕ) → carried_of (cleared n) ≡ carried_of (cleared m)
unfolding carried_of cleared opened
same_start n m = refl

-- THE WHOLE DAY: where the tapes are equal, the facts are
pub whole_day : WholeDay
whole_day cs ks a =
    let x = opening cs a.date a.one_date a.premise in
    let y = opening ks a.date a.same_date a.other_premise in
    let lines : (line : List ℕ) → member line (accepted_of 83 (cleared x.number) x.rest) ≡ member line (accepted_of 83 (cleared y.number) y.rest) = λ line. ap (member line) (sym x.lines_are) ∙ (a.same_securities line ∙ ap (member line) y.lines_are) in
    let names = names_same x.number y.number x.rest y.rest x.no_more y.no_more lines in
    facts_found cs x
    ∙ (ap (λ (z : Names). decode_all z (length (tape fresh cs)) (carried_of (cleared x.number)) (tape fresh cs)) names
    ∙ (ap (λ (d : Carried). decode_all (day_after (cleared y.number) y.rest).names (length (tape fresh cs)) d (tape fresh cs)) (same_start x.number y.number)
    ∙ (ap (λ (t : List ℕ). decode_all (day_after (cleared y.number) y.rest).names (length t) (carried_of (cleared y.number)) t) a.same_tape
    ∙ sym (facts_found ks y))))

-- ---- and so of two runs of the engine

pub joined : (cs : List Lent) (day : Day) → tape_from day cs ≡ tape day (calls_of cs)
unfolding tape_from tape
joined [] day = refl
joined (c ∷ cs) day = ap (λ (t : List ℕ). tape_of day (call_of c) ++ t) (joined cs (after day (call_of c)))

pub whole_day_runs : WholeDayRuns
whole_day_runs s e t f cs ks out put a z r b y q h =
    let x = (fresh_run r a z).0 ∙ joined cs fresh in
    let w = (fresh_run q b y).0 ∙ joined ks fresh in
    whole_day (calls_of cs) (calls_of ks) (record { date = h.date; one_date = h.one_date; same_date = h.same_date; same_securities = h.same_securities; premise = h.premise; other_premise = h.other_premise; same_tape = sym x ∙ (h.same_tape ∙ w) })
