-- `factlines` AND `explain`: whatever the reads, what they write is the text of the shown facts, and the explanations, of the lines of the joined input. Assumes nothing.
use Prim.Native.Nat.{ℕ, ◌+◌, ◌≤◌, ◌<◌}
use native.Mathlib.Omega.{arith}
use mathlib.Core.Path.{◌≡◌, refl, sym, ap, ◌∙◌}
use mathlib.Core.Bool.{Bool, true, false}
use mathlib.Core.List.{List, [], ◌∷◌, ◌++◌}
use mathlib.Core.Option.{Option, none, some}
use lib.ListN.{length, take, replicate}
use Rattle.text.specs.Pick.{pick}
use Rattle.rules.specs.Sizes.{width, longest_print}
use Rattle.rules.specs.Line.{line_of}
use Rattle.rules.specs.Day.{Day, fresh, print_of, refusal_of, tape_of, after, ample}
use Rattle.rules.specs.Shown.{Fact, announced_if, trade_fact, fact_of, shown_by}
use Rattle.rules.specs.declared.Line.{Line}
use Rattle.rules.specs.declared.Line.TheVariants.{Dated, Listed, Moded, Leveled, Stepped, Traded, Cancelled, Erred, Corrected}
use Rattle.rules.specs.declared.Refusal.{Refusal}
use Rattle.rules.specs.declared.Refusal.TheVariants.{Shape}
use Rattle.call_table.specs.Sizes.{table_size, names_size}
use Rattle.call_table.specs.Rows.{day_of}
use Rattle.feed_blocks.specs.Lines.{lines_by}
use Rattle.feed_gather.specs.Gather.{last_line}
use Rattle.feed_step.specs.Step.{opening}
use Rattle.feed_step.specs.Session.{Session}
use Rattle.line_owed.proofs.Accepted.{accepted}
use Rattle.facts_entry.proofs.Agree.{short_shown}
use Rattle.facts_line.proofs.Short.{announcement, line_short}
use Rattle.facts_line.specs.Lines as facts
use Rattle.facts_block.specs.Shows.{facts_program, fact_room}
use Rattle.facts_block.specs.Whole.{shown_text}
use Rattle.facts_block.proofs.Whole as shown
use Rattle.explain_fate.specs.Explained.{security_in, kind_in, fate_of, fate_by, explained_by}
use Rattle.explain_fate.specs.declared.Fate.TheVariants.{Refused}
use Rattle.explain_fate.proofs.Agree.{explained_small}
use Rattle.explain_text.proofs.Short as explanation
use Rattle.explain_text.specs.Lines as explanations
use Rattle.explain_block.specs.Explains.{explain_program, explanation_room}
use Rattle.explain_block.specs.Whole.{explained_text}
use Rattle.claim_programs.specs.Told.{Text, Tells}
use Rattle.claim_programs.specs.Exists.{Fits, Has}
use Rattle.claim_programs.proofs.Room.{same_refusal}
use Rattle.claim_programs.proofs.Exists.{session_exists}
use Rattle.claim_programs.proofs.Lines.{unshaped, refused}
use Rattle.claim_programs.proofs.Last.{all_told}
use Rattle.claim_programs.proofs.Session.{session_output}

abbrev nothing : Text
nothing day n l = []

-- ---- the shown facts

abbrev fact : Text
fact day n l = facts.line_of (shown_by day (ample l))

by_refusal : (day : Day) (line : List ℕ) (room : ℕ) (o : Option Refusal) → refusal_of day line room ≡ o → shown_by day (record { line = line; room = room }) ≡ elim o [ some r ↦ none | none ↦ fact_of day (line_of line) ]
unfolding shown_by
by_refusal day line room o e = ap (λ (x : Option Refusal). elim x [ some r ↦ none | none ↦ fact_of day (line_of line) ]) e

fact_long : (day : Day) (l : List ℕ) → (length l ≡ width → ⊥) → facts.line_of (shown_by day (ample l)) ≡ []
unfolding facts.line_of
fact_long day l h = ap facts.line_of (by_refusal day l longest_print (some Shape) (refused day l longest_print h))

facts_told : Tells facts_program fact nothing
unfolding shown_by
facts_told = record {
  ample_lent = λ n h. omega arith;
  out_is = λ st table names number c rows places reached enough. ap (λ (x : Option Refusal). facts.line_of (elim x [ some r ↦ none | none ↦ fact_of (day_of st table names) (line_of c.line) ])) (same_refusal (day_of st table names) c.line reached c.room enough);
  err_is = λ st table names number c rows places reached enough. refl;
  out_long = λ day number a b h k. fact_long day a h ∙ sym (fact_long day b k);
  err_long = λ day number a b h k. refl;
}

-- THE FACTS OF A DAY
pub day_facts : {block input out err : List ℕ} {whole : Bool} → width < length block → Session facts_program opening (replicate table_size 0) (replicate names_size 0) block input whole out err → out ≡ shown_text fresh (take last_line (lines_by whole input))
day_facts {block} {input} {out} {err} {whole} b s =
    (session_output facts_told b s).0 ∙ all_told fact (λ day n ls. shown_text day ls) (λ day n. shown.text_none day) (λ day n l ls. shown.text_on day l ls) fresh (lines_by whole input)

-- ---- the explanations

abbrev explained : Text
explained day n l = explanations.line_of n (explained_by day (ample l))

fate_at : (day : Day) (line : List ℕ) (room : ℕ) (o : Option Refusal) → refusal_of day line room ≡ o → fate_by day (record { line = line; room = room }) ≡ elim o [ some r ↦ Refused r | none ↦ fate_of day (line_of line) ]
unfolding fate_by
fate_at day line room o e = ap (λ (x : Option Refusal). elim x [ some r ↦ Refused r | none ↦ fate_of day (line_of line) ]) e

explained_long : (day : Day) (l : List ℕ) → (length l ≡ width → ⊥) → explained_by day (ample l) ≡ record { kind = 45; security = 0; fate = Refused Shape }
unfolding explained_by kind_in security_in pick
explained_long day l h = rw (unshaped l h, fate_at day l longest_print (some Shape) (refused day l longest_print h))

explanations_told : Tells explain_program explained nothing
unfolding explained_by fate_by
explanations_told = record {
  ample_lent = λ n h. omega arith;
  out_is = λ st table names number c rows places reached enough.
      ap (λ (x : Option Refusal). explanations.line_of number (record { kind = kind_in c.line; security = security_in c.line; fate = elim x [ some r ↦ Refused r | none ↦ fate_of (day_of st table names) (line_of c.line) ] })) (same_refusal (day_of st table names) c.line reached c.room enough);
  err_is = λ st table names number c rows places reached enough. refl;
  out_long = λ day number a b h k. ap (explanations.line_of number) (explained_long day a h ∙ sym (explained_long day b k));
  err_long = λ day number a b h k. refl;
}

explained_none : (day : Day) (n : ℕ) → explained_text day n [] ≡ []
unfolding explained_text
explained_none day n = refl

explained_more : (day : Day) (n : ℕ) (l : List ℕ) (ls : List (List ℕ)) → explained_text day n (l ∷ ls) ≡ explained day n l ++ explained_text (after day (ample l)) (n + 1) ls
unfolding explained_text
explained_more day n l ls = refl

-- THE EXPLANATIONS OF A DAY
pub day_explained : {block input out err : List ℕ} {whole : Bool} → width < length block → Session explain_program opening (replicate table_size 0) (replicate names_size 0) block input whole out err → out ≡ explained_text fresh 1 (take last_line (lines_by whole input))
day_explained {block} {input} {out} {err} {whole} b s =
    (session_output explanations_told b s).0 ∙ all_told explained explained_text explained_none explained_more fresh (lines_by whole input)

-- ---- and every input has a session of each

-- what an announcement shows is its print
if_most : (s : List ℕ) → announcement (announced_if s) ≤ length s
unfolding announced_if
if_most [] = omega arith
if_most (c ∷ s) = omega arith

choice_none : (b : Bool) (f : Fact) → announcement (some f) ≡ 0 → (n : ℕ) → announcement (pick b (some f) none) ≤ n
unfolding pick
choice_none true f e n = omega (arith, e)
choice_none false f e n = omega arith

line_most : (day : Day) (l : Line) → announcement (fact_of day l) ≤ length (print_of day l)
unfolding fact_of trade_fact print_of
line_most day (Dated n) = omega arith
line_most day (Listed l) = omega arith
line_most day (Moded m) = if_most _
line_most day (Leveled n) = if_most _
line_most day (Stepped n) = if_most _
line_most day (Traded t) = choice_none _ _ refl _
line_most day (Cancelled t) = omega arith
line_most day (Erred t) = omega arith
line_most day (Corrected c) = choice_none _ _ refl _

announced_most : (day : Day) (line : List ℕ) → announcement (shown_by day (ample line)) ≤ longest_print
unfolding shown_by tape_of
announced_most day line = go (refusal_of day line longest_print) refl
  where
    go : (o : Option Refusal) → refusal_of day line longest_print ≡ o → announcement (elim o [ some r ↦ none | none ↦ fact_of day (line_of line) ]) ≤ longest_print
    go (some r) e = omega arith
    go none e = omega (arith, line_most day (line_of line), (accepted day line longest_print e).fits)

facts_fit : Fits facts_program
facts_fit = record {
  out_fits = λ st table names number line n rows places reached early wide.
      omega (arith, line_short (shown_by (day_of st table names) (ample line)) (short_shown st table names line longest_print rows places), announced_most (day_of st table names) line);
  err_fits = λ st table names number line n k rows places reached early deep. omega arith;
}

explanations_fit : Fits explain_program
explanations_fit = record {
  out_fits = λ st table names number line n rows places reached early wide. omega (arith, explanation.line_short number (explained_by (day_of st table names) (ample line)) early (explained_small (day_of st table names) (ample line)));
  err_fits = λ st table names number line n k rows places reached early deep. omega arith;
}

pub facts_exist : (lent block input : List ℕ) → fact_room ≤ length lent → width < length block → Has facts_program opening (replicate table_size 0) (replicate names_size 0) block input
facts_exist lent block input a c = session_exists facts_told facts_fit lent [] a (omega arith) block input c

pub explanations_exist : (lent block input : List ℕ) → explanation_room ≤ length lent → width < length block → Has explain_program opening (replicate table_size 0) (replicate names_size 0) block input
explanations_exist lent block input a c = session_exists explanations_told explanations_fit lent [] a (omega arith) block input c
