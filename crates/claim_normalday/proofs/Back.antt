-- A day in normal mode is read back from its tape: the same prints in order, under the same names, with the day's shown facts. Assumes nothing.
use Prim.Native.Nat.{ℕ}
use native.Mathlib.Omega.{arith}
use mathlib.Core.Path.{◌≡◌, refl, sym, ap, ◌∙◌, subst}
use mathlib.Core.Bool.{Bool, true, false}
use mathlib.Core.List.{List, [], ◌∷◌, ◌++◌, map}
use mathlib.Core.Option.{Option, none, some}
use lib.ListN.{length}
use Rattle.text.specs.Pick.{pick, opt}
use Rattle.rules.specs.Line.{line_of}
use Rattle.rules.specs.Announcement.{mode_text, level_text, step_text}
use Rattle.rules.specs.Day.{Day, Call, fresh, refusal_of, print_of, trade_print, correction_print, tape_of, after}
use Rattle.rules.specs.Shown.{Fact, entries, announced_if, fact_of, shown_by, shown}
use Rattle.rules.specs.NormalPrint.{ReadFact, read_fact, name_of, NormalPrint}
use Rattle.rules.specs.declared.Mode.TheVariants.{Normal}
use Rattle.rules.specs.declared.Line.{Line}
use Rattle.rules.specs.declared.Line.TheVariants.{Dated, Listed, Moded, Leveled, Stepped, Traded, Cancelled, Erred, Corrected}
use Rattle.rules.specs.declared.Refusal.{Refusal}
use Rattle.text.proofs.Booleans.{false_true}
use Rattle.claim_compose.proofs.Prints.{printable_normal}
use Rattle.line_owed.specs.Reached.{Reached}
use Rattle.claim_normal.proofs.Views.{day_printable}
use Rattle.line_owed.proofs.Reached.{kept_fresh, kept_call}
use Rattle.claim_calls.proofs.Runs.{fresh_run}
use Rattle.claim_longest.specs.Tape.{Reading, Prints, blank, onward, readings}
use Rattle.claim_longest.proofs.Tape.{tape_back}
use Rattle.claim_wholeday.specs.Claim.{calls_of}
use Rattle.claim_wholeday.specs.Decodes.{tape}
use Rattle.claim_wholeday.proofs.WholeDay.{joined}
use Rattle.claim_normalday.specs.Claim.{NormalRun}
use Rattle.claim_normalday.specs.Prints.{printed_by, printed_from, InNormal, no_call, a_call}

-- ---- what shows nothing prints nothing

is_some : Option Fact → Bool
is_some none = false
is_some (some f) = true

shows_some : {f : Fact} → some f ≡ none → ⊥
unfolding is_some
shows_some e = false_true (sym (ap is_some e))

unannounced : (t : List ℕ) → announced_if t ≡ none → t ≡ []
unfolding announced_if
unannounced [] e = refl
unannounced (c ∷ t) e = absurd (shows_some e)

unprinted : (b : Bool) (f : Fact) (t : List ℕ) → pick b (some f) none ≡ none → opt b t ≡ []
unfolding pick opt
unprinted true f t e = absurd (shows_some e)
unprinted false f t e = refl

silent : (day : Day) (l : Line) → fact_of day l ≡ none → print_of day l ≡ []
unfolding fact_of print_of trade_print correction_print
silent day (Dated n) e = refl
silent day (Listed l) e = refl
silent day (Moded m) e = unannounced (mode_text m day.settings.minimum) e
silent day (Leveled n) e = unannounced (level_text n) e
silent day (Stepped n) e = unannounced (step_text day.settings.mode n) e
silent day (Traded t) e = unprinted _ _ _ e
silent day (Cancelled t) e = absurd (shows_some e)
silent day (Erred t) e = absurd (shows_some e)
silent day (Corrected c) e = unprinted _ _ _ e

-- ---- one call

module _ (day : Day) (h : Reached day) (normal : day.settings.mode ≡ Normal) (c : Call) where
  -- a call that shows nothing leaves the tape as it is
  none_printed : shown_by day c ≡ none → tape_of day c ≡ []
  unfolding shown_by tape_of
  none_printed = go (refusal_of day c.line c.room) refl
    where
      go : (o : Option Refusal) → refusal_of day c.line c.room ≡ o → ◌≡◌ {A = Option Fact} (elim o [ some r ↦ none | none ↦ fact_of day (line_of c.line) ]) none → ◌≡◌ {A = List ℕ} (elim o [ some r ↦ [] | none ↦ print_of day (line_of c.line) ]) []
      go (some r) e k = refl
      go none e k = silent day (line_of c.line) k

  -- any other prints a normal print
  pub some_printed : (f : Fact) → shown_by day c ≡ some f → NormalPrint (tape_of day c) (name_of day (line_of c.line)) (read_fact f)
  unfolding shown_by tape_of
  some_printed f = go (refusal_of day c.line c.room) refl
    where
      go : (o : Option Refusal) → refusal_of day c.line c.room ≡ o → ◌≡◌ {A = Option Fact} (elim o [ some r ↦ none | none ↦ fact_of day (line_of c.line) ]) (some f) → NormalPrint (elim o [ some r ↦ [] | none ↦ print_of day (line_of c.line) ]) (name_of day (line_of c.line)) (read_fact f)
      go (some r) e k = absurd (shows_some (sym k))
      go none e k = printable_normal (day_printable day h normal c.line c.room f e k)

  one_call : {s : List ℕ} {l : List Reading} → Prints s l → (o : Option Fact) → shown_by day c ≡ o → Prints (tape_of day c ++ s) (printed_by day c o ++ l)
  unfolding printed_by
  one_call {s} {l} p none e = subst (λ t. Prints (t ++ s) l) (sym (none_printed e)) p
  one_call {s} {l} p (some f) e = onward (tape_of day c) (name_of day (line_of c.line)) s (read_fact f) l (some_printed f e) p

-- ---- the whole day

all_prints : (day : Day) (cs : List Call) → Reached day → InNormal day cs → Prints (tape day cs) (printed_from day cs)
unfolding tape printed_from
all_prints day _ h (no_call _) = blank
all_prints day _ h (a_call _ c cs n m) = one_call day h n c (all_prints (after day c) cs (kept_call day c h) m) (shown_by day c) refl

-- A DAY IN NORMAL MODE IS READ BACK FROM ITS TAPE
pub normal_day : (cs : List Call) → InNormal fresh cs → readings (length (tape fresh cs)) (tape fresh cs) ≡ printed_from fresh cs
normal_day cs n = tape_back (length (tape fresh cs)) (all_prints fresh cs kept_fresh n) (omega arith)

-- its facts are the day's shown facts
fact_of_lem : Reading → ReadFact
fact_of_lem r = r.fact

facts_by : (day : Day) (c : Call) (o : Option Fact) (l : List Reading) (m : List Fact) → map fact_of_lem l ≡ map read_fact m → map fact_of_lem (printed_by day c o ++ l) ≡ map read_fact (entries o ++ m)
unfolding printed_by fact_of_lem
facts_by day c none l m e = e
facts_by day c (some f) l m e = ap (λ x. read_fact f ∷ x) e

pub facts_shown : (day : Day) (cs : List Call) → map (λ r. r.fact) (printed_from day cs) ≡ map read_fact (shown day cs)
unfolding printed_from shown fact_of_lem
facts_shown day [] = refl
facts_shown day (c ∷ cs) = facts_by day c (shown_by day c) (printed_from (after day c) cs) (shown (after day c) cs) (facts_shown (after day c) cs)

-- ---- and so of a run of the engine

pub normal_run : NormalRun
normal_run s e cs out a z r n =
    let x = (fresh_run r a z).0 ∙ joined cs fresh in
    let p : readings (length out) out ≡ printed_from fresh (calls_of cs) = ap (λ t. readings (length t) t) x ∙ normal_day (calls_of cs) n in
    record { prints = p; facts = ap (map (λ q. q.fact)) p ∙ facts_shown fresh (calls_of cs) }
